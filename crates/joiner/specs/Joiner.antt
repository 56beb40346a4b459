-- What the joiner answers, and what it leaves in its output.
-- Assumes nothing: these are definitions.
use Rattle.std.specs.Prelude.{ℕ, true, ◌≡◌, List, length, take, leb, Result, Ok, Err}
use Rattle.std.proofs.Math.Option.{Option, none, some}
use Rattle.std.specs.Prelude.{if◌then◌else◌}
use Rattle.record.specs.declared.answer.Answer.{Answer}
use Rattle.record.specs.Answer.{output_short, cannot_join}
use Rattle.record.specs.Record.{Rec, bytes_of}
use Rattle.record.specs.Parse.{parse}
use Rattle.record.specs.Reader.{front}
use Rattle.joiner.specs.Joined.{joined_of, can_join, joined_if}

-- R56: what a call gives back and what it leaves in the output
pub record JoinOutcome : Type 0 where
  pub joined : Result ℕ Answer
  pub left : List ℕ

-- R56: the two together
abbrev pub join_outcome : Result ℕ Answer → List ℕ → JoinOutcome
join_outcome j l = record { joined = j; left = l }

-- R56: how many bytes were joined
abbrev pub joined_to : List ℕ → Result ℕ Answer
joined_to bytes = Ok (length bytes)

-- R56: what the joiner answers and leaves, the first row that applies
unfoldable pub join_of : Option Rec → List ℕ → JoinOutcome
join_of none output = join_outcome (Err cannot_join) output
join_of (some j) output =
    if leb (length (bytes_of j)) (length output)
    then join_outcome (joined_to (bytes_of j)) (front (bytes_of j) output)
    else join_outcome (Err output_short) output

-- R56: what `join` promises of two records' bytes and of the output as it was: what it gives back, and the output afterwards
abbrev pub JoinsAs : List ℕ → List ℕ → List ℕ → Result ℕ Answer → List ℕ → Type 0
JoinsAs a b before j after = join_outcome j after ≡ join_of (joined_if (parse a) (parse b)) before

-- R56: what a size that was given says: the two records that the bytes are, that they can be joined, whose size it is, and what stands at the front
pub record JoinGave (a b : List ℕ) (size : ℕ) (after : List ℕ) : Type 0 where
  pub first : Rec
  pub second : Rec
  pub first_is : parse a ≡ some first
  pub second_is : parse b ≡ some second
  pub can : can_join first second ≡ true
  pub size_is : size ≡ length (bytes_of (joined_of first second))
  pub stands : take size after ≡ bytes_of (joined_of first second)
