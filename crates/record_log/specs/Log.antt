-- What stands at a place of a log (R14), and what is handed out there (R15).
-- Assumes nothing: these are definitions.
use Rattle.std.specs.Prelude.{ℕ, ◌+◌, ◌-◌, ◌≤◌, ◌≡◌, Bool, ◌||◌, List, [], length, take, drop, ltb, eqb}
use Rattle.std.proofs.Math.Option.{Option, none, some}
use Rattle.std.specs.Borrow.{Bor}
use Rattle.words.specs.Choice.{value_or}
use Rattle.std.specs.Prelude.{if◌then◌else◌}
use Rattle.words.specs.Word.{word}
use Rattle.record.specs.declared.answer.Answer.{Answer}
use Rattle.record.specs.Answer.{torn_log, impossible_length}
use Rattle.record_log.specs.declared.found.Cut.{Cut}
use Rattle.record_log.specs.declared.found.Cut.TheVariants.{End, Torn, Impossible, Record}

-- R14: the least length of a record that can be cut out
abbrev pub min_length : ℕ
min_length = 7

-- R14: the largest
abbrev pub max_length : ℕ
max_length = 13833

-- R4: the length that the two bytes at a place say
abbrev pub length_at : List ℕ → ℕ → ℕ
length_at log place = word 2 log place

-- R14: the place past the record at a place: its two bytes of length, and as many more as they say
abbrev pub past_at : List ℕ → ℕ → ℕ
past_at log place = place + 2 + length_at log place

-- R14: the place is exactly at the end
abbrev pub ends_at : List ℕ → ℕ → Bool
ends_at log place = eqb place (length log)

-- R14: fewer than two bytes are left at the place, as at every place past the end
abbrev pub no_length_at : List ℕ → ℕ → Bool
no_length_at log place = ltb (length log) (place + 2)

-- R14: a length that no record has
abbrev pub impossible : ℕ → Bool
impossible n = ltb n min_length || ltb max_length n

-- R14: the record would run past the end
abbrev pub runs_past : List ℕ → ℕ → Bool
runs_past log place = ltb (length log) (past_at log place)

-- a whole record stands at the place, and next is the place past it (R14): its length is from 7 to 13,833, and it does not run past the end
pub record RecordAt (log : List ℕ) (place next : ℕ) : Type 0 where
  pub least : min_length ≤ length_at log place
  pub most : length_at log place ≤ max_length
  pub past : next ≡ past_at log place
  pub inside : next ≤ length log

-- R14: what stands at a place, the first row that applies
unfoldable pub cut_at : List ℕ → ℕ → Cut
cut_at log place =
    if ends_at log place then End else
    if no_length_at log place then Torn else
    if impossible (length_at log place) then Impossible else
    if runs_past log place then Torn else
    Record (past_at log place)

-- what is told of a place (R14): the answer, where the rules have a number for it, and the place past the record, where one is handed out
pub record CutTold : Type 0 where
  pub answer : Option Answer
  pub past : Option ℕ

-- R3, of each case: "end" has no number and hands nothing out; a torn log is 10, an impossible length 11; a record has no number, and its place
-- past it is told
abbrev pub cut_told : Cut → CutTold
cut_told End = record { answer = none; past = none }
cut_told Torn = record { answer = some torn_log; past = none }
cut_told Impossible = record { answer = some impossible_length; past = none }
cut_told (Record next) = record { answer = none; past = some next }

-- R14: what `cut` promises of its answer
pub record CutIs (log : List ℕ) (place : ℕ) (r : Cut) : Type 0 where
  pub told : cut_told r ≡ cut_told (cut_at log place)

-- R15: the part handed out: a record's bytes, and none where there is no record
abbrev pub part_of : Cut → List ℕ → ℕ → List ℕ
part_of End log place = []
part_of Torn log place = []
part_of Impossible log place = []
part_of (Record next) log place = take (next - place) (drop place log)

-- R15: where the part handed out starts, counted from the log's first byte: a record at its place, the empty part at 0
abbrev pub start_of : Cut → ℕ → ℕ
start_of End place = 0
start_of Torn place = 0
start_of Impossible place = 0
start_of (Record next) place = place

-- R15: the slice r is the part handed out at a place of the lent log: its bytes, and where it lies, in the log's own memory
pub record HandedOut (log : Bor (List ℕ)) (place : ℕ) (r : Bor (List ℕ)) : Type 0 where
  pub bytes : r.now ≡ part_of (cut_at log.now place) log.now place
  pub block : r.ref_ptr.0 ≡ log.ref_ptr.0
  pub start : r.ref_ptr.1 ≡ log.ref_ptr.1 + start_of (cut_at log.now place) place

-- two slices are one (R43): the same bytes, at the same place of the same memory. (What else a slice has in the logic is the name under
-- which it is tracked there, which no program sees.)
pub record SameSlice (r q : Bor (List ℕ)) : Type 0 where
  pub bytes : r.now ≡ q.now
  pub block : r.ref_ptr.0 ≡ q.ref_ptr.0
  pub start : r.ref_ptr.1 ≡ q.ref_ptr.1

-- R15: the place afterwards: past a record, and else the same
abbrev pub place_after : Cut → ℕ → ℕ
place_after c place = value_or place (cut_told c).past
