-- Refresh (R38), over bytes: what it answers and what it leaves in the output, by the state that the pool means. Order 7, 4, 5, 2, 1, 8, 0.
-- Assumes nothing: these are definitions.
use Rattle.std.specs.Prelude.{ℕ, ◌≡◌, List, length, ltb}
use Rattle.std.proofs.Math.Option.{Option}
use Rattle.record.specs.declared.answer.Answer.{Answer}
use Rattle.record.specs.Answer.{committed, unfit_pool, output_short}
use Rattle.record.specs.Record.{Rec, bytes_of}
use Rattle.record.specs.Parse.{parse}
use Rattle.record.specs.Reader.{front}
use Rattle.std.specs.Prelude.{if◌then◌else◌}
use Rattle.rules.specs.State.{State}
use Rattle.rules.specs.Verdict.{verdict_answer}
use Rattle.rules.specs.Refresh.{Refreshed, done, refused, refreshed_answer, refresh}
use Rattle.pool.specs.Image.{Arrangement, Image, Fit, state_of}

-- R38: the answer, and the output afterwards
pub record RefreshOutcome : Type 0 where
  pub answer : Answer
  pub output : List ℕ

-- R38: the two together
abbrev pub refresh_outcome : Answer → List ℕ → RefreshOutcome
refresh_outcome a output = record { answer = a; output = output }

-- R38: a refusal leaves the output as it was; so does 8, for an output shorter than the record; on 0 the record is its front
unfoldable pub left_by : Refreshed → List ℕ → RefreshOutcome
left_by (refused v) output = refresh_outcome (verdict_answer v) output
left_by (done r) output =
    if ltb (length output) (length (bytes_of r)) then refresh_outcome output_short output else
    refresh_outcome committed (front (bytes_of r) output)

-- R38: at a state, for the record that the bytes are, none if they are malformed, and an output
abbrev pub refreshed_of : State → Option Rec → List ℕ → RefreshOutcome
refreshed_of S m output = left_by (refresh S m) output

-- R38: what refresh asks of a record in a pool m, before it looks at the output: 4, 5, 2 or 1, the first that applies, or 0
abbrev pub AskedIs : List ℕ → List ℕ → Answer → Type 0
AskedIs m original a = (A : Arrangement) → Image m A → a ≡ refreshed_answer (refresh (state_of A) (parse original))

-- R38: what `refresh` promises of a pool m, an original and an output as it was: the answer a, and the output afterwards
pub record RefreshIs (m original before : List ℕ) (a : Answer) (after : List ℕ) : Type 0 where
  pub fit : (A : Arrangement) → Image m A → refresh_outcome a after ≡ refreshed_of (state_of A) (parse original) before
  pub unfit : (Fit m → ⊥) → refresh_outcome a after ≡ refresh_outcome unfit_pool before
