-- A log fed part by part, with a line for each record decided (R41, R47).
-- Assumes nothing: these are definitions.
use Rattle.std.specs.Prelude.{◌≡◌, ℕ, ◌+◌, ◌%◌, ◌^◌, ◌≤◌, Bool, true, false, List, [], ◌∷◌, ◌++◌, length, drop, ◌==◌}
use Rattle.std.specs.Prelude.{Option as Optional, Some, None}
use Rattle.std.proofs.Math.Option.{Option, none, some}
use Rattle.std.specs.Prelude.{if◌then◌else◌}
use Rattle.record.specs.declared.answer.Answer.{Answer}
use Rattle.record.specs.Answer.{committed, impossible_length}
use Rattle.record_log.specs.declared.found.Cut.{Cut}
use Rattle.record_log.specs.declared.found.Cut.TheVariants as Cuts
use Rattle.record_log.specs.Log.{cut_told}
use Rattle.create.specs.Fresh.{Created}
use Rattle.pages.specs.declared.told.Happened.{Happened}
use Rattle.pages.specs.declared.told.Happened.TheVariants.{Decided, Refused, More, End}
use Rattle.pages.specs.declared.told.Fed.{Fed}
use Rattle.pages.specs.Pages.{Feeds}
use Rattle.demands.specs.Runs.{Whole}
use Rattle.demands.specs.Feeding.{verdicts_in}
use Rattle.lines.specs.declared.parts.Going.{Going}

-- a position counted on by so many records, in 64 bits (R13)
abbrev pub on_by : ℕ → ℕ → ℕ
on_by position n = (position + n) % 2 ^ 64

-- the log goes on behind a record, and where more is wanted
abbrev pub goes_on_by : Happened → Bool
goes_on_by (Decided a) = true
goes_on_by (Refused a) = false
goes_on_by More = true
goes_on_by End = false

-- calls over a part, from a pool and a carry on: each is lent what those before it have not taken, and the log goes on behind each. What they
-- gave back, how much of the part is taken, and the pool, the carry and how much is carried then
pub data CallsOver (part m carry : List ℕ) (carried : ℕ) : List Fed → ℕ → List ℕ → List ℕ → ℕ → Type 0 where
  none_yet : CallsOver part m carry carried [] 0 m carry carried
  one_more : {rs : List Fed} {n carried' : ℕ} {m' carry' m'' carry'' : List ℕ} {r : Fed}
      → CallsOver part m carry carried rs n m' carry' carried' → Feeds m' carry' carried' (drop n part) false r m'' carry'' → goes_on_by r.happened ≡ true
      → CallsOver part m carry carried (rs ++ (r ∷ [])) (n + r.taken) m'' carry'' r.carried

-- calls until the part is taken; or until one behind which the log does not go on, and then they have stopped
pub data PartCalls (part m carry : List ℕ) (carried : ℕ) : List Fed → List ℕ → List ℕ → ℕ → Bool → Type 0 where
  all_taken : {rs : List Fed} {n carried' : ℕ} {m' carry' : List ℕ}
      → CallsOver part m carry carried rs n m' carry' carried' → length part ≤ n → PartCalls part m carry carried rs m' carry' carried' false
  stops : {rs : List Fed} {n carried' : ℕ} {m' carry' m'' carry'' : List ℕ} {r : Fed}
      → CallsOver part m carry carried rs n m' carry' carried' → Feeds m' carry' carried' (drop n part) false r m'' carry'' → goes_on_by r.happened ≡ false
      → PartCalls part m carry carried (rs ++ (r ∷ [])) m'' carry'' r.carried true

-- a part fed, with a line for each verdict: the calls, and the position behind the last of the records decided
pub record PartFed (part : List ℕ) (position : ℕ) (m carry : List ℕ) (carried : ℕ) (m' carry' : List ℕ) (r : Going) : Type 0 where
  pub calls : List Fed
  pub made : PartCalls part m carry carried calls m' carry' r.carried r.stopped
  pub position_is : r.position ≡ on_by position (length (verdicts_in calls))

-- how a log ends by a refusal: at an impossible length with 11, else torn
abbrev pub refused_by : Answer → Cut
refused_by a = if a.number == impossible_length.number then Cuts.Impossible else Cuts.Torn

-- how a log ends by what the call says that is told it is over: at its end, torn, or at an impossible length
abbrev pub closed_by : Happened → Cut
closed_by (Decided a) = Cuts.Torn
closed_by (Refused a) = refused_by a
closed_by More = Cuts.Torn
closed_by End = Cuts.End

-- an answer that there may be, as the code has it
abbrev pub answer_told : Option Answer → Optional Answer
answer_told none = None
answer_told (some a) = Some a

-- the answer that is printed behind the last record (R41): what the rules say of what stands there, none where they have no number for it
abbrev pub ending_answer : Cut → Optional Answer
ending_answer c = answer_told (cut_told c).answer

-- the call that is told the log is over, with no byte more
pub record Finishes (m carry : List ℕ) (carried : ℕ) (m' carry' : List ℕ) (found : Cut) : Type 0 where
  pub call : Fed
  pub feeds : Feeds m carry carried [] true call m' carry'
  pub found_is : found ≡ closed_by call.happened

-- a whole log fed as one part, with a carry of its own and positions from 1 on (R13). From a pool that was just created, for whatever limits, it is
-- the card of the theorems (docs/THEOREMS.md) that has melded the whole log, and ends so
pub record LogMelded (log m m' : List ℕ) (found : Cut) : Type 0 where
  pub carry : List ℕ
  pub after : List ℕ
  pub carry' : List ℕ
  pub going : Going
  pub fed : PartFed log 1 m carry 0 after carry' going
  pub whole : (N Z : ℕ) (lent : List ℕ) → Created lent N Z committed m → (calls : List Fed) × Whole N Z log (verdicts_in calls) found m'
