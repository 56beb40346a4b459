-- A log fed in parts (R49): calls of `feed` one after the other, each answering whatever its promise allows.
-- Assumes nothing: these are definitions.
use Rattle.std.specs.Prelude.{ℕ, ◌+◌, ◌≤◌, ◌≡◌, Bool, true, false, List, [], ◌∷◌, ◌++◌, eqb, length, take, drop}
use Rattle.std.proofs.Math.Option.{Option, none, some}
use Rattle.std.specs.Prelude.{if◌then◌else◌}
use Rattle.record.specs.Answer.{torn_log, impossible_length}
use Rattle.record_log.specs.declared.found.Cut.{Cut}
use Rattle.record_log.specs.declared.found.Cut.TheVariants as Cuts
use Rattle.meld.specs.declared.melding.Melded.{Melded}
use Rattle.pages.specs.declared.told.Happened.{Happened}
use Rattle.pages.specs.declared.told.Happened.TheVariants.{Decided, Refused, More, End}
use Rattle.pages.specs.declared.told.Fed.{Fed}
use Rattle.pages.specs.Pages.{carry_size, may_carry, Feeds}
use Rattle.demands.specs.Runs.{Card}

-- WHAT CALLS TELL

-- R47: the verdict that a call gives, with its looks: one where it decides a record, else none
abbrev pub verdict_in : Happened → ℕ → List Melded
verdict_in (Decided a) looks = record { answer = a; looks = looks } ∷ []
verdict_in (Refused a) looks = []
verdict_in More looks = []
verdict_in End looks = []

-- R49: the verdicts that calls give, in their order
abbrev pub verdicts_in : List Fed → List Melded
verdicts_in [] = []
verdicts_in (r ∷ rs) = verdict_in r.happened r.looks ++ verdicts_in rs

-- R49: what a call says of the log's ending: "end", 10 for a torn log, or 11 for an impossible length; most calls say nothing of it
abbrev pub ending_in : Happened → Option Cut
ending_in (Decided a) = none
ending_in (Refused a) =
    if eqb a.number torn_log.number then some Cuts.Torn else
    if eqb a.number impossible_length.number then some Cuts.Impossible else
    none
ending_in More = none
ending_in End = some Cuts.End

-- ANY RUN OF CALLS

-- R49: calls from a pool and a carry with nothing carried on, over a log: what each call gave back; how many bytes of the log were taken so far;
-- the pool, the carry and how much of it is carried then. Each call is lent a front of what is not taken yet, of any length, and is told that
-- the log is over only if that is all of it
pub data Feeding (log m carry : List ℕ) : List Fed → ℕ → List ℕ → List ℕ → ℕ → Type 0 where
  no_call : Feeding log m carry [] 0 m carry 0
  one_more : {rs : List Fed} {taken carried : ℕ} {m' carry' m'' carry'' : List ℕ} {r : Fed}
      → Feeding log m carry rs taken m' carry' carried
      → (n : ℕ) (over : Bool) → (over ≡ true → length log ≤ taken + n)
      → Feeds m' carry' carried (take n (drop taken log)) over r m'' carry''
      → Feeding log m carry (rs ++ (r ∷ [])) (taken + r.taken) m'' carry'' r.carried

-- R49: one call more on what such calls have left, lent and told as they are: what it gives back, and the pool and the carry then
pub record OneMore (log : List ℕ) (taken : ℕ) (m carry : List ℕ) (carried : ℕ) (r : Fed) (m' carry' : List ℕ) : Type 0 where
  pub n : ℕ
  pub over : Bool
  pub all_of_it : over ≡ true → length log ≤ taken + n
  pub feeds : Feeds m carry carried (take n (drop taken log)) over r m' carry'

-- R49: how far calls have come: a card has melded the log up to a place, the bytes from there to what is taken are carried, and they may be
pub record FedSoFar (N Z : ℕ) (log : List ℕ) (rs : List Fed) (taken : ℕ) (m carry : List ℕ) (carried : ℕ) : Type 0 where
  pub place : ℕ
  pub card : Card N Z log (verdicts_in rs) place m
  pub taken_is : place + carried ≡ taken
  pub inside : taken ≤ length log
  pub carried_are : take carried carry ≡ take carried (drop place log)
  pub sized : length carry ≡ carry_size
  pub may : may_carry carry carried ≡ true

-- A LIST OF PARTS

-- R49: a log that comes in parts, from a pool and a carry on. Each part is lent, and what a call has not taken of it is lent again; when
-- nothing is left of it comes the next, and behind the last one a call with an empty part that is told the log is over. It ends where a
-- call says how the log ends: what each call gave back, the pool then, and the ending
pub data PartsFed : List (List ℕ) → List ℕ → List ℕ → ℕ → List Fed → List ℕ → Cut → Type 0 where
  next_part : {parts : List (List ℕ)} {m carry m' : List ℕ} {carried : ℕ} {rs : List Fed} {last : Cut}
      → PartsFed parts m carry carried rs m' last → PartsFed ([] ∷ parts) m carry carried rs m' last
  part_goes_on : {part : List ℕ} {parts : List (List ℕ)} {m carry m' carry' m'' : List ℕ} {carried : ℕ} {r : Fed} {rs : List Fed} {last : Cut}
      → Feeds m carry carried part false r m' carry' → ending_in r.happened ≡ none
      → PartsFed (drop r.taken part ∷ parts) m' carry' r.carried rs m'' last
      → PartsFed (part ∷ parts) m carry carried (r ∷ rs) m'' last
  breaks_off : {part : List ℕ} {parts : List (List ℕ)} {m carry m' carry' : List ℕ} {carried : ℕ} {r : Fed} {last : Cut}
      → Feeds m carry carried part false r m' carry' → ending_in r.happened ≡ some last
      → PartsFed (part ∷ parts) m carry carried (r ∷ []) m' last
  is_over : {m carry m' carry' : List ℕ} {carried : ℕ} {r : Fed} {last : Cut}
      → Feeds m carry carried [] true r m' carry' → ending_in r.happened ≡ some last
      → PartsFed [] m carry carried (r ∷ []) m' last
