-- NO SECOND ANSWER meets a promise of the log reader. The log is lent by `&`, so no byte of it changes: what a call gives back and
-- where it leaves the reader is all there is to fix.
-- Assumes nothing.
use mathlib.Core.Path.{◌≡◌, sym, ◌∙◌}
use Prim.Native.Nat.{ℕ}
use mathlib.Core.List.{List}
use denote.Ref.{Bor}
use Rattle.record_log.specs.Log.{HandedOut, SameSlice}
use Rattle.record_log.proofs.Only.{only_cut, only_part}
use Rattle.log_reader.specs.declared.LogReader.{LogReader}
use Rattle.log_reader.specs.declared.Step.{Step}
use Rattle.log_reader.specs.declared.Move.{Move}
use Rattle.log_reader.specs.LogReader.{Opened, PlaceIs, Stepped, SameStep, Moved}

-- two readers with the same log and the same place are one
reader_same : (r q : LogReader) → r.log ≡ q.log → r.place ≡ q.place → r ≡ q
reader_same r q e f = λ i. record { log = e i; place = f i }

-- `new`: one reader for each lent log
pub only_new : (lent : Bor (List ℕ)) (r q : LogReader) → Opened lent r → Opened lent q → r ≡ q
only_new lent r q a b = reader_same r q (a.log ∙ sym b.log) (a.place ∙ sym b.place)

-- `place`: one number for each reader
pub only_place : (reader : LogReader) (n m : ℕ) → PlaceIs reader n → PlaceIs reader m → n ≡ m
only_place reader n m a b = a ∙ sym b

-- `step`: one step for each reader, and one reader afterwards
pub only_step : (before after then : LogReader) (r q : Step) → Stepped before after r → Stepped before then q → SameStep r q × (after ≡ then)
only_step before after then r q a b = (
  record {
    found = only_cut before.log.now before.place r.found q.found a.found b.found;
    part = only_part before.log before.place r.part q.part a.part b.part;
  },
  reader_same after then (a.log ∙ sym b.log) (a.place ∙ sym b.place),
)

-- `step_at`: one case and one place for each log and place
pub only_step_at : (log : List ℕ) (place : ℕ) (r q : Move) → Moved log place r → Moved log place q → r ≡ q
only_step_at log place r q a b =
    λ i. record { found = only_cut log place r.found q.found a.found b.found i; place = (a.after ∙ sym b.after) i }

-- `part_at`: one slice for each log and place
pub only_part_at : (log : Bor (List ℕ)) (place : ℕ) (r q : Bor (List ℕ)) → HandedOut log place r → HandedOut log place q → SameSlice r q
only_part_at = only_part

-- the step for callers that hold no reader is the reader's own: the same case, and the place where it leaves the reader
pub step_at_as_step : (before after : LogReader) (r : Step) (q : Move) → Stepped before after r → Moved before.log.now before.place q
    → (q.found ≡ r.found) × (q.place ≡ after.place)
step_at_as_step before after r q a b =
    (only_cut before.log.now before.place q.found r.found b.found a.found, b.after ∙ sym a.place)
