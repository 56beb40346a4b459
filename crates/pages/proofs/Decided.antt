-- What is left of a call when the record's last byte is in: with 7 nothing has changed, and any other answer is a verdict of meld.
-- Assumes nothing.
use Prim.Native.Nat.{ℕ, ◌+◌, ◌≤◌, ◌<◌}
use mathlib.Core.Path.{◌≡◌, sym, ap, ◌∙◌}
use mathlib.Core.Bool.{true, false}
use mathlib.Core.List.{List}
use native.Mathlib.Omega.{arith}
use lib.Dec.{eqb}
use borrow.Author.Tests.{ne_eqb}
use Rattle.std.specs.Prelude.{if◌then◌else◌}
use Rattle.record.specs.Answer.{unfit_pool}
use Rattle.record.specs.Parse.{parse}
use Rattle.record.specs.Reader.{front}
use Rattle.record_log.specs.Log.{past_at}
use Rattle.rules.specs.Verdict.{Verdict, committed, conflict, too_old, no_room, malformed, ahead, positions_used_up, verdict_answer, verdict}
use Rattle.pool.specs.Image.{Fit, state_of}
use Rattle.meld.specs.declared.melding.Melded.{Melded}
use Rattle.meld.specs.After.{after_in}
use Rattle.meld.specs.Melds.{Melds}
use Rattle.pages.specs.declared.told.Happened.TheVariants.{Decided}
use Rattle.pages.specs.declared.told.Fed.{Fed}
use Rattle.pages.specs.Pages.{record_in, refusing, is_unfit, fed_by, RecordDecided}
use Rattle.pages.proofs.Rows.{no_both}

-- what is given back, field by field
pub happened_is : {r x : Fed} → r ≡ x → r.happened ≡ x.happened
happened_is e = ap (λ (y : Fed). y.happened) e

pub taken_is : {r x : Fed} → r ≡ x → r.taken ≡ x.taken
taken_is e = ap (λ (y : Fed). y.taken) e

pub carried_is : {r x : Fed} → r ≡ x → r.carried ≡ x.carried
carried_is e = ap (λ (y : Fed). y.carried) e

-- R23: no verdict is 7 or more
pub below_seven : (v : Verdict) → (verdict_answer v).number < 7
below_seven committed = omega arith
below_seven conflict = omega arith
below_seven too_old = omega arith
below_seven no_room = omega arith
below_seven malformed = omega arith
below_seven ahead = omega arith
below_seven positions_used_up = omega arith

-- a fit pool is never answered with 7
pub fit_answers : {m bytes m' : List ℕ} {a : Melded} → Melds m bytes m' a → Fit m → is_unfit a ≡ false
fit_answers {bytes = bytes} {a = a} h f =
    let v : Verdict = verdict (state_of f.arrangement) (parse bytes) in
    let e : a.answer.number ≡ (verdict_answer v).number = ap (λ (x : Melded). x.answer.number) (h.fit f.arrangement f.image).verdict_is in
    ne_eqb a.answer.number unfit_pool.number (λ s. omega (arith, below_seven v, e, s))

-- and stays fit
pub meld_stays_fit : {m bytes m' : List ℕ} {a : Melded} → Melds m bytes m' a → Fit m → Fit m'
meld_stays_fit {bytes = bytes} h f = record { arrangement = after_in f.arrangement (parse bytes); image = (h.fit f.arrangement f.image).leaves }

module _ {m carry : List ℕ} {carried : ℕ} {bytes : List ℕ} {r : Fed} {m' carry' : List ℕ} (d : RecordDecided m carry carried bytes r m' carry') where
  -- with 7 the call is refused, and nothing has changed
  pub unfit_said : is_unfit d.melded ≡ true → (r ≡ refusing unfit_pool carried) × (m' ≡ m) × (carry' ≡ carry)
  unfit_said u = (simp u at d.said, (d.melds.unfit (λ f. no_both u (fit_answers d.melds f))).unchanged, simp u at d.carry_is)

  -- any other answer is the record's verdict, and nothing is carried then
  pub verdict_said : is_unfit d.melded ≡ false → r ≡ record { happened = Decided d.melded.answer; looks = d.melded.looks; taken = r.taken; carried = 0 }
  verdict_said u =
      let e = simp u at d.said in
      e ∙ ap (λ (y : Fed). record { happened = Decided d.melded.answer; looks = d.melded.looks; taken = y.taken; carried = 0 }) (sym e)

  -- what was carried and what is taken make up the record
  pub verdict_taken : is_unfit d.melded ≡ false → carried ≤ past_at bytes 0 → carried + r.taken ≡ past_at bytes 0
  verdict_taken u h = let e : r.taken ≡ (fed_by d.melded carried bytes).taken = taken_is d.said in omega (arith, simp u at e)

  pub verdict_carry : is_unfit d.melded ≡ false → carry' ≡ (if eqb carried 0 then carry else front (record_in bytes) carry)
  verdict_carry u = simp u at d.carry_is
