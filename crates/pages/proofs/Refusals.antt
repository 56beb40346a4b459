-- When a call does not say 8 and does not say 7: lent a carry that may be, and lent a fit pool. And a fit pool stays fit.
-- Assumes nothing.
use Prim.Native.Nat.{ℕ, suc}
use mathlib.Core.Path.{◌≡◌, refl, sym, ap, ◌∙◌, subst}
use mathlib.Core.Bool.{Bool}
use mathlib.Core.List.{List}
use native.Mathlib.Omega.{arith}
use Rattle.record.specs.declared.answer.Answer.{Answer}
use Rattle.record.specs.Answer.{unfit_pool, output_short}
use Rattle.record.proofs.Cases.{by_case}
use Rattle.pool.specs.Image.{Fit}
use Rattle.pages.specs.declared.told.Happened.{Happened}
use Rattle.pages.specs.declared.told.Happened.TheVariants.{Decided, Refused, More, End}
use Rattle.pages.specs.declared.told.Fed.{Fed}
use Rattle.pages.specs.Pages.{feed_row, is_unfit}
use Rattle.pages.specs.Pages.{FeedRow, wrong_carry, stuck, cannot_go_on, record_whole, goes_on, at_end, torn, FeedsAs, Feeds}
use Rattle.pages.proofs.Rows.{row_facts, may_join, no_both}
use Rattle.pages.proofs.Fronts.{Such}
use Rattle.pages.proofs.Decided.{fit_answers, meld_stays_fit, unfit_said, verdict_said}

-- a number for what happened that tells refusals apart, and from the rest
abbrev refusal : Happened → ℕ
refusal (Decided a) = 0
refusal (Refused a) = suc a.number
refusal More = 0
refusal End = 0

module _ {r : Fed} where
  -- another refusal was said, or none
  pub said_else : (a : Answer) {what : Happened} {x : Fed} → r ≡ x → x.happened ≡ what → (refusal what ≡ suc a.number → ⊥) → r.happened ≡ Refused a → ⊥
  said_else a e h n s = n (ap refusal (sym h) ∙ ap (λ (y : Fed). refusal y.happened) (sym e) ∙ ap refusal s)

module _ {m carry : List ℕ} {carried : ℕ} {part : List ℕ} {over : Bool} {r : Fed} {m' carry' : List ℕ} (f : Feeds m carry carried part over r m' carry') where
  -- 8 is not said of a carry that may be
  pub such_never_8 : Such carry carried → r.happened ≡ Refused output_short → ⊥
  such_never_8 s = go (feed_row carry carried part over) refl f.as_said
    where
      go : (row : FeedRow) → feed_row carry carried part over ≡ row → FeedsAs row m carry carried part r m' carry' → r.happened ≡ Refused output_short → ⊥
      go wrong_carry e l = no_both (may_join carry carried s.sized s.may) (row_facts wrong_carry carry carried part over e)
      go stuck e l = said_else output_short l.said refl (λ n. omega arith)
      go cannot_go_on e l = said_else output_short l.said refl (λ n. omega arith)
      go record_whole e d =
          by_case (is_unfit d.melded) (λ u. said_else output_short (unfit_said d u).0 refl (λ n. omega arith)) λ u.
          said_else output_short (verdict_said d u) refl (λ n. omega arith)
      go goes_on e l = said_else output_short l.said refl (λ n. omega arith)
      go at_end e l = said_else output_short l.said refl (λ n. omega arith)
      go torn e l = said_else output_short l.said refl (λ n. omega arith)

  -- 7 is not said of a fit pool
  pub fit_never_7 : Fit m → r.happened ≡ Refused unfit_pool → ⊥
  fit_never_7 p = go (feed_row carry carried part over) f.as_said
    where
      go : (row : FeedRow) → FeedsAs row m carry carried part r m' carry' → r.happened ≡ Refused unfit_pool → ⊥
      go wrong_carry l = said_else unfit_pool l.said refl (λ n. omega arith)
      go stuck l = said_else unfit_pool l.said refl (λ n. omega arith)
      go cannot_go_on l = said_else unfit_pool l.said refl (λ n. omega arith)
      go record_whole d = said_else unfit_pool (verdict_said d (fit_answers d.melds p)) refl (λ n. omega arith)
      go goes_on l = said_else unfit_pool l.said refl (λ n. omega arith)
      go at_end l = said_else unfit_pool l.said refl (λ n. omega arith)
      go torn l = said_else unfit_pool l.said refl (λ n. omega arith)

  -- a fit pool stays fit
  pub feed_stays_fit : Fit m → Fit m'
  feed_stays_fit p = go (feed_row carry carried part over) f.as_said
    where
      go : (row : FeedRow) → FeedsAs row m carry carried part r m' carry' → Fit m'
      go wrong_carry l = subst Fit (sym l.pool) p
      go stuck l = subst Fit (sym l.pool) p
      go cannot_go_on l = subst Fit (sym l.pool) p
      go record_whole d = meld_stays_fit d.melds p
      go goes_on l = subst Fit (sym l.pool) p
      go at_end l = subst Fit (sym l.pool) p
      go torn l = subst Fit (sym l.pool) p
