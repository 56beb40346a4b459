-- A call takes no more than it is lent (`takes_within`), and a caller gets on (`gets_on`): a call that is lent a byte takes one at least,
-- unless it says 8, 7, 10 or 11 (R49).
-- Assumes nothing.
use Prim.Native.Nat.{ℕ, ◌+◌, ◌≤◌}
use mathlib.Core.Path.{◌≡◌, refl}
use mathlib.Core.Logic.{◌⊎◌, inl, inr}
use mathlib.Core.Bool.{Bool}
use mathlib.Core.List.{List}
use native.Mathlib.Omega.{arith}
use lib.ListN.{length, take, length-append, length-take}
use borrow.Author.Tests.{eqb-true}
use Rattle.record.specs.Answer.{unfit_pool, output_short, torn_log, impossible_length}
use Rattle.record.proofs.Cases.{by_case}
use Rattle.pages.specs.declared.told.Happened.TheVariants.{Refused}
use Rattle.pages.specs.declared.told.Fed.{Fed}
use Rattle.pages.specs.Pages.{bytes_in, feed_row, is_unfit}
use Rattle.pages.specs.Pages.{FeedRow, wrong_carry, stuck, cannot_go_on, record_whole, goes_on, at_end, torn, FeedsAs, Feeds}
use Rattle.pages.proofs.Rows.{row_facts, cannot_tells, whole_tells}
use Rattle.pages.proofs.Fronts.{such_lent, record_goes_on}
use Rattle.pages.proofs.Decided.{happened_is, taken_is, unfit_said, verdict_taken}

module _ {m carry : List ℕ} {carried : ℕ} {part : List ℕ} {over : Bool} {r : Fed} {m' carry' : List ℕ} (f : Feeds m carry carried part over r m' carry') where
  -- no more is in than was carried and is lent
  in_few : length (bytes_in carry carried part) ≤ carried + length part
  in_few = omega (arith, length-append (take carried carry) part, length-take carried carry)

  -- no more is taken than is lent
  pub takes_within : r.taken ≤ length part
  takes_within = go (feed_row carry carried part over) refl f.as_said
    where
      go : (row : FeedRow) → feed_row carry carried part over ≡ row → FeedsAs row m carry carried part r m' carry' → r.taken ≤ length part
      go wrong_carry e l = omega (arith, taken_is l.said)
      go stuck e l = omega (arith, taken_is l.said)
      go cannot_go_on e l =
          let t = row_facts cannot_go_on carry carried part over e in
          omega (arith, taken_is l.said, (cannot_tells (bytes_in carry carried part) t.2).0, in_few)
      go record_whole e d =
          let t = row_facts record_whole carry carried part over e in
          let on = record_goes_on (such_lent carry carried t.0) part t.1 in
          by_case (is_unfit d.melded) (λ u. omega (arith, taken_is (unfit_said d u).0)) λ u.
          omega (arith, verdict_taken d u (omega (arith, on)), (whole_tells (bytes_in carry carried part) t.3).1, in_few)
      go goes_on e l = omega (arith, taken_is l.said)
      go at_end e l = omega (arith, taken_is l.said)
      go torn e l = omega (arith, taken_is l.said)

  -- a call that is lent a byte takes one, or says 8, 7, 10 or 11
  pub gets_on : 1 ≤ length part
      → (1 ≤ r.taken) ⊎ ((r.happened ≡ Refused output_short) ⊎ ((r.happened ≡ Refused unfit_pool) ⊎ ((r.happened ≡ Refused torn_log) ⊎ (r.happened ≡ Refused impossible_length))))
  gets_on some = go (feed_row carry carried part over) refl f.as_said
    where
      go : (row : FeedRow) → feed_row carry carried part over ≡ row → FeedsAs row m carry carried part r m' carry'
          → (1 ≤ r.taken) ⊎ ((r.happened ≡ Refused output_short) ⊎ ((r.happened ≡ Refused unfit_pool) ⊎ ((r.happened ≡ Refused torn_log) ⊎ (r.happened ≡ Refused impossible_length))))
      go wrong_carry e l = inr (inl (happened_is l.said))
      go stuck e l = inr (inr (inr (inr (happened_is l.said))))
      go cannot_go_on e l = inr (inr (inr (inr (happened_is l.said))))
      go record_whole e d =
          let t = row_facts record_whole carry carried part over e in
          let on = record_goes_on (such_lent carry carried t.0) part t.1 in
          by_case (is_unfit d.melded) (λ u. inr (inr (inl (happened_is (unfit_said d u).0)))) λ u.
          inl (omega (arith, verdict_taken d u (omega (arith, on)), on))
      go goes_on e l = inl (omega (arith, taken_is l.said))
      go at_end e l = absurd (omega (arith, eqb-true (carried + length part) 0 (row_facts at_end carry carried part over e).5))
      go torn e l = inr (inr (inr (inl (happened_is l.said))))
