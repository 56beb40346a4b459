-- When `feed` says 10 and when 11 (R49): 10 only where the log is over (`torn_when_over`); and 11 for good: whatever part follows, it is said again, and
-- nothing changes (`impossible_for_good`).
-- Assumes nothing.
use Prim.Native.Nat.{ℕ, ◌≤◌}
use mathlib.Core.Path.{◌≡◌, refl, ap, ◌∙◌, subst}
use mathlib.Core.Bool.{Bool, true}
use mathlib.Core.List.{List}
use native.Mathlib.Omega.{arith}
use lib.ListN.{length, take, drop}
use lib.Seq.{length-take-le, take_at}
use Rattle.record.specs.Answer.{torn_log, impossible_length}
use Rattle.record.proofs.Cases.{by_case}
use Rattle.record_log.specs.Log.{impossible}
use Rattle.pages.specs.declared.told.Happened.TheVariants.{Refused}
use Rattle.pages.specs.declared.told.Fed.{Fed}
use Rattle.pages.specs.Pages.{bytes_in, cannot_be, feed_row, refusing, is_unfit}
use Rattle.pages.specs.Pages.{FeedRow, wrong_carry, stuck, cannot_go_on, record_whole, goes_on, at_end, torn, FeedsAs, Feeds}
use Rattle.pages.proofs.Rows.{row_facts, row_is, cannot_tells, cannot_is, may_join}
use Rattle.pages.proofs.Fronts.{Such, such_lent, length_take_two}
use Rattle.pages.proofs.Decided.{carried_is, unfit_said, verdict_said}
use Rattle.pages.proofs.Carries.{such_left}
use Rattle.pages.proofs.Refusals.{said_else}

module _ {m carry : List ℕ} {carried : ℕ} {part : List ℕ} {over : Bool} {r : Fed} {m' carry' : List ℕ} (f : Feeds m carry carried part over r m' carry') where
  -- 10 is said only to a call that is told the log is over
  pub torn_when_over : r.happened ≡ Refused torn_log → over ≡ true
  torn_when_over h = go (feed_row carry carried part over) refl f.as_said
    where
      go : (row : FeedRow) → feed_row carry carried part over ≡ row → FeedsAs row m carry carried part r m' carry' → over ≡ true
      go wrong_carry e l = absurd (said_else torn_log l.said refl (λ n. omega arith) h)
      go stuck e l = absurd (said_else torn_log l.said refl (λ n. omega arith) h)
      go cannot_go_on e l = absurd (said_else torn_log l.said refl (λ n. omega arith) h)
      go record_whole e d =
          by_case (is_unfit d.melded) (λ u. absurd (said_else torn_log (unfit_said d u).0 refl (λ n. omega arith) h)) λ u.
          absurd (said_else torn_log (verdict_said d u) refl (λ n. omega arith) h)
      go goes_on e l = absurd (said_else torn_log l.said refl (λ n. omega arith) h)
      go at_end e l = absurd (said_else torn_log l.said refl (λ n. omega arith) h)
      go torn e l = (row_facts torn carry carried part over e).4

  -- where 11 was said, the two bytes of a length that cannot be are carried
  length_carried : r.happened ≡ Refused impossible_length → Such carry' r.carried × (cannot_be (take r.carried carry') ≡ true)
  length_carried h = go (feed_row carry carried part over) refl f.as_said
    where
      go : (row : FeedRow) → feed_row carry carried part over ≡ row → FeedsAs row m carry carried part r m' carry'
          → Such carry' r.carried × (cannot_be (take r.carried carry') ≡ true)
      go wrong_carry e l = absurd (said_else impossible_length l.said refl (λ n. omega arith) h)
      go stuck e l =
          let t = row_facts stuck carry carried part over e in (
            such_left (such_lent carry carried t.0) f,
            ap (λ (n : ℕ). cannot_be (take n carry')) (carried_is l.said) ∙ ap (λ (c : List ℕ). cannot_be (take carried c)) l.carry_is ∙ t.1,
          )
      go cannot_go_on e l =
          let t = row_facts cannot_go_on carry carried part over e in
          let bytes : List ℕ = bytes_in carry carried part in
          let (two, i) = cannot_tells bytes t.2 in
          let size : length (take 2 bytes) ≡ 2 = length-take-le 2 bytes two in
          let enough : 2 ≤ length (take 2 bytes) = omega arith in (
            such_left (such_lent carry carried t.0) f,
            ap (λ (n : ℕ). cannot_be (take n carry')) (carried_is l.said)
                ∙ ap (λ (c : List ℕ). cannot_be (take 2 c)) l.carry_is
                ∙ ap cannot_be (take_at (take 2 bytes) (drop (length (take 2 bytes)) carry) 2 size)
                ∙ cannot_is (take 2 bytes) enough (ap impossible (length_take_two 2 bytes (omega arith)) ∙ i),
          )
      go record_whole e d =
          by_case (is_unfit d.melded) (λ u. absurd (said_else impossible_length (unfit_said d u).0 refl (λ n. omega arith) h)) λ u.
          absurd (said_else impossible_length (verdict_said d u) refl (λ n. omega arith) h)
      go goes_on e l = absurd (said_else impossible_length l.said refl (λ n. omega arith) h)
      go at_end e l = absurd (said_else impossible_length l.said refl (λ n. omega arith) h)
      go torn e l = absurd (said_else impossible_length l.said refl (λ n. omega arith) h)

-- where 11 was said, every call that is lent the carry as it was left says 11 too and changes nothing, whatever the part, and over or not
pub impossible_for_good : {m carry : List ℕ} {carried : ℕ} {part : List ℕ} {over : Bool} {r : Fed} {m' carry' : List ℕ}
    → Feeds m carry carried part over r m' carry' → r.happened ≡ Refused impossible_length
    → {n : List ℕ} {next : List ℕ} {ended : Bool} {q : Fed} {n' carry'' : List ℕ} → Feeds n carry' r.carried next ended q n' carry''
    → (q ≡ refusing impossible_length r.carried) × (n' ≡ n) × (carry'' ≡ carry')
impossible_for_good {r = r} {carry' = carry'} f h {n} {next} {ended} {q} {n'} {carry''} g =
    let (s, t) = length_carried f h in
    let row : feed_row carry' r.carried next ended ≡ stuck = row_is stuck carry' r.carried next ended (may_join carry' r.carried s.sized s.may, t) in
    let l : FeedsAs stuck n carry' r.carried next q n' carry'' = subst (λ (x : FeedRow). FeedsAs x n carry' r.carried next q n' carry'') row g.as_said in
    (l.said, l.pool, l.carry_is)
