-- Any log in parts can be fed: from a pool that creation has answered 0 for and any carry of 13,835 bytes, with any feed that keeps its promise
-- (`some_feeding`). So nothing that is said of such runs is said of none. And the promise can be kept wherever meld's can (`some_feed`).
-- The idea: the carry may be and the pool is fit after each call, so neither 8 nor 7 is said; then a call takes a byte (`gets_on`) or says
-- how the log ends, and with nothing left it says so (`over_ends`).
-- Assumes nothing.
use Prim.Native.Nat.{ℕ, zero, suc, ◌≤◌}
use mathlib.Core.Path.{◌≡◌, refl, sym, ap, ◌∙◌, subst}
use mathlib.Core.Logic.{⊎_elim}
use mathlib.Core.Bool.{Bool, true, false}
use mathlib.Core.Option.{Option, none, some}
use mathlib.Core.List.{List, [], ◌∷◌, ◌++◌}
use native.Mathlib.Omega.{arith}
use lib.ListN.{length, drop, length-drop}
use lib.Seq.{take-append_seam, drop-append_seam}
use Rattle.words.specs.Word.{Bytes}
use Rattle.words.specs.Laws.{bytes_take, bytes_drop}
use Rattle.record.specs.Answer.{committed, unfit_pool, output_short, torn_log, impossible_length}
use Rattle.record.proofs.Cases.{no_some}
use Rattle.record_log.specs.declared.found.Cut.{Cut}
use Rattle.record_log.specs.declared.found.Cut.TheVariants as Cuts
use Rattle.record_log.specs.Walk.{joined}
use Rattle.pool.specs.Image.{Fit}
use Rattle.create.specs.Fresh.{Created}
use Rattle.pages.specs.declared.told.Happened.TheVariants.{Refused}
use Rattle.pages.specs.declared.told.Fed.{Fed}
use Rattle.pages.specs.Pages.{carry_size, bytes_in, record_in, feed_row, fed_by, carry_by}
use Rattle.pages.specs.Pages.{FeedRow, wrong_carry, stuck, cannot_go_on, record_whole, goes_on, at_end, torn, FeedsAs, Feeds}
use Rattle.pages.proofs.Rows.{row_facts, may_join, may_few, whole_tells, no_both}
use Rattle.pages.proofs.Fronts.{Such, length_in, record_goes_on}
use Rattle.pages.proofs.Decided.{happened_is}
use Rattle.pages.proofs.Carries.{such_left}
use Rattle.pages.proofs.CarryBytes.{in_bytes, record_bytes, carry_bytes}
use Rattle.pages.proofs.Progress.{gets_on}
use Rattle.pages.proofs.Refusals.{such_never_8, fit_never_7, feed_stays_fit}
use Rattle.demands.specs.Calls.{none_more}
use Rattle.demands.specs.Feeding.{ending_in, next_part, part_goes_on, breaks_off, is_over}
use Rattle.demands.specs.SomeRun.{SomeMeld, SomeFeed, SomePartsFed}
use Rattle.demands.proofs.Calls.{stays_fit}

-- THE LAST CALL

-- with nothing left to lend, and told so, a call says how the log ends
pub over_ends : {m carry : List ℕ} {carried : ℕ} {r : Fed} {m' carry' : List ℕ} → Such carry carried → Feeds m carry carried [] true r m' carry'
    → (last : Cut) × (ending_in r.happened ≡ some last)
over_ends {m} {carry} {carried} {r} {m'} {carry'} s f = go (feed_row carry carried [] true) refl f.as_said
  where
    said : (x : Fed) (last : Cut) → r ≡ x → ending_in x.happened ≡ some last → (last : Cut) × (ending_in r.happened ≡ some last)
    said x last e d = (last, ap ending_in (happened_is e) ∙ d)

    go : (row : FeedRow) → feed_row carry carried [] true ≡ row → FeedsAs row m carry carried [] r m' carry' → (last : Cut) × (ending_in r.happened ≡ some last)
    go wrong_carry e l = no_both (may_join carry carried s.sized s.may) (row_facts wrong_carry carry carried [] true e)
    go stuck e l = said _ Cuts.Impossible l.said refl
    go cannot_go_on e l = said _ Cuts.Impossible l.said refl
    go record_whole e d =
        let t = row_facts record_whole carry carried [] true e in
        absurd (omega (arith, record_goes_on s [] t.1, (whole_tells (bytes_in carry carried []) t.3).1, length_in s []))
    go goes_on e l = no_both refl (row_facts goes_on carry carried [] true e).4
    go at_end e l = said _ Cuts.End l.said refl
    go torn e l = said _ Cuts.Torn l.said refl

-- CALL AFTER CALL

-- what may be lent next
record Ready (m carry : List ℕ) (carried : ℕ) : Type 0 where
  fit : Fit m
  bytes : Bytes carry
  such : Such carry carried

still_ready : {m carry : List ℕ} {carried : ℕ} {part : List ℕ} {over : Bool} {r : Fed} {m' carry' : List ℕ} → Bytes part → Ready m carry carried
    → Feeds m carry carried part over r m' carry' → Ready m' carry' r.carried
still_ready b k f = record { fit = feed_stays_fit f k.fit; bytes = carry_bytes k.bytes b f; such = such_left k.such f }

-- from any such pool and carry on
abbrev FedFrom : List (List ℕ) → Type 0
FedFrom parts = (m carry : List ℕ) (carried : ℕ) → Ready m carry carried → SomePartsFed parts m carry carried

module _ (feed : SomeFeed) where
  -- no part is left
  none_left : FedFrom []
  none_left m carry carried k =
      let (r, m', carry', f) = feed m carry carried [] true k.fit.image.bytes k.bytes (bytes_take 0 carry k.bytes) in
      let (last, e) = over_ends k.such f in
      record { told = r ∷ []; after = m'; last = last; run = is_over f e }

  -- a part and those behind it: each call takes a byte of it, or ends the run
  this_part : (bound : ℕ) (part : List ℕ) (parts : List (List ℕ)) → length part ≤ bound → Bytes part → FedFrom parts → FedFrom (part ∷ parts)
  this_part zero [] parts h b rest m carry carried k = let x = rest m carry carried k in record { told = x.told; after = x.after; last = x.last; run = next_part x.run }
  this_part zero (y ∷ part) parts h b rest m carry carried k = absurd (omega arith)
  this_part (suc bound) [] parts h b rest m carry carried k = let x = rest m carry carried k in record { told = x.told; after = x.after; last = x.last; run = next_part x.run }
  this_part (suc bound) (y ∷ part) parts h b rest m carry carried k =
      let (r, m', carry', f) = feed m carry carried (y ∷ part) false k.fit.image.bytes k.bytes b in
      by_ending r m' carry' f (ending_in r.happened) refl
      (λ left. this_part bound (drop r.taken (y ∷ part)) parts left (bytes_drop r.taken (y ∷ part) b) rest m' carry' r.carried (still_ready b k f))
    where
      by_ending : (r : Fed) (m' carry' : List ℕ) → Feeds m carry carried (y ∷ part) false r m' carry' → (o : Option Cut) → ending_in r.happened ≡ o
          → (length (drop r.taken (y ∷ part)) ≤ bound → SomePartsFed (drop r.taken (y ∷ part) ∷ parts) m' carry' r.carried)
          → SomePartsFed ((y ∷ part) ∷ parts) m carry carried
      by_ending r m' carry' f (some last) e more = record { told = r ∷ []; after = m'; last = last; run = breaks_off f e }
      by_ending r m' carry' f none e more =
          let one : 1 ≤ r.taken =
          ⊎_elim (λ (x : 1 ≤ r.taken). x)
          (⊎_elim (λ (x : r.happened ≡ Refused output_short). absurd (such_never_8 f k.such x))
          (⊎_elim (λ (x : r.happened ≡ Refused unfit_pool). absurd (fit_never_7 f k.fit x))
          (⊎_elim (λ (x : r.happened ≡ Refused torn_log). no_some (sym e ∙ ap ending_in x))
          (λ (x : r.happened ≡ Refused impossible_length). no_some (sym e ∙ ap ending_in x))))) (gets_on f (omega arith)) in
          let x = more (omega (arith, length-drop r.taken (y ∷ part))) in
          record { told = r ∷ x.told; after = x.after; last = x.last; run = part_goes_on f e x.run }

  -- all parts, one after the other
  all_parts : (parts : List (List ℕ)) → Bytes (joined parts) → FedFrom parts
  all_parts [] b = none_left
  all_parts (part ∷ parts) b =
      this_part (length part) part parts (omega arith) (subst Bytes (take-append_seam part (joined parts)) (bytes_take (length part) (part ++ joined parts) b))
      (all_parts parts (subst Bytes (drop-append_seam part (joined parts)) (bytes_drop (length part) (part ++ joined parts) b)))

-- every list of parts of bytes has a run, from a created pool and any carry of bytes
pub some_feeding : (N Z : ℕ) (lent new carry : List ℕ) (parts : List (List ℕ)) → Bytes (joined parts) → Bytes carry → length carry ≡ carry_size
    → Created lent N Z committed new → SomeFeed → SomePartsFed parts new carry 0
some_feeding N Z lent new carry parts b d sized made feed =
    all_parts feed parts b new carry 0
    (record { fit = stays_fit lent N Z new new made none_more; bytes = d; such = record { sized = sized; may = may_few carry 0 (omega arith) } })

-- THE PROMISE CAN BE KEPT

-- by anything that has a meld to call
pub some_feed : SomeMeld → SomeFeed
some_feed meld m carry carried part over lent b d = go (feed_row carry carried part over) refl
  where
    bytes : List ℕ
    bytes = bytes_in carry carried part

    so : (row : FeedRow) → feed_row carry carried part over ≡ row → (r : Fed) (m' carry' : List ℕ) → FeedsAs row m carry carried part r m' carry'
        → (r : Fed) × (m' : List ℕ) × (carry' : List ℕ) × Feeds m carry carried part over r m' carry'
    so row e r m' carry' l = (r, m', carry', record { as_said = subst (λ (x : FeedRow). FeedsAs x m carry carried part r m' carry') (sym e) l })

    go : (row : FeedRow) → feed_row carry carried part over ≡ row → (r : Fed) × (m' : List ℕ) × (carry' : List ℕ) × Feeds m carry carried part over r m' carry'
    go wrong_carry e = so wrong_carry e _ _ _ (record { said = refl; pool = refl; carry_is = refl })
    go stuck e = so stuck e _ _ _ (record { said = refl; pool = refl; carry_is = refl })
    go cannot_go_on e = so cannot_go_on e _ _ _ (record { said = refl; pool = refl; carry_is = refl })
    go record_whole e =
        let (x, m', h) = meld m (record_in bytes) lent (record_bytes bytes (in_bytes carry carried part b d)) in
        so record_whole e (fed_by x carried bytes) m' (carry_by x carry carried bytes) (record { melded = x; melds = h; said = refl; carry_is = refl })
    go goes_on e = so goes_on e _ _ _ (record { said = refl; pool = refl; carry_is = refl })
    go at_end e = so at_end e _ _ _ (record { said = refl; pool = refl; carry_is = refl })
    go torn e = so torn e _ _ _ (record { said = refl; pool = refl; carry_is = refl })
