-- What `well_formed` meets at each return: the tests that led there, and what the definition gives.
-- Assumes nothing.
use Prim.Native.Nat.{ℕ, zero, suc, ◌+◌, ◌≤◌}
use mathlib.Core.Path.{◌≡◌, refl, sym, ◌∙◌}
use mathlib.Core.Bool.{true}
use mathlib.Core.List.{List}
use native.Mathlib.Omega.{arith}
use lib.ListN.{length}
use borrow.Author.Tests.{eq-eqb, ne_eqb}
use Rattle.std.specs.Prelude.{Option as Optional, Some, None}
use Rattle.record.specs.declared.checker.Head.{Head}
use Rattle.record.specs.Parse.{Items, Parsed, took, after, point_items, parse_run, parse_points, parse_scans, end_of, list_of, point_count, scan_count, first_point, head_ok, head_in, head_of, parse, well_formed}
use Rattle.record.specs.Steps.{point_within}
use Rattle.record.proofs.Cases.{bad_end, took_at, end_also}
use Rattle.record.proofs.HeadLaws.{none_right, head_found, head_within}

-- WHERE A RUN ENDS IS WITHIN THE BYTES

-- one item, and then what follows it
within_after : {A : Type 0} (n : ℕ) (s : Optional A) (f : A → Parsed A) (e : ℕ) → ((a : A) → s ≡ Some a → end_of (f a) ≡ Some e → e ≤ n)
    → end_of (after s f) ≡ Some e → e ≤ n
within_after n None f e k h = cc
within_after n (Some a) f e k h = k a refl (sym (end_also a (f a)) ∙ h)

-- a run of items ends within the bytes, if each item does
module _ {A : Type 0} (k : Items A) (bs : List ℕ) (within : (least at : ℕ) (a : A) → k.step least bs at ≡ Some a → at + k.size a ≤ length bs) where
  pub run_within : (n least at e : ℕ) → at ≤ length bs → end_of (parse_run k n least bs at) ≡ Some e → e ≤ length bs
  unfolding parse_run
  run_within zero least at e h i = let z : at ≡ e = cc in omega arith
  run_within (suc n) least at e h i =
      within_after (length bs) (k.step least bs at) (λ a. parse_run k n (k.above a) bs (at + k.size a)) e
      (λ a s j. run_within n (k.above a) (at + k.size a) e (within least at a s) j) i

-- so points do
pub points_within : (n low : ℕ) (bs : List ℕ) (at e : ℕ) → at ≤ length bs → end_of (parse_points n low bs at) ≡ Some e → e ≤ length bs
points_within n low bs at e h i = run_within point_items bs (λ l at p s. point_within l bs at p s) n low at e h i

-- WELL_FORMED: THE RETURNS, IN THE ORDER OF THE TESTS

module _ (bs : List ℕ) (f : Optional Head) (is : f ≡ head_of bs) where
  -- a head that is not right
  pub formed_head : f ≡ None → None ≡ well_formed (parse bs) bs
  unfolding parse
  formed_head e = simp (none_right bs f is e)

  module _ (h : Head) (e : f ≡ Some h) (rp : Optional ℕ) (is-p : rp ≡ end_of (parse_points h.points 0 bs h.start)) where
    -- what the head says
    ok : head_ok bs ≡ true
    ok = (head_found bs f is h e).0

    same : h ≡ head_in bs
    same = (head_found bs f is h e).1

    -- points that break a rule
    pub formed_points : rp ≡ None → None ≡ well_formed (parse bs) bs
    unfolding parse
    formed_points b = simp (ok, bad_end (parse_points (point_count bs) 0 bs (first_point bs)) (rw same at (sym is-p ∙ b)))

    -- points end within the bytes
    pub formed_within : (at : ℕ) → rp ≡ Some at → at ≤ length bs
    formed_within at is_at = points_within h.points 0 bs h.start at (head_within bs f is h e) (sym is-p ∙ is_at)

    module _ (at : ℕ) (is_at : rp ≡ Some at) (rs : Optional ℕ) (is-s : rs ≡ end_of (parse_scans h.scans 0 bs at)) where
      -- the points were taken, up to a place
      points_at : parse_points (point_count bs) 0 bs (first_point bs) ≡ took (list_of (parse_points (point_count bs) 0 bs (first_point bs))) at
      points_at = took_at (parse_points (point_count bs) 0 bs (first_point bs)) at (rw same at (sym is-p ∙ is_at))

      -- scans that break a rule
      pub formed_scans : rs ≡ None → None ≡ well_formed (parse bs) bs
      unfolding parse
      formed_scans b = simp (ok, points_at, bad_end (parse_scans (scan_count bs) 0 bs at) (rw same at (sym is-s ∙ b)))

      module _ (end : ℕ) (is_end : rs ≡ Some end) where
        -- bytes behind the scans
        pub formed_end : (end ≡ length bs → ⊥) → None ≡ well_formed (parse bs) bs
        unfolding parse
        formed_end n = simp (ok, points_at, took_at (parse_scans (scan_count bs) 0 bs at) end (rw same at (sym is-s ∙ is_end)), ne_eqb _ _ n)

        -- well formed
        pub formed_whole : end ≡ length bs → Some h ≡ well_formed (parse bs) bs
        unfolding parse
        formed_whole n = simp (ok, points_at, took_at (parse_scans (scan_count bs) 0 bs at) end (rw same at (sym is-s ∙ is_end)), eq-eqb _ _ n, same)
