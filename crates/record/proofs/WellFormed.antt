-- What is known of bytes that the check passes: `good` gathers it, and a law for each thing that the reader wants of it.
-- Assumes nothing.
use Prim.Native.Nat.{ℕ, ◌≤◌}
use mathlib.Core.Path.{◌≡◌, refl, sym, ap, ◌∙◌, subst}
use mathlib.Core.Bool.{true}
use mathlib.Core.Option.{Option, none, some}
use mathlib.Core.List.{List}
use native.Mathlib.Omega.{arith}
use lib.ListN.{length}
use lib.Dec.{eqb}
use Rattle.words.specs.Word.{word}
use Rattle.std.specs.Prelude.{Option as Optional, Some, None}
use Rattle.record.specs.declared.checker.Head.{Head}
use Rattle.record.specs.Record.{Rec}
use Rattle.record.specs.Parse.{parse_points, parse_scans, is_took, list_of, place_of, point_count, scan_count, first_point, head_ok, head_in, parse, well_formed}
use Rattle.record.proofs.Cases.{by_case, no_some, took_or, took_end}
use Rattle.record.proofs.HeadLaws.{HeadRight, head_right, right_long}
use Rattle.record.proofs.CheckLaws.{points_within}

-- what the check has seen, of a record with so many points and scans whose first point stands there
pub record Good (bs : List ℕ) (p s start : ℕ) : Type 0 where
  pub right : HeadRight bs
  pub long : start ≤ length bs
  pub points_took : is_took (parse_points p 0 bs start) ≡ true
  pub within : place_of (parse_points p 0 bs start) ≤ length bs
  pub scans_took : is_took (parse_scans s 0 bs (place_of (parse_points p 0 bs start))) ≡ true
  pub is : parse bs ≡ some (record {
    snapshot = word 4 bs 3;
    points = list_of (parse_points p 0 bs start);
    scans = list_of (parse_scans s 0 bs (place_of (parse_points p 0 bs start)));
  })

-- what parses was seen so
pub parsed_good : (bs : List ℕ) (r : Rec) → parse bs ≡ some r → Good bs (point_count bs) (scan_count bs) (first_point bs)
unfolding parse
parsed_good bs r e =
    by_case (head_ok bs)
    (λ k. took_or (parse_points (point_count bs) 0 bs (first_point bs)) (λ x. no_some (simp (k, x) at e))
    (λ ps at x. took_or (parse_scans (scan_count bs) 0 bs at) (λ y. no_some (simp (k, x, y) at e))
    (λ cs end y. by_case (eqb end (length bs))
    (λ v.
    let h : HeadRight bs = head_right bs k in
    let pt : is_took (parse_points (point_count bs) 0 bs (first_point bs)) ≡ true = ap is_took x in
    record {
      right = h;
      long = h.within;
      points_took = pt;
      within = points_within (point_count bs) 0 bs (first_point bs) _ h.within (took_end (parse_points (point_count bs) 0 bs (first_point bs)) pt);
      scans_took = simp (x, y);
      is = simp (k, x, y, v);
    })
    (λ v. no_some (simp (k, x, y, v) at e)))))
    (λ k. no_some (simp k at e))

-- a head that `well_formed` gave back is of bytes that parse
module _ (bs : List ℕ) (f : Optional Head) (is : f ≡ well_formed (parse bs) bs) where
  -- no head: no record
  pub refused_none : f ≡ None → parse bs ≡ none
  refused_none e = none_if (parse bs) (sym e ∙ is)
    where
      none_if : (x : Option Rec) → None ≡ well_formed x bs → x ≡ none
      none_if none z = refl
      none_if (some r) z = cc

  module _ (h : Head) (e : f ≡ Some h) where
    -- a head: a record, with what it says
    pub good : Good bs h.points h.scans h.start
    good = from (parse bs) refl (sym e ∙ is)
      where
        from : (x : Option Rec) → parse bs ≡ x → Some h ≡ well_formed x bs → Good bs h.points h.scans h.start
        from none i z = cc
        from (some r) i z = let a : head_in bs ≡ h = cc in subst (λ (x : Head). Good bs x.points x.scans x.start) a (parsed_good bs r i)

    -- nine bytes at the least
    pub checked_long : (k : ℕ) → k ≤ 9 → k ≤ length bs
    checked_long k n = omega (arith, right_long bs good.right)

    -- the first point stands within them
    pub checked_start : h.start ≤ length bs
    checked_start = good.long

    -- the points are taken
    pub checked_points : is_took (parse_points h.points 0 bs h.start) ≡ true
    checked_points = good.points_took

    module _ (at : ℕ) (i : at ≡ place_of (parse_points h.points 0 bs h.start)) where
      -- they end within the bytes
      pub checked_within : at ≤ length bs
      checked_within = omega (arith, good.within)

      -- the scans behind them are taken
      pub checked_scans : is_took (parse_scans h.scans 0 bs at) ≡ true
      checked_scans = rw i good.scans_took
