-- The keys of a run of points in a record's bytes rise.
-- Assumes nothing.
use Prim.Native.Nat.{ℕ, zero, suc, ◌+◌, ◌-◌, ◌≤◌, ◌<◌}
use mathlib.Core.Path.{◌≡◌, refl}
use mathlib.Core.List.{List}
use native.Mathlib.Omega.{arith}
use native.Mathlib.Numerals.{sub-one}
use lib.ListN.{length}
use borrow.Author.Tests.{le-ltb}
use Rattle.std.specs.Prelude.{Option, Some, None}
use Rattle.record.specs.declared.point.Point.{Point}
use Rattle.record.specs.Record.{key_of, size_of}
use Rattle.record.specs.Parse.{Parsed, bad, took, also, step_point, after, parse_run, parse_points, list_of}
use Rattle.record.specs.Steps.{by_point}
use Rattle.writer.proofs.NamedLaws.{PointsInOrder}

-- a point that was found has a key from low on
step_least : (low : ℕ) (bs : List ℕ) (at : ℕ) (p : Point) → step_point low bs at ≡ Some p → low ≤ key_of p
step_least low bs at p e = by_point (λ q. low ≤ key_of q) low bs at p e (λ _ l _. l) (λ _ l _. l) (λ _ l _. l)

-- the list of a run with one in front
pub order_also : (low : ℕ) (p : Point) (x : Parsed Point) → low ≤ key_of p → PointsInOrder (key_of p + 1) (list_of x) → PointsInOrder low (list_of (also p x))
order_also low p bad h o = tt
order_also low p (took ps e) h o = (h, o)

-- a step, and then the run behind it
order_after : (low : ℕ) (s : Option Point) (f : Point → Parsed Point) → ((p : Point) → s ≡ Some p → (low ≤ key_of p) × PointsInOrder (key_of p + 1) (list_of (f p)))
    → PointsInOrder low (list_of (after s f))
order_after low None f h = tt
order_after low (Some p) f h = order_also low p (f p) (h p refl).0 (h p refl).1

-- the keys of a run rise
pub run_order : (n low : ℕ) (bs : List ℕ) (at : ℕ) → PointsInOrder low (list_of (parse_points n low bs at))
unfolding parse_run
run_order zero low bs at = tt
run_order (suc n) low bs at =
    order_after low (step_point low bs at) (λ p. parse_points n (key_of p + 1) bs (at + size_of p))
    (λ p e. (step_least low bs at p e, run_order n (key_of p + 1) bs (at + size_of p)))
