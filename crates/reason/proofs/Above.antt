-- Points and scans that rise from low on: none lies below it.
-- Assumes nothing.
use Prim.Native.Nat.{ℕ, ◌+◌, ◌≤◌}
use mathlib.Core.Path.{ap}
use mathlib.Core.List.Memᴰ.{head as here}
use mathlib.Core.List.Memᴰ.{tail as there}
use mathlib.Core.List.{List, ◌∷◌, Memᴰ as Mem}
use native.Mathlib.Omega.{arith}
use Rattle.record.specs.declared.point.Point.{Point}
use Rattle.record.specs.declared.point.Scan.{Scan}
use Rattle.record.specs.Record.{key_of, PointsRise, Apart}

-- the keys from low on are at least low
pub above : (low : ℕ) (ps : List Point) → PointsRise low ps → (q : Point) → Mem q ps → low ≤ key_of q
above low mathlib.Core.List.[] r q x'' = elim x'' [ ]
above low (x ∷ ps) r q (here e) = omega (arith, r.0, ap key_of e)
above low (x ∷ ps) r q (there m) = omega (arith, r.0, above (key_of x + 1) ps r.3 q m)

-- the lows from low on are at least low
pub beyond_low : (low : ℕ) (cs : List Scan) → Apart low cs → (c : Scan) → Mem c cs → low ≤ c.low
beyond_low low mathlib.Core.List.[] r c x'' = elim x'' [ ]
beyond_low low (x ∷ cs) r c (here e) = omega (arith, r.0, ap (λ (z : Scan). z.low) e)
beyond_low low (x ∷ cs) r c (there m) = omega (arith, r.0, r.1, beyond_low (x.high + 1) cs r.3 c m)
