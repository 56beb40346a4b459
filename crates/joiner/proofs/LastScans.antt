-- A scan that was found is what stands there, and so are a record's last scans, where they are well formed.
-- Assumes nothing.
use Prim.Native.Nat.{ℕ, zero, suc, ◌+◌, ◌*◌, ◌-◌, ◌≤◌}
use mathlib.Core.Bool.{true}
use mathlib.Core.Path.{◌≡◌, refl, ap, ◌∙◌}
use mathlib.Core.List.{List, ◌∷◌}
use native.Mathlib.Omega.{arith}
use lib.ListN.{length}
use Rattle.std.specs.Prelude.{Option, Some, None}
use Rattle.record.specs.declared.point.Scan.{Scan}
use Rattle.record.specs.Parse.{Parsed, bad, took, also, step_scan, after, parse_run, parse_scans, is_took, list_of}
use Rattle.record.specs.Steps.{by_scan}
use Rattle.joiner.specs.PointSteps.{scan_in, last_scans}

-- what a step says of the scan that it found
pub record ScanFound (floor : ℕ) (bs : List ℕ) (at : ℕ) (c : Scan) : Type 0 where
  pub is : c ≡ scan_in bs at
  pub from : floor ≤ c.low
  pub upright : c.low ≤ c.high

-- a scan that was found is what stands there
pub scan_found : (floor : ℕ) (bs : List ℕ) (at : ℕ) (c : Scan) → step_scan floor bs at ≡ Some c → ScanFound floor bs at c
scan_found floor bs at c e = by_scan (ScanFound floor bs at) floor bs at c e (λ _ l h. record { is = refl; from = l; upright = h })

-- one in front of scans that stand there
stand_also : (n : ℕ) (bs : List ℕ) (c : Scan) (x : Parsed Scan) → c ≡ scan_in bs (length bs - 8 * suc n) → is_took (also c x) ≡ true
    → (is_took x ≡ true → list_of x ≡ last_scans n bs) → list_of (also c x) ≡ last_scans (suc n) bs
unfolding last_scans
stand_also n bs c bad f t k = cc
stand_also n bs c (took cs e) f t k = ap (λ (l : List Scan). c ∷ l) (k refl) ∙ ap (λ (d : Scan). d ∷ last_scans n bs) f

-- a step, and then the run behind it
stand_after : (n : ℕ) (bs : List ℕ) (s : Option Scan) (g : Scan → Parsed Scan) → ((c : Scan) → s ≡ Some c → c ≡ scan_in bs (length bs - 8 * suc n))
    → ((c : Scan) → is_took (g c) ≡ true → list_of (g c) ≡ last_scans n bs) → is_took (after s g) ≡ true → list_of (after s g) ≡ last_scans (suc n) bs
stand_after n bs None g f k t = cc
stand_after n bs (Some c) g f k t = stand_also n bs c (g c) (f c refl) t (k c)

-- the last scans of a record are what stands at its end
pub scans_stand : (n floor : ℕ) (bs : List ℕ) (at : ℕ) → at + 8 * n ≡ length bs → is_took (parse_scans n floor bs at) ≡ true → list_of (parse_scans n floor bs at) ≡ last_scans n bs
unfolding parse_run last_scans
scans_stand zero floor bs at h t = refl
scans_stand (suc n) floor bs at h t =
    let place : at ≡ length bs - 8 * suc n = omega arith in
    stand_after n bs (step_scan floor bs at) (λ c. parse_scans n (c.high + 1) bs (at + 8))
    (λ c e. (scan_found floor bs at c e).is ∙ ap (scan_in bs) place)
    (λ c u. scans_stand n (c.high + 1) bs (at + 8) (omega arith) u) t
