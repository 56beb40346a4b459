-- What the walk is handed of a record: the keys of its points, and the lows and the highs of its scans.
-- Assumes nothing: these are definitions.
use Rattle.std.specs.Prelude.{ℕ, ◌+◌, ◌≤◌, List, [], ◌∷◌, ◌++◌, map}
use Rattle.record.specs.declared.point.Scan.{Scan}

-- R6: keys rise strictly, from low on
pub data Climbs : ℕ → List ℕ → Type 0 where
  end : {low : ℕ} → Climbs low []
  link : {low k : ℕ} {ks : List ℕ} → low ≤ k → Climbs (k + 1) ks → Climbs low (k ∷ ks)

-- R7: each low is at most its high and above the high before it, from low on
pub data Spaced : ℕ → List ℕ → List ℕ → Type 0 where
  end : {low : ℕ} → Spaced low [] []
  link : {low l h : ℕ} {ls hs : List ℕ} → low ≤ l → l ≤ h → Spaced (h + 1) ls hs → Spaced low (l ∷ ls) (h ∷ hs)

-- the lists of a record that keeps the rules
pub record Sorted (keys lows highs : List ℕ) : Type 0 where
  pub points : Climbs 0 keys
  pub scans : Spaced 0 lows highs

-- a key is the scan from the key to the key
abbrev pub point_scan : ℕ → Scan
point_scan k = record { low = k; high = k }

-- the scans of two lists
abbrev pub scans_of : List ℕ → List ℕ → List Scan
scans_of [] hs = []
scans_of (l ∷ ls) [] = []
scans_of (l ∷ ls) (h ∷ hs) = record { low = l; high = h } ∷ scans_of ls hs

-- everything that the lists name or scan
unfoldable pub footprint : List ℕ → List ℕ → List ℕ → List Scan
footprint keys lows highs = map point_scan keys ++ scans_of lows highs
