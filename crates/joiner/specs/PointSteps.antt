-- What the two passes meet of the points, step by step. No public promise cites it: proofs show that it is what R56 and R57 say.
-- Assumes nothing: these are definitions.
use Rattle.std.specs.Prelude.{ℕ, zero, suc, ◌+◌, ◌*◌, ◌-◌, ◌≤◌, Bool, true, false, ◌&&◌, ◌||◌, ◌≡◌, List, [], ◌∷◌, length, leb, ltb, Option, Some, None}
use Rattle.std.specs.Prelude.{if◌then◌else◌}
use Rattle.words.specs.Word.{word}
use Rattle.record.specs.declared.point.Point.{Point}
use Rattle.record.specs.declared.point.Scan.{Scan}
use Rattle.record.specs.declared.checker.Head.{Head}
use Rattle.record.specs.Record.{key_of, points_bytes, max_points}
use Rattle.record.specs.Parse.{Parsed, bad, took, is_took, list_of, place_of, point_items, parse_points}
use Rattle.joiner.specs.declared.left.Left.{Left}
use Rattle.joiner.specs.declared.points.PointTake.{PointTake}
use Rattle.joiner.specs.declared.points.Count.{Count}
use Rattle.joiner.specs.Joined.{puts_or_deletes, names_key, scans_key, joined_points}
use Rattle.joiner.specs.Left.{run_left}

-- all the points of a record, as its head says
abbrev pub all_points : List ℕ → Head → Parsed Point
all_points bs h = parse_points h.points 0 bs h.start

-- they start within the bytes, and are not too many
abbrev pub PointsFit : List ℕ → Head → Type 0
PointsFit bs h = (h.start ≤ length bs) × (h.points ≤ max_points)

-- a's points ps put or delete a key that b's points qs name
abbrev pub clashes_named : List Point → List Point → Bool
clashes_named [] qs = false
clashes_named (p ∷ ps) qs = (puts_or_deletes p && names_key (key_of p) qs) || clashes_named ps qs

-- a's points ps put or delete a key that b's scans cs cover
abbrev pub clashes_scanned : List Point → List Scan → Bool
clashes_scanned [] cs = false
clashes_scanned (p ∷ ps) cs = (puts_or_deletes p && scans_key (key_of p) cs) || clashes_scanned ps cs

-- the joined points of two runs
abbrev pub points_of_both : Parsed Point → Parsed Point → List Point
points_of_both x y = joined_points (list_of x) (list_of y)

-- both runs are well formed, and b names no key that a puts or deletes
pub record PointsJoin (x y : Parsed Point) : Type 0 where
  pub took_a : is_took x ≡ true
  pub took_b : is_took y ≡ true
  pub clear : clashes_named (list_of x) (list_of y) ≡ false

-- the scan that stands at a place
abbrev pub scan_in : List ℕ → ℕ → Scan
scan_in bs at = record { low = word 4 bs at; high = word 4 bs (at + 4) }

-- the last n scans that stand in the bytes
unfoldable pub last_scans : ℕ → List ℕ → List Scan
last_scans zero bs = []
last_scans (suc n) bs = scan_in bs (length bs - 8 * suc n) ∷ last_scans n bs

-- the first of the scans, if there is one, ends below the key
abbrev pub ends_below : ℕ → List Scan → Bool
ends_below k [] = false
ends_below k (c ∷ cs) = ltb c.high k

-- it starts at the key or below
abbrev pub starts_by : ℕ → List Scan → Bool
starts_by k [] = false
starts_by k (c ∷ cs) = leb c.low k

-- the scans from the first on that does not end below the key
abbrev pub not_below : ℕ → List Scan → List Scan
not_below k [] = []
not_below k (c ∷ cs) = if ltb c.high k then not_below k cs else c ∷ cs

-- the next of the joined points of two runs, and the runs behind it; changed says whether a puts or deletes its key
pub record PointNext (x y x' y' : Parsed Point) (p : Point) (changed : Bool) : Type 0 where
  pub same_a : is_took x' ≡ is_took x
  pub same_b : is_took y' ≡ is_took y
  pub end_a : place_of x' ≡ place_of x
  pub end_b : place_of y' ≡ place_of y
  pub joined : is_took x ≡ true → is_took y ≡ true → points_of_both x y ≡ p ∷ points_of_both x' y'
  pub named : is_took x ≡ true → is_took y ≡ true → clashes_named (list_of x) (list_of y) ≡ clashes_named (list_of x') (list_of y')
  pub scanned : is_took x ≡ true → (cs : List Scan) → clashes_scanned (list_of x) cs ≡ ((changed && scans_key (key_of p) cs) || clashes_scanned (list_of x') cs)
  pub passed : (cs : List Scan) → clashes_scanned (list_of x') (not_below (key_of p) cs) ≡ clashes_scanned (list_of x') cs

-- the next of the joined points of what is left of both records, and what is left then
pub record NextPoint (a : List ℕ) (left-a : Left) (b : List ℕ) (left-b : Left) (t : PointTake) (left-a' left-b' : Left) : Type 0 where
  pub within_a : left-a'.at ≤ length a
  pub within_b : left-b'.at ≤ length b
  pub fewer : suc (left-a'.count + left-b'.count) ≤ left-a.count + left-b.count
  pub next : PointNext (run_left point_items a left-a) (run_left point_items b left-b) (run_left point_items a left-a') (run_left point_items b left-b') t.point t.changed

-- what `take_point` gives: the next point, with what is left of both runs then; or none, and the runs cannot be joined
abbrev pub PointTaken : List ℕ → Left → List ℕ → Left → Option PointTake → Left → Left → Type 0
PointTaken a left-a b left-b None left-a' left-b' = PointsJoin (run_left point_items a left-a) (run_left point_items b left-b) → ⊥
PointTaken a left-a b left-b (Some t) left-a' left-b' = NextPoint a left-a b left-b t left-a' left-b'

-- how many points come to k and how many bytes to z with those that two runs make, b having the scans cs, and where the runs end; or none, where they
-- cannot be joined
unfoldable pub count_from : ℕ → ℕ → List Scan → Parsed Point → Parsed Point → Option Count
count_from k z cs bad y = None
count_from k z cs (took ps e) bad = None
count_from k z cs (took ps e) (took qs f) =
    if clashes_named ps qs || clashes_scanned ps cs
    then None
    else Some (record { points = k + length (joined_points ps qs); size = z + length (points_bytes (joined_points ps qs)); end_a = e; end_b = f })

-- from the first point on
abbrev pub count_of : List Scan → Parsed Point → Parsed Point → Option Count
count_of cs x y = count_from 0 0 cs x y
