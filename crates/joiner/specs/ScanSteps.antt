-- What the two passes meet of the scans, step by step. No public promise cites it: proofs show that it is what R57 says.
-- Assumes nothing: these are definitions.
use Rattle.std.specs.Prelude.{ℕ, suc, ◌+◌, ◌*◌, ◌-◌, ◌≤◌, true, ◌≡◌, List, [], ◌∷◌, length, max, ltb, Option, Some, None}
use Rattle.std.specs.Prelude.{if◌then◌else◌}
use Rattle.record.specs.declared.point.Scan.{Scan}
use Rattle.record.specs.declared.checker.Head.{Head}
use Rattle.record.specs.Record.{max_scans}
use Rattle.record.specs.Parse.{Parsed, bad, took, also, is_took, list_of, scan_items, parse_scans}
use Rattle.joiner.specs.declared.left.Left.{Left}
use Rattle.joiner.specs.Joined.{joined_scans}
use Rattle.joiner.specs.Left.{run_left}

-- all the scans of a record, as its head says: they stand at the end of its bytes
abbrev pub all_scans : List ℕ → Head → Parsed Scan
all_scans bs h = parse_scans h.scans 0 bs (length bs - 8 * h.scans)

-- they have room in the bytes, and are not too many
abbrev pub ScansFit : List ℕ → Head → Type 0
ScansFit bs h = (8 * h.scans ≤ length bs) × (h.scans ≤ max_scans)

-- both are well formed
abbrev pub BothTaken : Parsed Scan → Parsed Scan → Type 0
BothTaken x y = (is_took x ≡ true) × (is_took y ≡ true)

-- the joined scans of two runs
abbrev pub scans_of_both : Parsed Scan → Parsed Scan → List Scan
scans_of_both x y = joined_scans (list_of x) (list_of y)

-- how many they are
abbrev pub scans_count : Parsed Scan → Parsed Scan → Option ℕ
scans_count bad y = None
scans_count (took cs x) bad = None
scans_count (took cs x) (took ds y) = Some (length (joined_scans cs ds))

-- the first of the scans, if there is one, starts at low or above
abbrev pub StartsFrom : ℕ → List Scan → Type 0
StartsFrom low [] = Unit
StartsFrom low (c ∷ cs) = low ≤ c.low

-- the next scan c of two runs, and the runs behind it: it is the first of one, and the other starts no lower
pub data ScanNext (x y x' y' : Parsed Scan) (c : Scan) : Type 0 where
  from_a : x ≡ also c x' → y' ≡ y → StartsFrom c.low (list_of y) → ScanNext x y x' y' c
  from_b : y ≡ also c y' → x' ≡ x → StartsFrom c.low (list_of x) → ScanNext x y x' y' c

-- the next scan c of what is left of both records, and what is left then
pub record NextScan (a : List ℕ) (left-a : Left) (b : List ℕ) (left-b : Left) (c : Scan) (left-a' left-b' : Left) : Type 0 where
  pub within_a : left-a'.at ≤ length a
  pub within_b : left-b'.at ≤ length b
  pub fewer : suc (left-a'.count + left-b'.count) ≡ left-a.count + left-b.count
  pub whole : c.low ≤ c.high
  pub next : ScanNext (run_left scan_items a left-a) (run_left scan_items b left-b) (run_left scan_items a left-a') (run_left scan_items b left-b') c

-- what `take_scan` gives: the next scan, with what is left of both runs then; or none, and one of the runs is not well formed
abbrev pub ScanTaken : List ℕ → Left → List ℕ → Left → Option Scan → Left → Left → Type 0
ScanTaken a left-a b left-b None left-a' left-b' = BothTaken (run_left scan_items a left-a) (run_left scan_items b left-b) → ⊥
ScanTaken a left-a b left-b (Some c) left-a' left-b' = NextScan a left-a b left-b c left-a' left-b'

-- A SCAN IS HELD WHILE OTHERS MAY GROW IT

-- the held scan, if there is one
abbrev pub held_scans : Option Scan → List Scan
held_scans None = []
held_scans (Some c) = c ∷ []

-- the held scan, if it ends below a key
abbrev pub ended : Option Scan → ℕ → Option Scan
ended None key = None
ended (Some c) key = if ltb c.high key then Some c else None

-- the scan to hold when c is next: the held one grown by c if they share a key, else c
abbrev pub grown : Option Scan → Scan → Scan
grown None c = c
grown (Some h) c = if ltb h.high c.low then c else record { low = h.low; high = max h.high c.high }
