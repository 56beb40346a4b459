-- The record that two records make (R57), and when two records can be joined (R56). a is the first of the two, b the second.
-- Assumes nothing: these are definitions.
use Rattle.std.specs.Prelude.{ℕ, Bool, true, false, not, ◌&&◌, ◌||◌, List, [], ◌∷◌, length, min, max, leb, ltb, eqb}
use Rattle.std.proofs.Math.Option.{Option, none, some}
use Rattle.std.specs.Prelude.{if◌then◌else◌}
use Rattle.record.specs.declared.point.Point.{Point}
use Rattle.record.specs.declared.point.Point.TheVariants.{Read, Put, Delete}
use Rattle.record.specs.declared.point.Scan.{Scan}
use Rattle.record.specs.Record.{Rec, key_of, max_points, max_scans}

-- POINTS

-- R56: whether a point puts or deletes its key
abbrev pub puts_or_deletes : Point → Bool
puts_or_deletes (Read k) = false
puts_or_deletes (Put k x) = true
puts_or_deletes (Delete k) = true

-- R57: the entry of a key that both name, a with p and b with q
abbrev pub entry_of : Point → Point → Point
entry_of p q = if puts_or_deletes q then q else p

-- R57: b's point q in its place among points of rising keys
unfoldable pub with_point : Point → List Point → List Point
with_point q [] = q ∷ []
with_point q (p ∷ ps) =
    if ltb (key_of q) (key_of p) then q ∷ p ∷ ps else
    if ltb (key_of p) (key_of q) then p ∷ with_point q ps else
    entry_of p q ∷ ps

-- R57: a's points, and each of b's in its place among them
unfoldable pub joined_points : List Point → List Point → List Point
joined_points ps [] = ps
joined_points ps (q ∷ qs) = joined_points (with_point q ps) qs

-- SCANS

-- R57: from the lower low to the higher high
abbrev pub one_scan : Scan → Scan → Scan
one_scan c d = record { low = min c.low d.low; high = max c.high d.high }

-- R57: the scan c in its place among scans that lie apart: each of them that shares a key with it becomes one with it
unfoldable pub with_scan : Scan → List Scan → List Scan
with_scan c [] = c ∷ []
with_scan c (d ∷ ds) =
    if ltb c.high d.low then c ∷ d ∷ ds else
    if ltb d.high c.low then d ∷ with_scan c ds else
    with_scan (one_scan c d) ds

-- R57: a's scans, and each of b's in its place among them
unfoldable pub joined_scans : List Scan → List Scan → List Scan
joined_scans cs [] = cs
joined_scans cs (d ∷ ds) = joined_scans (with_scan d cs) ds

-- WHEN THEY CAN BE JOINED

-- R21: some point names the key
abbrev pub names_key : ℕ → List Point → Bool
names_key k [] = false
names_key k (p ∷ ps) = eqb (key_of p) k || names_key k ps

-- R7: some scan covers the key
abbrev pub scans_key : ℕ → List Scan → Bool
scans_key k [] = false
scans_key k (c ∷ cs) = (leb c.low k && leb k c.high) || scans_key k cs

-- R56: one of a's points puts or deletes a key that b names or scans
abbrev pub clashes : List Point → Rec → Bool
clashes [] b = false
clashes (p ∷ ps) b = (puts_or_deletes p && (names_key (key_of p) b.points || scans_key (key_of p) b.scans)) || clashes ps b

-- R57: the joined record
abbrev pub joined_of : Rec → Rec → Rec
joined_of a b =
    record { snapshot = a.snapshot; points = joined_points a.points b.points; scans = joined_scans a.scans b.scans }

-- R56: one snapshot, no key that a puts or deletes is named or scanned by b, and the joined record is not too large
unfoldable pub can_join : Rec → Rec → Bool
can_join a b =
    eqb a.snapshot b.snapshot && (not (clashes a.points b)
    && (leb (length (joined_of a b).points) max_points && leb (length (joined_of a b).scans) max_scans))

-- R56: the joined record of what the bytes are, if both are well formed and can be joined
unfoldable pub joined_if : Option Rec → Option Rec → Option Rec
joined_if none y = none
joined_if (some a) none = none
joined_if (some a) (some b) = if can_join a b then some (joined_of a b) else none
