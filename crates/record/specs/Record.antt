-- What a record is, what its bytes are, and which rules it keeps.
-- Assumes nothing: these are definitions.
use Rattle.std.specs.Prelude.{ℕ, ◌+◌, ◌^◌, ◌≤◌, ◌<◌, ◌&&◌, ◌≡◌, List, [], ◌∷◌, ◌++◌, length, leb}
use Rattle.std.specs.Prelude.{if◌then◌else◌}
use Rattle.words.specs.Word.{big_endian, word}
use Rattle.record.specs.declared.point.Point.{Point}
use Rattle.record.specs.declared.point.Point.TheVariants.{Read, Put, Delete}
use Rattle.record.specs.declared.point.Scan.{Scan}

-- R4: a snapshot, points and scans
pub record Rec : Type 0 where
  pub snapshot : ℕ
  pub points : List Point
  pub scans : List Scan

-- R6: how many points at most
abbrev pub max_points : ℕ
max_points = 1024

-- R7: how many scans at most
abbrev pub max_scans : ℕ
max_scans = 64

-- R53: the version of a record with so many points and scans: 1 for at most 64 points and at most 8 scans, else 2
unfoldable pub version_for : ℕ → ℕ → ℕ
version_for points scans = if leb points 64 && leb scans 8 then 1 else 2

-- R53: the version of a record
abbrev pub version_of : Rec → ℕ
version_of r = version_for (length r.points) (length r.scans)

-- R4: how many bytes each of the two counts has: one in version 1, two in version 2, so as many as the version says
abbrev pub count_width : ℕ → ℕ
count_width version = version

-- R4: how many bytes stand before the first point: length, version, snapshot and the two counts
abbrev pub head_size : ℕ → ℕ
head_size version = 7 + count_width version + count_width version

-- R5: the number of each kind
abbrev pub kind_of : Point → ℕ
kind_of (Read k) = 1
kind_of (Put k x) = 2
kind_of (Delete k) = 3

-- R4: a point's key
abbrev pub key_of : Point → ℕ
key_of (Read k) = k
key_of (Put k x) = k
key_of (Delete k) = k

-- R10: the payload of a point in a list, 0 for a read or delete
abbrev pub payload_of : Point → ℕ
payload_of (Read k) = 0
payload_of (Put k x) = x
payload_of (Delete k) = 0

-- R8: how many bytes a point has
abbrev pub size_of : Point → ℕ
size_of (Read k) = 5
size_of (Put k x) = 13
size_of (Delete k) = 5

-- R4: kind, key and, in a put only, payload
abbrev pub point_bytes : Point → List ℕ
point_bytes (Read k) = 1 ∷ big_endian 4 k
point_bytes (Put k x) = 2 ∷ (big_endian 4 k ++ big_endian 8 x)
point_bytes (Delete k) = 3 ∷ big_endian 4 k

-- R4: the points back to back
abbrev pub points_bytes : List Point → List ℕ
points_bytes [] = []
points_bytes (p ∷ ps) = point_bytes p ++ points_bytes ps

-- R4: low, then high
abbrev pub scan_bytes : Scan → List ℕ
scan_bytes c = big_endian 4 c.low ++ big_endian 4 c.high

-- R4: the scans back to back
abbrev pub scans_bytes : List Scan → List ℕ
scans_bytes [] = []
scans_bytes (c ∷ cs) = scan_bytes c ++ scans_bytes cs

-- R4: what stands behind the length
abbrev pub body_bytes : Rec → List ℕ
body_bytes r =
    version_of r ∷ (big_endian 4 r.snapshot
    ++ (big_endian (count_width (version_of r)) (length r.points)
    ++ (big_endian (count_width (version_of r)) (length r.scans)
    ++ (points_bytes r.points ++ scans_bytes r.scans))))

-- R4: the length, which does not count its own two bytes, and what stands behind it
abbrev pub bytes_of : Rec → List ℕ
bytes_of r = big_endian 2 (length (body_bytes r)) ++ body_bytes r

-- R6: from low on each key is above the one before; R2: keys and payloads fit their bytes
abbrev pub PointsRise : ℕ → List Point → Type 0
PointsRise low [] = Unit
PointsRise low (p ∷ ps) = (low ≤ key_of p) × (key_of p < 2 ^ 32) × (payload_of p < 2 ^ 64) × PointsRise (key_of p + 1) ps

-- R7: from low on each scan's low is above the high before it and at most its own high; R2: a high fits its bytes
abbrev pub Apart : ℕ → List Scan → Type 0
Apart low [] = Unit
Apart low (c ∷ cs) = (low ≤ c.low) × (c.low ≤ c.high) × (c.high < 2 ^ 32) × Apart (c.high + 1) cs

-- R9: a record that keeps the rules; R8 follows from them
pub record Valid (r : Rec) : Type 0 where
  pub snapshot_fits : r.snapshot < 2 ^ 32
  pub few_points : length r.points ≤ max_points
  pub few_scans : length r.scans ≤ max_scans
  pub rising : PointsRise 0 r.points
  pub apart : Apart 0 r.scans

-- the size of a record's bytes (R8): 9 to 13,835 of them, and the length in the first two says 7 to 13,833, how many follow these two
pub record RecordSized (r : Rec) : Type 0 where
  pub least : 9 ≤ length (bytes_of r)
  pub most : length (bytes_of r) ≤ 13835
  pub field_least : 7 ≤ word 2 (bytes_of r) 0
  pub field_most : word 2 (bytes_of r) 0 ≤ 13833
  pub field : word 2 (bytes_of r) 0 + 2 ≡ length (bytes_of r)

-- R5: what `kind`, `key`, `size` and `payload` promise of a point
abbrev pub KindIs : Point → ℕ → Type 0
KindIs q n = n ≡ kind_of q

-- R4
abbrev pub KeyIs : Point → ℕ → Type 0
KeyIs q n = n ≡ key_of q

-- R8
abbrev pub SizeIs : Point → ℕ → Type 0
SizeIs q n = n ≡ size_of q

-- R10
abbrev pub PayloadIs : Point → ℕ → Type 0
PayloadIs q n = n ≡ payload_of q
