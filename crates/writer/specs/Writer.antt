-- Which record lent lists name, and what the writer answers and leaves in its output.
-- Assumes nothing: these are definitions.
use Rattle.std.specs.Prelude.{ℕ, ◌+◌, ◌^◌, ◌<◌, ◌&&◌, ◌≡◌, List, [], ◌∷◌, map, length, get_or, leb, ltb, eqb, Result, Ok, Err}
use Rattle.std.proofs.Math.Option.{Option, none, some}
use Rattle.std.specs.Prelude.{Option as Optional, Some, None}
use Rattle.std.specs.Prelude.{if◌then◌else◌}
use Rattle.record.specs.declared.answer.Answer.{Answer}
use Rattle.record.specs.declared.point.Point.{Point}
use Rattle.record.specs.declared.point.Point.TheVariants.{Read, Put, Delete}
use Rattle.record.specs.declared.point.Scan.{Scan}
use Rattle.record.specs.Answer.{malformed, output_short}
use Rattle.record.specs.Record.{Rec, kind_of, key_of, payload_of, size_of, max_points, max_scans, version_for, head_size, bytes_of}
use Rattle.record.specs.Parse.{Parsed, bad, took, after, on_took}
use Rattle.record.specs.Reader.{Lists, lists, low_of, high_of, front}

-- R10: the point that a kind, a key and a payload name, if its kind is known, the payload of a read or delete is 0 and the key is at least low
unfoldable pub point_named : ℕ → ℕ → ℕ → ℕ → Optional Point
point_named low kind key payload =
    if ltb key low then None else
    if eqb kind 2 then Some (Put key payload) else
    if eqb payload 0
    then (if eqb kind 1 then Some (Read key) else if eqb kind 3 then Some (Delete key) else None)
    else None

-- R10: the scan from low to high, if low is at least the floor and at most high
unfoldable pub scan_named : ℕ → ℕ → ℕ → Optional Scan
scan_named floor low high =
    if ltb low floor then None else
    if ltb high low then None else
    Some (record { low = low; high = high })

-- R10: the points that kinds, keys and payloads name, three lists of equal length, each key above the one before; and the place past their
-- bytes
unfoldable pub named_points : ℕ → List ℕ → List ℕ → List ℕ → ℕ → Parsed Point
named_points low [] [] [] at = took [] at
named_points low [] [] (x ∷ xs) at = bad
named_points low [] (e ∷ es) xs at = bad
named_points low (k ∷ ks) [] xs at = bad
named_points low (k ∷ ks) (e ∷ es) [] at = bad
named_points low (k ∷ ks) (e ∷ es) (x ∷ xs) at = after (point_named low k e x) (λ p. named_points (key_of p + 1) ks es xs (at + size_of p))

-- R10: the scans that lows and highs name, two lists of equal length, each low above the high before it; and the place past their bytes
unfoldable pub named_scans : ℕ → List ℕ → List ℕ → ℕ → Parsed Scan
named_scans floor [] [] at = took [] at
named_scans floor [] (h ∷ hs) at = bad
named_scans floor (l ∷ ls) [] at = bad
named_scans floor (l ∷ ls) (h ∷ hs) at = after (scan_named floor l h) (λ c. named_scans (c.high + 1) ls hs (at + 8))

-- R4, R53: where the first point stands in the version for as many points and scans as the lists have
abbrev pub start_for : Lists → ℕ
start_for l = head_size (version_for (length l.kinds) (length l.lows))

-- R10: the record that the lists name, if they keep every rule
unfoldable pub record_of : ℕ → Lists → Option Rec
record_of snapshot l =
    on_took (named_points 0 l.kinds l.keys l.payloads (start_for l)) λ ps at.
    on_took (named_scans 0 l.lows l.highs at) λ cs end.
    if leb (length ps) max_points && leb (length cs) max_scans then some (record { snapshot = snapshot; points = ps; scans = cs }) else none

-- R10: the lists that name a record
abbrev pub lists_of : Rec → Lists
lists_of r =
    lists (map kind_of r.points) (map key_of r.points) (map payload_of r.points) (map low_of r.scans) (map high_of r.scans)

-- the numbers lent fit their types (R2): the snapshot, keys and highs have 32 bits, the payloads 64
pub record Fitting (snapshot : ℕ) (l : Lists) : Type 0 where
  pub snapshot_fits : snapshot < 2 ^ 32
  pub keys_fit : (i : ℕ) → get_or l.keys i 0 < 2 ^ 32
  pub payloads_fit : (i : ℕ) → get_or l.payloads i 0 < 2 ^ 64
  pub highs_fit : (i : ℕ) → get_or l.highs i 0 < 2 ^ 32

-- R10: what a call gives back and what it leaves in the output
pub record WriteOutcome : Type 0 where
  pub written : Result ℕ Answer
  pub left : List ℕ

-- R10: the two together
abbrev pub write_outcome : Result ℕ Answer → List ℕ → WriteOutcome
write_outcome w l = record { written = w; left = l }

-- what the writer gives back for bytes that it has written (R10): their number
abbrev pub written_of : List ℕ → Result ℕ Answer
written_of bytes = Ok (length bytes)

-- R10: what the writer answers and leaves, the first row that applies
unfoldable pub write_of : Option Rec → List ℕ → WriteOutcome
write_of none output = write_outcome (Err malformed) output
write_of (some r) output =
    if leb (length (bytes_of r)) (length output)
    then write_outcome (written_of (bytes_of r)) (front (bytes_of r) output)
    else write_outcome (Err output_short) output

-- R8: the size of the record named, if there is one: what the first pass over the lists finds
abbrev pub size_end : Option Rec → Optional ℕ
size_end none = None
size_end (some r) = Some (length (bytes_of r))

-- R10: what `write` promises of a snapshot, the lists and the output as it was: what it gives back, and the output afterwards
abbrev pub WritesAs : ℕ → Lists → List ℕ → Result ℕ Answer → List ℕ → Type 0
WritesAs snapshot l before w after = write_outcome w after ≡ write_of (record_of snapshot l) before
