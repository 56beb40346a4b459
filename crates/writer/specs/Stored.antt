-- What the second pass over the lists stores, byte by byte. No public promise cites it: proofs show that it is the record's bytes.
-- Assumes nothing: these are definitions.
use Rattle.std.specs.Prelude.{ℕ, List, [], ◌∷◌, ◌++◌, eqb}
use Rattle.std.specs.Prelude.{if◌then◌else◌}
use Rattle.words.specs.Word.{big_endian}
use Rattle.record.specs.Record.{count_width}

-- the bytes before the points
abbrev pub head_bytes : ℕ → ℕ → ℕ → ℕ → ℕ → List ℕ
head_bytes version size snapshot points scans =
    big_endian 2 size ++ (version ∷ (big_endian 4 snapshot ++ (big_endian (count_width version) points ++ big_endian (count_width version) scans)))

-- a kind, a key and, for a put, a payload
unfoldable pub stored_point : ℕ → ℕ → ℕ → List ℕ
stored_point kind key payload = kind ∷ (big_endian 4 key ++ (if eqb kind 2 then big_endian 8 payload else []))

-- point by point
unfoldable pub stored_points : List ℕ → List ℕ → List ℕ → List ℕ
stored_points [] es xs = []
stored_points (k ∷ ks) [] xs = []
stored_points (k ∷ ks) (e ∷ es) [] = []
stored_points (k ∷ ks) (e ∷ es) (x ∷ xs) = stored_point k e x ++ stored_points ks es xs

-- a low and a high
abbrev pub stored_scan : ℕ → ℕ → List ℕ
stored_scan low high = big_endian 4 low ++ big_endian 4 high

-- scan by scan
unfoldable pub stored_scans : List ℕ → List ℕ → List ℕ
stored_scans [] hs = []
stored_scans (l ∷ ls) [] = []
stored_scans (l ∷ ls) (h ∷ hs) = stored_scan l h ++ stored_scans ls hs
