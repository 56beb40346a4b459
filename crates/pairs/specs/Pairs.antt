-- What the writer's entries for pairs promise (R10): the writer's own promise, of the lows and the highs of the pairs.
-- Assumes nothing: these are definitions.
use Rattle.std.specs.Prelude.{ℕ, List, [], ◌∷◌, map, Result}
use Rattle.record.specs.declared.answer.Answer.{Answer}
use Rattle.record.specs.declared.point.Scan.{Scan}
use Rattle.record.specs.Reader.{lists, low_of, high_of}
use Rattle.writer.specs.Writer.{WritesAs}

-- R10: what `write_pairs` promises: the writer's promise, of the lows and the highs of the pairs
abbrev pub PairsWritten : ℕ → List ℕ → List ℕ → List ℕ → List Scan → List ℕ → Result ℕ Answer → List ℕ → Type 0
PairsWritten snapshot ks es xs cs before w after = WritesAs snapshot (lists ks es xs (map low_of cs) (map high_of cs)) before w after

-- R10: what `write_one` promises, of one scan
abbrev pub OneWritten : ℕ → List ℕ → List ℕ → List ℕ → Scan → List ℕ → Result ℕ Answer → List ℕ → Type 0
OneWritten snapshot ks es xs c before w after = WritesAs snapshot (lists ks es xs (c.low ∷ []) (c.high ∷ [])) before w after
