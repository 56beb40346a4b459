-- What the reader's entry for pairs promises (R11).
-- Assumes nothing: these are definitions.
use Rattle.std.specs.Prelude.{ℕ, ◌≡◌, List, map, Result}
use Rattle.record.specs.declared.answer.Answer.{Answer}
use Rattle.record.specs.declared.point.Scan.{Scan}
use Rattle.record.specs.declared.reader.Reading.{Reading}
use Rattle.record.specs.Parse.{parse}
use Rattle.record.specs.Reader.{lists, low_of, high_of, read_outcome, read_of}

-- the reader's own equation, with the lows and the highs of the pairs before and afterwards as its last two lists (R11)
abbrev pub PairsRead : List ℕ → List ℕ → List ℕ → List ℕ → List Scan → Result Reading Answer → List ℕ → List ℕ → List ℕ → List Scan → Type 0
PairsRead bytes ks es xs cs r ks' es' xs' cs' =
    read_outcome r (lists ks' es' xs' (map low_of cs') (map high_of cs')) ≡ read_of (parse bytes) (lists ks es xs (map low_of cs) (map high_of cs))
