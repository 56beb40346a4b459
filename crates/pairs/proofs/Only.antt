-- NO SECOND ANSWER meets the promise of `read_pairs`: it is the reader's own, of the lows and highs of the pairs, and a list of pairs is
-- fixed by the two.
-- Assumes nothing.
use mathlib.Core.Path.{◌≡◌, sym, ap, ◌∙◌}
use Prim.Native.Nat.{ℕ}
use mathlib.Core.List.{List, map}
use Rattle.std.specs.Prelude.{Result}
use Rattle.record.specs.declared.answer.Answer.{Answer}
use Rattle.record.specs.declared.point.Scan.{Scan}
use Rattle.record.specs.declared.reader.Reading.{Reading}
use Rattle.record.specs.Reader.{ReadOutcome, lists, low_of, high_of, read_outcome}
use Rattle.pairs.specs.PairReader.{PairsRead}
use Rattle.pairs.proofs.PairReadLaws.{lows_highs_fix}

-- one reading, and one content of all four lists afterwards, the pairs whole
pub only_read_pairs : (bytes ks es xs : List ℕ) (cs : List Scan) (r q : Result Reading Answer) (ks₁ es₁ xs₁ ks₂ es₂ xs₂ : List ℕ) (cs₁ cs₂ : List Scan)
    → PairsRead bytes ks es xs cs r ks₁ es₁ xs₁ cs₁ → PairsRead bytes ks es xs cs q ks₂ es₂ xs₂ cs₂
    → (r ≡ q) × (ks₁ ≡ ks₂) × (es₁ ≡ es₂) × (xs₁ ≡ xs₂) × (cs₁ ≡ cs₂)
only_read_pairs bytes ks es xs cs r q ks₁ es₁ xs₁ ks₂ es₂ xs₂ cs₁ cs₂ h k =
    let both : read_outcome r (lists ks₁ es₁ xs₁ (map low_of cs₁) (map high_of cs₁)) ≡ read_outcome q (lists ks₂ es₂ xs₂ (map low_of cs₂) (map high_of cs₂)) = h ∙ sym k in (
      ap (λ (o : ReadOutcome). o.reading) both,
      ap (λ (o : ReadOutcome). o.left.kinds) both,
      ap (λ (o : ReadOutcome). o.left.keys) both,
      ap (λ (o : ReadOutcome). o.left.payloads) both,
      lows_highs_fix cs₁ cs₂ (ap (λ (o : ReadOutcome). o.left.lows) both) (ap (λ (o : ReadOutcome). o.left.highs) both),
    )
