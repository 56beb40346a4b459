-- Pairs, split and put together again: what the loop stores is what the pairs say, and more than 64 name no record.
-- Assumes nothing.
use Rattle.std.proofs.Common.{◌≡◌, ℕ, ◌+◌, ◌<◌, ◌≤◌, List, [], ◌∷◌, ◌++◌, map, length, take, get_or, set, ap, sym, ◌∙◌, refl, arith}
use Rattle.std.proofs.Math.Option.{Option, none, some}
use Rattle.std.proofs.lemmas.List.{take_more_set, map_more, take_all, length-map, length-set}
use Rattle.record.specs.declared.point.Scan.{Scan}
use Rattle.record.specs.Record.{Rec}
use Rattle.record.specs.Reader.{lists, low_of, high_of}
use Rattle.writer.specs.Writer.{record_of}
use Rattle.writer.proofs.Names.{lists_name}

module _ (f : Scan → ℕ) (i : ℕ) (ls : List ℕ) (cs : List Scan) where
  -- of a list of 64, the first i are one end of the first i pairs
  abbrev pub Split : Type 0
  Split = (length ls ≡ 64) × (take i ls ≡ map f (take i cs))

  -- the first i of all pairs, of which there are not more
  pub split_all : Split → length cs ≤ i → i ≤ length cs → take (length cs) ls ≡ map f cs
  split_all is a b = let all : length cs ≡ i = omega arith in ap (λ (n : ℕ). take n ls) all ∙ is.1 ∙ ap (map f) (take_all i cs a)

-- one end of the next pair, stored behind those that are there
pub split_more : (f : Scan → ℕ) (i : ℕ) (ls : List ℕ) (cs : List Scan) (d : Scan) → Split f i ls cs → i < 64 → i < length cs → Split f (i + 1) (set ls i (f (get_or cs i d))) cs
split_more f i ls cs d is a b = (
  length-set ls i (f (get_or cs i d)) ∙ is.0,
  take_more_set ls i (f (get_or cs i d)) (omega (arith, is.0, a)) ∙ ap (λ (v : List ℕ). v ++ f (get_or cs i d) ∷ []) is.1 ∙ sym (map_more f cs i d b),
)

-- more than 64 pairs name no record
pub too_many : (snapshot : ℕ) (ks es xs : List ℕ) (cs : List Scan) → 64 < length cs → record_of snapshot (lists ks es xs (map low_of cs) (map high_of cs)) ≡ none
too_many snapshot ks es xs cs many = by_cases (record_of snapshot (lists ks es xs (map low_of cs) (map high_of cs))) refl
  where
    by_cases : (o : Option Rec) → record_of snapshot (lists ks es xs (map low_of cs) (map high_of cs)) ≡ o → o ≡ none
    by_cases none e = refl
    by_cases (some r) e =
        let is = lists_name snapshot (lists ks es xs (map low_of cs) (map high_of cs)) r e in
        let same : length (map low_of cs) ≡ length (map low_of r.scans) = ap (λ l. length l.lows) is.lists_are in
        absurd (omega (arith, length-map cs low_of, length-map r.scans low_of, same, is.few_scans, many))
