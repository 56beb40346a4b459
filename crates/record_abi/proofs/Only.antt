-- No second answer meets the promise of an exported function of the record part, here and in `abi`: the number that it answers, every
-- number that it sets and every byte that it leaves are fixed. Each promise fixes what is given back, and its numbers are what C is given.
-- Assumes nothing.
use Prim.Native.Nat.{ℕ}
use mathlib.Core.Path.{◌≡◌, sym, ap, ◌∙◌}
use mathlib.Core.List.{List}
use Rattle.std.specs.Prelude.{Result}
use Rattle.record.specs.declared.answer.Answer.{Answer}
use Rattle.record.specs.Reader.{Lists, ReadOutcome, read_outcome}
use Rattle.writer.specs.Writer.{WriteOutcome, write_outcome}
use Rattle.joiner.proofs.Only as Join
use Rattle.record_abi.specs.declared.numbers.CutNumbers.{CutNumbers}
use Rattle.record_abi.specs.declared.numbers.ReadingNumbers.{ReadingNumbers}
use Rattle.record_abi.specs.declared.numbers.SizeNumbers.{SizeNumbers}
use Rattle.record_abi.specs.Numbers.{reading, of_reading, sized, of_size, found}
use Rattle.record_abi.specs.Told.{ChecksAs, ReadsInNumbers, WritesInNumbers, JoinsInNumbers, CutsAs}

-- `emuparasol_check`: one number
pub only_check : (bytes : List ℕ) (r q : ℕ) → ChecksAs bytes r → ChecksAs bytes q → r ≡ q
only_check bytes r q a b = ap (λ (c : Answer). c.number) (a ∙ sym b)

-- `emuparasol_read`: one number, snapshot and two counts, and one content of all five lists
pub only_read : (bytes : List ℕ) (before : Lists) (r s points scans q s' points' scans' : ℕ) (left kept : Lists)
    → ReadsInNumbers bytes before (reading r s points scans) left → ReadsInNumbers bytes before (reading q s' points' scans') kept
    → (r ≡ q) × (s ≡ s') × (points ≡ points') × (scans ≡ scans') × (left ≡ kept)
only_read bytes before r s points scans q s' points' scans' left kept a b =
    let said : read_outcome a.said left ≡ read_outcome b.said kept = a.reads ∙ sym b.reads in
    let same : reading r s points scans ≡ reading q s' points' scans' = a.told ∙ ap (λ (o : ReadOutcome). of_reading o.reading) said ∙ sym b.told in (
      ap (λ (t : ReadingNumbers). t.number) same,
      ap (λ (t : ReadingNumbers). t.snapshot) same,
      ap (λ (t : ReadingNumbers). t.points) same,
      ap (λ (t : ReadingNumbers). t.scans) same,
      ap (λ (o : ReadOutcome). o.left) said,
    )

-- what is sized alike has one number and one size
sizes_same : (n size k size' : ℕ) (x y : Result ℕ Answer) → sized n size ≡ of_size x → sized k size' ≡ of_size y → x ≡ y → (n ≡ k) × (size ≡ size')
sizes_same n size k size' x y a b e =
    let same : sized n size ≡ sized k size' = a ∙ ap of_size e ∙ sym b in
    (ap (λ (t : SizeNumbers). t.number) same, ap (λ (t : SizeNumbers). t.size) same)

-- `emuparasol_write`: one number and size, and one content of the output
pub only_write : (snapshot : ℕ) (l : Lists) (output : List ℕ) (r size q size' : ℕ) (left kept : List ℕ)
    → WritesInNumbers snapshot l output (sized r size) left → WritesInNumbers snapshot l output (sized q size') kept → (r ≡ q) × (size ≡ size') × (left ≡ kept)
only_write snapshot l output r size q size' left kept a b =
    let said : write_outcome a.said left ≡ write_outcome b.said kept = a.writes ∙ sym b.writes in
    let same = sizes_same r size q size' a.said b.said a.told b.told (ap (λ (o : WriteOutcome). o.written) said) in
    (same.0, same.1, ap (λ (o : WriteOutcome). o.left) said)

-- `emuparasol_join`: one number and size, and one content of the output
pub only_join : (x y output : List ℕ) (r size q size' : ℕ) (left kept : List ℕ)
    → JoinsInNumbers x y output (sized r size) left → JoinsInNumbers x y output (sized q size') kept → (r ≡ q) × (size ≡ size') × (left ≡ kept)
only_join x y output r size q size' left kept a b =
    let said = Join.only_join x y output a.said b.said left kept a.joins b.joins in
    let same = sizes_same r size q size' a.said b.said a.told b.told said.0 in
    (same.0, same.1, said.1)

-- `emuparasol_cut`: one number, and one place afterwards
pub only_cut : (log : List ℕ) (place r next q next' : ℕ) → CutsAs log place (found r next) → CutsAs log place (found q next') → (r ≡ q) × (next ≡ next')
only_cut log place r next q next' a b =
    let same : found r next ≡ found q next' = a ∙ sym b in
    (ap (λ (t : CutNumbers). t.number) same, ap (λ (t : CutNumbers). t.next) same)
