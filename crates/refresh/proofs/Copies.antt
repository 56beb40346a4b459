-- A copy to the front, byte by byte: what one turn of the copying loop leaves, and what all of them do.
-- Assumes nothing.
use Prim.Native.Nat.{ℕ, ◌+◌, ◌≤◌, ◌<◌}
use mathlib.Core.Path.{◌≡◌, sym, ap, ◌∙◌}
use mathlib.Core.List.{List, ◌++◌}
use native.Mathlib.Omega.{arith}
use native.Mathlib.Nat.{zero-add}
use native.Mathlib.Numerals.{add-one}
use lib.ListN.{length, get_or, drop, set}
use lib.Seq.{paste, paste-suc, take-length}
use Rattle.record.specs.Reader.{front}

module _ (source before : List ℕ) where
  -- one more byte
  pub copy_more : (output : List ℕ) (i : ℕ) → output ≡ paste before 0 source i → i < length source → length source ≤ length before
      → set output i (get_or source i 0) ≡ paste before 0 source (i + 1)
  copy_more output i e h room =
      ap (λ (k : ℕ). set output k (get_or source i 0)) (sym (zero-add i)) ∙ ap (λ (l : List ℕ). set l (0 + i) (get_or source i 0)) e
      ∙ paste-suc before 0 source i 0 (omega arith) h ∙ ap (paste before 0 source) (sym (add-one i))

  -- all bytes
  pub copy_all : (output : List ℕ) (i : ℕ) → output ≡ paste before 0 source i → i ≤ length source → length source ≤ i → output ≡ front source before
  copy_all output i e h room =
      let n : i ≡ length source = omega arith in
      e ∙ ap (paste before 0 source) n ∙ ap (λ (l : List ℕ). l ++ drop (0 + length source) before) (take-length source)
      ∙ ap (λ (k : ℕ). source ++ drop k before) (zero-add (length source))
