-- What stands at a place of a list of bytes, said by what is left from there on: a byte, or the bytes of a number.
-- Assumes nothing.
use Prim.Native.Nat.{ℕ, ◌+◌, ◌^◌, ◌≤◌, ◌<◌}
use mathlib.Core.Path.{◌≡◌, sym, ap, ◌∙◌}
use mathlib.Core.List.{List, ◌∷◌, ◌++◌}
use native.Mathlib.Omega.{arith}
use native.Mathlib.Numerals.{add-one}
use lib.ListN.{length, get_or, drop, length-drop, length-append, take-append-drop}
use lib.Seq.{drop-drop, drop-append_seam, get_or-drop, drop-cons}
use Rattle.words.specs.Word.{Bytes, word, big_endian}
use Rattle.words.specs.Laws.{length_big_endian, word_drop, word_big_endian, big_endian_word}

-- FROM WHAT STANDS THERE TO WHAT IS READ

module _ (bs rest : List ℕ) (at : ℕ) where
  -- the place behind
  pub after_here : (vs : List ℕ) (k : ℕ) → length vs ≡ k → drop at bs ≡ vs ++ rest → drop (at + k) bs ≡ rest
  after_here vs k l e =
      ap (λ (n : ℕ). drop (at + n) bs) (sym l) ∙ sym (drop-drop (length vs) at bs) ∙ ap (drop (length vs)) e ∙ drop-append_seam vs rest

  -- all of it lies within the bytes
  pub fits_here : (vs : List ℕ) (k : ℕ) → length vs ≡ k → 0 < k → drop at bs ≡ vs ++ rest → at + k ≤ length bs
  fits_here vs k l h e = omega (arith, length-drop at bs, ap length e, length-append vs rest)

  -- the byte that stands there is read there
  pub byte_here : (a : ℕ) → drop at bs ≡ a ∷ rest → get_or bs at 0 ≡ a
  byte_here a e =
      ap (λ (n : ℕ). get_or bs n 0) (omega arith) ∙ sym (get_or-drop at bs 0 0) ∙ ap (λ (l : List ℕ). get_or l 0 0) e

  -- the number whose bytes stand there is read there
  pub word_here : (k x : ℕ) → drop at bs ≡ big_endian k x ++ rest → x < 256 ^ k → word k bs at ≡ x
  word_here k x e h =
      ap (word k bs) (omega arith) ∙ sym (word_drop k bs at 0) ∙ ap (λ (l : List ℕ). word k l 0) e ∙ word_big_endian k x rest h

  -- the place behind a number
  pub after_word : (k x : ℕ) → drop at bs ≡ big_endian k x ++ rest → drop (at + k) bs ≡ rest
  after_word k x e = after_here (big_endian k x) k (length_big_endian k x) e

-- FROM WHAT IS READ TO WHAT STANDS THERE

module _ (bs : List ℕ) (at : ℕ) where
  -- the byte that is read there stands there
  pub byte_at : at < length bs → drop at bs ≡ get_or bs at 0 ∷ drop (at + 1) bs
  byte_at h = drop-cons bs at 0 h ∙ ap (λ (n : ℕ). get_or bs at 0 ∷ drop n bs) (sym (add-one at))

  -- the bytes of the number that is read there stand there
  pub word_at : (k : ℕ) → Bytes bs → at + k ≤ length bs → drop at bs ≡ big_endian k (word k bs at) ++ drop (at + k) bs
  word_at k b h =
      sym (take-append-drop k (drop at bs)) ∙ ap (λ (l : List ℕ). l ++ drop k (drop at bs)) (sym (big_endian_word k bs at b h))
      ∙ ap (λ (l : List ℕ). big_endian k (word k bs at) ++ l) (drop-drop k at bs)
