-- The definitions at the widths of the code, written out as the code computes them.
-- Assumes nothing.
use Prim.Native.Nat.{ℕ, zero, suc, ◌+◌, ◌*◌, ◌/◌, ◌%◌, ◌^◌}
use mathlib.Core.Path.{◌≡◌, refl, sym, ap, ◌∙◌}
use mathlib.Core.List.{List, [], ◌∷◌, ◌++◌}
use native.Mathlib.Omega.{arith}
use native.Mathlib.Numerals.{towards_suc}
use native.Mathlib.Nat.{div-div-eq-div-mul, pow-suc, mul_comm}
use lib.ListN.{get_or, set}
use lib.Seq.{sets}
use Rattle.std.specs.Int.{byte_at, bytes_high_first}
use Rattle.words.specs.Word.{word, big_endian, put_word}
use Rattle.words.specs.Laws.{word_split, big_endian_split, sets_append, length_big_endian}

start : (s : List ℕ) (at : ℕ) → get_or s (at + 0) 0 ≡ get_or s at 0
start s at = ap (λ (i : ℕ). get_or s i 0) (omega arith)

-- what the code computes of the bytes that it read is the number
pub word_2 : (s : List ℕ) (at a b : ℕ) → a ≡ get_or s at 0 → b ≡ get_or s (at + 1) 0 → a * 256 + b ≡ word 2 s at
unfolding word
word_2 s at a b e f = omega (arith, start s at)

pub word_4 : (s : List ℕ) (at a b c d : ℕ) → a ≡ get_or s at 0 → b ≡ get_or s (at + 1) 0 → c ≡ get_or s (at + 2) 0 → d ≡ get_or s (at + 3) 0
    → a * 16777216 + b * 65536 + c * 256 + d ≡ word 4 s at
unfolding word
word_4 s at a b c d e f g h = omega (arith, start s at)

pub word_8 : (s : List ℕ) (at a b : ℕ) → a ≡ word 4 s at → b ≡ word 4 s (at + 4) → a * 4294967296 + b ≡ word 8 s at
word_8 s at a b e f = rw (e, f) (sym (word_split 4 4 s at))

-- the bytes that the code takes of a number are the number's, whatever the width
byte_up : (i x : ℕ) → byte_at (suc i) x ≡ byte_at i (x / 256)
byte_up zero x = refl
byte_up (suc i) x = ap (λ (p : ℕ). x / p % 256) (pow-suc 256 (suc i) ∙ mul_comm (256 ^ suc i) 256) ∙ ap (λ (q : ℕ). q % 256) (sym (div-div-eq-div-mul x 256 (256 ^ suc i)))

bytes_last : (k x : ℕ) → bytes_high_first (suc k) x ≡ bytes_high_first k (x / 256) ++ (x % 256 ∷ [])
bytes_last zero x = refl
bytes_last (suc k) x = rw (bytes_last k x, byte_up k x)

bytes_are : (k x : ℕ) → bytes_high_first k x ≡ big_endian k x
unfolding big_endian
bytes_are zero x = refl
bytes_are (suc k) x = rw (bytes_last k x, bytes_are k (x / 256))

-- stored one behind the other, they are the number put there
pub put_2 : (s ys : List ℕ) (at x : ℕ) → ys ≡ bytes_high_first 2 x → set (set s at (get_or ys 0 0)) (at + 1) (get_or ys 1 0) ≡ put_word 2 s at x
unfolding put_word
put_2 s ys at x e = rw (e, sym (bytes_are 2 x)) (simp towards_suc)

pub put_4 : (s ys : List ℕ) (at x : ℕ) → ys ≡ bytes_high_first 4 x
    → set (set (set (set s at (get_or ys 0 0)) (at + 1) (get_or ys 1 0)) (at + 2) (get_or ys 2 0)) (at + 3) (get_or ys 3 0) ≡ put_word 4 s at x
unfolding put_word
put_4 s ys at x e = rw (e, sym (bytes_are 4 x)) (simp towards_suc)

-- and eight bytes in two halves
low_half : (x : ℕ) → big_endian 4 (x % 4294967296) ≡ big_endian 4 x
unfolding big_endian
low_half x =
    ap (λ (a : ℕ). a ∷ x % 4294967296 / 256 / 256 % 256 ∷ x % 4294967296 / 256 % 256 ∷ x % 4294967296 % 256 ∷ []) (omega arith)
    ∙ ap (λ (a : ℕ). x / 256 / 256 / 256 % 256 ∷ a ∷ x % 4294967296 / 256 % 256 ∷ x % 4294967296 % 256 ∷ []) (omega arith)
    ∙ ap (λ (a : ℕ). x / 256 / 256 / 256 % 256 ∷ x / 256 / 256 % 256 ∷ a ∷ x % 4294967296 % 256 ∷ []) (omega arith)
    ∙ ap (λ (a : ℕ). x / 256 / 256 / 256 % 256 ∷ x / 256 / 256 % 256 ∷ x / 256 % 256 ∷ a ∷ []) (omega arith)

pub put_8 : (s t u : List ℕ) (at x : ℕ) → t ≡ put_word 4 s at (x / 4294967296) → u ≡ put_word 4 t (at + 4) (x % 4294967296) → u ≡ put_word 8 s at x
unfolding put_word
put_8 s t u at x e f =
    f ∙ rw (e, low_half x)
    (sym (ap (λ (l : List ℕ). sets s at l) (big_endian_split 4 4 x)
    ∙ sets_append (big_endian 4 (x / 4294967296)) (big_endian 4 x) s at
    ∙ ap (λ (n : ℕ). sets (sets s at (big_endian 4 (x / 4294967296))) (at + n) (big_endian 4 x)) (length_big_endian 4 (x / 4294967296))))
