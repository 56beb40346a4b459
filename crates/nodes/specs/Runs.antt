-- Words stored one behind the other: each is read back, what lies apart is as it was.
-- Assumes nothing.
use Rattle.std.specs.Prelude.{ℕ, zero, suc, ◌+◌, ◌*◌, ◌^◌, ◌≤◌, ◌<◌, ◌≡◌, refl, ◌⊎◌, List, [], ◌∷◌, length, get_or}
use Rattle.std.proofs.Common.{◌∙◌, inl, inr, ⊎_elim, arith}
use Rattle.words.specs.Word.{Bytes, word, put_word}
use Rattle.words.specs.Laws.{length_put, byte_put, word_put, word_apart, bytes_put}
use Rattle.nodes.specs.Nodes.{put_words}

-- each fits a word
abbrev pub Small : List ℕ → Type 0
Small [] = Unit
Small (w ∷ ws) = (w < 2 ^ 32) × Small ws

pub length_words : (ws m : List ℕ) (at : ℕ) → length (put_words m at ws) ≡ length m
unfolding put_words
length_words [] m at = refl
length_words (w ∷ ws) m at = length_words ws (put_word 4 m at w) (at + 4) ∙ length_put 4 m at w

pub bytes_words : (ws m : List ℕ) (at : ℕ) → Bytes m → Bytes (put_words m at ws)
unfolding put_words
bytes_words [] m at b = b
bytes_words (w ∷ ws) m at b = bytes_words ws (put_word 4 m at w) (at + 4) (bytes_put 4 m at w b)

-- a byte outside the run
pub byte_words : (ws m : List ℕ) (at j : ℕ) → (j < at) ⊎ (at + 4 * length ws ≤ j) → get_or (put_words m at ws) j 0 ≡ get_or m j 0
unfolding put_words
byte_words [] m at j w = refl
byte_words (x ∷ ws) m at j w =
    byte_words ws (put_word 4 m at x) (at + 4) j (⊎_elim (λ h. inl (omega arith)) (λ h. inr (omega arith)) w)
    ∙ byte_put 4 m at x j (⊎_elim (λ h. inl (omega arith)) (λ h. inr (omega arith)) w)

-- a word outside the run
pub word_outside : (ws m : List ℕ) (at i : ℕ) → (i + 4 ≤ at) ⊎ (at + 4 * length ws ≤ i) → word 4 (put_words m at ws) i ≡ word 4 m i
unfolding put_words
word_outside [] m at i w = refl
word_outside (x ∷ ws) m at i w =
    word_outside ws (put_word 4 m at x) (at + 4) i (⊎_elim (λ h. inl (omega arith)) (λ h. inr (omega arith)) w)
    ∙ word_apart 4 4 m at x i (⊎_elim (λ h. inl (omega arith)) (λ h. inr (omega arith)) w)

-- the words of the run, at the place where each was put
pub word_inside : (ws m : List ℕ) (at k : ℕ) → k < length ws → at + 4 * length ws ≤ length m → Small ws → word 4 (put_words m at ws) (at + 4 * k) ≡ get_or ws k 0
unfolding put_words
word_inside [] m at k h f s = absurd (omega arith)
word_inside (w ∷ ws) m at zero h f s =
    let e : at + 0 ≡ at = omega arith in
    rw e (word_outside ws (put_word 4 m at w) (at + 4) at (inl (omega arith)) ∙ word_put 4 m at w (omega arith) s.0)
word_inside (w ∷ ws) m at (suc k) h f s =
    let e : at + 4 * suc k ≡ at + 4 + 4 * k = omega arith in
    rw e (word_inside ws (put_word 4 m at w) (at + 4) k (omega arith) (rw length_put (omega arith)) s.1)
