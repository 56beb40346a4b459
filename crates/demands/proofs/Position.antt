-- The image one position on differs from the image in the position's four bytes alone.
-- Assumes nothing.
use Prim.Native.Nat.{ℕ, zero, suc, ◌+◌, ◌-◌, ◌*◌, ◌/◌, ◌%◌, ◌≤◌, ◌<◌}
use mathlib.Core.Path.{◌≡◌, refl, sym, ap, ◌∙◌}
use mathlib.Core.Logic.{◌⊎◌, ⊎_elim}
use mathlib.Core.List.{List}
use native.Mathlib.Omega.{arith}
use native.Mathlib.Decide.{dec_lt}
use lib.ListN.{length, get_or, take, drop}
use lib.Seq.{get_or-take, get_or-drop}
use Rattle.words.specs.Word.{Bytes, word}
use Rattle.words.specs.Laws.{same_bytes}
use Rattle.nodes.specs.declared.header.Header.{Header}
use Rattle.nodes.specs.Nodes.{header_at, put_header}
use Rattle.nodes.specs.Laws.{byte_header}
use Rattle.pool.specs.Image.{Arrangement, Image, header_of}
use Rattle.pool.proofs.Fixed.{one_image}
use Rattle.advance.specs.Moved.{moved_on}
use Rattle.advance.proofs.Moving.{onward_arranged}
use Rattle.pool.proofs.Headers.{image_of}
use Rattle.demands.specs.Touches.{Within, position_from, position_to}

-- equal words have equal bytes
word_byte : (m m' : List ℕ) (q i : ℕ) → Bytes m → Bytes m' → 4 * q + 4 ≤ length m → 4 * q + 4 ≤ length m' → word 4 m' (4 * q) ≡ word 4 m (4 * q)
    → 4 * q ≤ i → i < 4 * q + 4 → get_or m' i 0 ≡ get_or m i 0
word_byte m m' q i b b' l l' e low top =
    let k : 4 * q + (i - 4 * q) ≡ i = omega arith in
    let cut : (s : List ℕ) → get_or (take 4 (drop (4 * q) s)) (i - 4 * q) 0 ≡ get_or s i 0 =
    λ s. get_or-take 4 (drop (4 * q) s) (i - 4 * q) 0 (omega arith) ∙ get_or-drop (4 * q) s (i - 4 * q) 0 ∙ ap (λ (j : ℕ). get_or s j 0) k in
    sym (cut m') ∙ ap (λ (s : List ℕ). get_or s (i - 4 * q) 0) (same_bytes 4 m' m (4 * q) (4 * q) b' b l' l e) ∙ cut m

-- the header's words but for the position
header_words_lem : (m m' : List ℕ) (A : Arrangement) → Image m A → Image m' (moved_on A) → (q : ℕ) → q < 7 → (q ≡ 3 → ⊥) → word 4 m' (4 * q) ≡ word 4 m (4 * q)
unfolding header_at
header_words_lem m m' A i j zero l n = ap (λ (h : Header). h.mark) j.header ∙ sym (ap (λ (h : Header). h.mark) i.header)
header_words_lem m m' A i j (suc zero) l n = ap (λ (h : Header). h.limit) j.header ∙ sym (ap (λ (h : Header). h.limit) i.header)
header_words_lem m m' A i j (suc (suc zero)) l n = ap (λ (h : Header). h.zone) j.header ∙ sym (ap (λ (h : Header). h.zone) i.header)
header_words_lem m m' A i j (suc (suc (suc zero))) l n = absurd (n refl)
header_words_lem m m' A i j (suc (suc (suc (suc zero)))) l n = ap (λ (h : Header). h.kept) j.header ∙ sym (ap (λ (h : Header). h.kept) i.header)
header_words_lem m m' A i j (suc (suc (suc (suc (suc zero))))) l n = ap (λ (h : Header). h.root) j.header ∙ sym (ap (λ (h : Header). h.root) i.header)
header_words_lem m m' A i j (suc (suc (suc (suc (suc (suc zero)))))) l n = ap (λ (h : Header). h.free) j.header ∙ sym (ap (λ (h : Header). h.free) i.header)
header_words_lem m m' A i j (suc (suc (suc (suc (suc (suc (suc q))))))) l n = absurd (omega arith)

-- bytes 12 to 15 alone
pub position_alone : (m m' : List ℕ) (A : Arrangement) → Image m A → Image m' (moved_on A) → Within position_from position_to m m'
position_alone m m' A i j = record { size = j.size ∙ sym i.size; others = others }
  where
    same : m' ≡ put_header m (header_of (moved_on A))
    same =
        one_image m' (put_header m (header_of (moved_on A))) (moved_on A) j
        (image_of m (moved_on A) (onward_arranged A (omega (arith, j.arranged.lawful.last)) i.arranged) i.size i.bytes i.zeros i.tree i.free)

    others : (k : ℕ) → (k < position_from) ⊎ (position_to ≤ k) → get_or m' k 0 ≡ get_or m k 0
    others k apart = elim (dec_lt k 28) [
      | yes l ↦
          let q : k ≡ 4 * (k / 4) + k % 4 = omega arith in
          word_byte m m' (k / 4) k i.bytes j.bytes (omega (arith, i.size)) (omega (arith, j.size))
          (header_words_lem m m' A i j (k / 4) (omega arith) (⊎_elim (λ (h : k < position_from). λ e. omega arith) (λ (h : position_to ≤ k). λ e. omega arith) apart)) (omega arith) (omega arith)
      | no g ↦ ap (λ (s : List ℕ). get_or s k 0) same ∙ byte_header m (header_of (moved_on A)) k (omega arith)
    ]
