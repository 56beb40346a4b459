-- What others use of `word`, `big_endian` and `put_word`, each said once for every width: nobody else unfolds them.
-- Assumes nothing.
use Rattle.std.specs.Prelude.{ℕ, zero, suc, ◌+◌, ◌*◌, ◌/◌, ◌%◌, ◌^◌, ◌≤◌, ◌<◌, ◌≡◌, refl, ◌⊎◌, length, get_or, take, drop, set}
use Rattle.std.proofs.Common.{sym, ap, ◌∙◌, inl, inr, ⊎_elim, arith, length-set, length-append, length-take, length-drop, take-append-drop, get_or-set_same, get_or-set_other, get_or-drop, get_or-take, take-suc}
use mathlib.Core.List.{List, [], ◌∷◌, ◌++◌, append_assoc}
use Rattle.std.proofs.Math.Decide.{dec_lt}
use native.Mathlib.Nat.{add-suc, suc-add, pow-suc, suc-mul, div-div-eq-div-mul, mul_comm}
use Rattle.std.proofs.Math.ListN.{get_or-eq_default}
use Rattle.std.proofs.lemmas.List.Edits.{sets}
use Rattle.std.proofs.Math.Seq.{length-sets}
use Rattle.std.proofs.lemmas.List.{get_or_at}
use Rattle.words.specs.Word.{Bytes, word, big_endian, put_word}

-- LENGTHS

pub length_big_endian : (k x : ℕ) → length (big_endian k x) ≡ k
unfolding big_endian
length_big_endian zero x = refl
length_big_endian (suc k) x = omega (arith, length-append (big_endian k (x / 256)) (x % 256 ∷ []), length_big_endian k (x / 256))

pub length_put : (k : ℕ) (s : List ℕ) (at x : ℕ) → length (put_word k s at x) ≡ length s
unfolding put_word
length_put k s at x = length-sets s at (big_endian k x)

-- A RUN OF STORES, BYTE BY BYTE

-- a number stored is a run of its bytes
pub put_sets : (k : ℕ) (s : List ℕ) (at x : ℕ) → put_word k s at x ≡ sets s at (big_endian k x)
unfolding put_word
put_sets k s at x = refl

-- a byte outside the run is as it was
pub sets_outside : (vs s : List ℕ) (at j : ℕ) → (j < at) ⊎ (at + length vs ≤ j) → get_or (sets s at vs) j 0 ≡ get_or s j 0
sets_outside [] s at j w = refl
sets_outside (a ∷ vs) s at j w =
    sets_outside vs (set s at a) (suc at) j (⊎_elim (λ h. inl (omega arith)) (λ h. inr (omega arith)) w)
    ∙ get_or-set_other s at j a 0 (⊎_elim (λ h. omega arith) (λ h. omega arith) w)

-- a byte inside it is the run's
pub sets_inside : (vs s : List ℕ) (at n : ℕ) → n < length vs → at + length vs ≤ length s → get_or (sets s at vs) (at + n) 0 ≡ get_or vs n 0
sets_inside [] s at n h f = absurd (omega arith)
sets_inside (a ∷ vs) s at zero h f =
    let e : at + 0 ≡ at = omega arith in
    rw e (sets_outside vs (set s at a) (suc at) at (inl (omega arith)) ∙ get_or-set_same s at a 0 (omega arith))
sets_inside (a ∷ vs) s at (suc n) h f =
    let e : at + suc n ≡ suc at + n = omega arith in
    rw e (sets_inside vs (set s at a) (suc at) n (omega arith) (rw length-set (omega arith)))

-- two runs, one behind the other, are one
pub sets_append : (us vs s : List ℕ) (at : ℕ) → sets s at (us ++ vs) ≡ sets (sets s at us) (at + length us) vs
sets_append [] vs s at = let e : at + 0 ≡ at = omega arith in rw e
sets_append (a ∷ us) vs s at = let e : at + suc (length us) ≡ suc at + length us = omega arith in rw e (sets_append us vs (set s at a) (suc at))

pub byte_put : (k : ℕ) (s : List ℕ) (at x j : ℕ) → (j < at) ⊎ (at + k ≤ j) → get_or (put_word k s at x) j 0 ≡ get_or s j 0
unfolding put_word
byte_put k s at x j w = sets_outside (big_endian k x) s at j (rw length_big_endian w)

-- A NUMBER IN ANY BYTES

-- bytes that agree make the same number
pub word_same : (k : ℕ) (s t : List ℕ) (i j : ℕ) → ((n : ℕ) → n < k → get_or s (i + n) 0 ≡ get_or t (j + n) 0) → word k s i ≡ word k t j
unfolding word
word_same zero s t i j f = refl
word_same (suc k) s t i j f = omega (arith, word_same k s t i j (λ n h. f n (omega arith)), f k (omega arith))

pub word_drop : (k : ℕ) (s : List ℕ) (d at : ℕ) → word k (drop d s) at ≡ word k s (d + at)
word_drop k s d at = word_same k (drop d s) s at (d + at) (λ n h. get_or-drop d s (at + n) 0 ∙ ap (λ (i : ℕ). get_or s i 0) (omega arith))

-- a wide number is two narrow ones
pub word_split : (j k : ℕ) (s : List ℕ) (at : ℕ) → word (j + k) s at ≡ word j s at * 256 ^ k + word k s (at + j)
unfolding word
word_split j zero s at =
    let e : j + 0 ≡ j = omega arith in
    rw e (omega arith)
word_split j (suc k) s at =
    let i : at + (j + k) ≡ at + j + k = omega arith in
    rw (add-suc j k, word_split j k s at, i, pow-suc 256 k) (scale (word j s at) (256 ^ k) (word k s (at + j)) (get_or s (at + j + k) 0))
  where
    scale : (w p v b : ℕ) → (w * p + v) * 256 + b ≡ w * (p * 256) + (v * 256 + b)
    scale w p v b = let e : w * (p * 256) ≡ w * p * 256 = sym (native.Mathlib.Nat.mul_assoc w p 256) in rw e (omega arith)

pub word_fits : (k : ℕ) (s : List ℕ) (at : ℕ) → Bytes s → word k s at < 256 ^ k
unfolding word
word_fits zero s at b = omega arith
word_fits (suc k) s at b = rw (pow-suc 256 k) (omega (arith, word_fits k s at b, b.byte (at + k)))

-- THE BYTES OF A NUMBER

pub word_big_endian : (k x : ℕ) (rest : List ℕ) → x < 256 ^ k → word k (big_endian k x ++ rest) 0 ≡ x
unfolding word big_endian
word_big_endian zero x rest h = omega arith
word_big_endian (suc k) x rest h =
    let h' : x < 256 ^ k * 256 = rw (pow-suc 256 k) at h in
    let e : (big_endian k (x / 256) ++ (x % 256 ∷ [])) ++ rest ≡ big_endian k (x / 256) ++ (x % 256 ∷ rest) = append_assoc (big_endian k (x / 256)) (x % 256 ∷ []) rest in
    rw e (omega (arith, word_big_endian k (x / 256) (x % 256 ∷ rest) (omega arith), get_or_at (big_endian k (x / 256)) (x % 256) rest 0 (0 + k) (length_big_endian k (x / 256) ∙ omega arith)))

pub big_endian_word : (k : ℕ) (s : List ℕ) (at : ℕ) → Bytes s → at + k ≤ length s → big_endian k (word k s at) ≡ take k (drop at s)
unfolding word big_endian
big_endian_word zero s at b h = refl
big_endian_word (suc k) s at b h =
    let high : (word k s at * 256 + get_or s (at + k) 0) / 256 ≡ word k s at = omega (arith, b.byte (at + k)) in
    let low : (word k s at * 256 + get_or s (at + k) 0) % 256 ≡ get_or (drop at s) k 0 = omega (arith, b.byte (at + k), get_or-drop at s k 0) in
    rw (high, low, big_endian_word k s at b (omega arith)) (sym (take-suc (drop at s) k 0 (rw length-drop (omega arith))))

-- the bytes of a wide number are those of its two halves
pub big_endian_split : (j k x : ℕ) → big_endian (j + k) x ≡ big_endian j (x / 256 ^ k) ++ big_endian k x
unfolding big_endian
big_endian_split j zero x =
    let e : j + 0 ≡ j = omega arith in
    let d : x / 1 ≡ x = omega arith in
    rw (e, d) (sym (mathlib.Core.List.append-nil (big_endian j x)))
big_endian_split j (suc k) x =
    let d : x / 256 ^ suc k ≡ x / 256 / 256 ^ k = ap (λ (n : ℕ). x / n) (pow-suc 256 k ∙ mul_comm (256 ^ k) 256) ∙ sym (div-div-eq-div-mul x 256 (256 ^ k)) in
    rw (add-suc j k, big_endian_split j k (x / 256), d) (append_assoc (big_endian j (x / 256 / 256 ^ k)) (big_endian k (x / 256)) (x % 256 ∷ []))

-- READ OVER WRITE

-- the number is read back where it was put
pub word_put : (k : ℕ) (s : List ℕ) (at x : ℕ) → at + k ≤ length s → x < 256 ^ k → word k (put_word k s at x) at ≡ x
unfolding put_word
word_put k s at x f h =
    word_same k (sets s at (big_endian k x)) (big_endian k x ++ []) at 0
    (λ n l. sets_inside (big_endian k x) s at n (rw length_big_endian l) (rw length_big_endian f) ∙ rw (mathlib.Core.List.append-nil (big_endian k x)) (ap (λ (i : ℕ). get_or (big_endian k x) i 0) (omega arith)))
    ∙ word_big_endian k x [] h

-- a number apart from it is as it was, whatever the two widths
pub word_apart : (j k : ℕ) (s : List ℕ) (at x i : ℕ) → (i + j ≤ at) ⊎ (at + k ≤ i) → word j (put_word k s at x) i ≡ word j s i
word_apart j k s at x i w =
    word_same j (put_word k s at x) s i i (λ n l. byte_put k s at x (i + n) (⊎_elim (λ h. inl (omega arith)) (λ h. inr (omega arith)) w))

-- EQUAL NUMBERS ARE EQUAL BYTES

pub same_bytes : (k : ℕ) (s t : List ℕ) (i j : ℕ) → Bytes s → Bytes t → i + k ≤ length s → j + k ≤ length t → word k s i ≡ word k t j → take k (drop i s) ≡ take k (drop j t)
same_bytes k s t i j b d f g e = sym (big_endian_word k s i b f) ∙ ap (big_endian k) e ∙ big_endian_word k t j d g

pub bytes_drop : (d : ℕ) (s : List ℕ) → Bytes s → Bytes (drop d s)
bytes_drop d s b = record { byte = λ i. rw get_or-drop (b.byte (d + i)) }

-- the first of some bytes
pub bytes_take : (n : ℕ) (s : List ℕ) → Bytes s → Bytes (take n s)
bytes_take n s b = record { byte = λ i. elim (dec_lt i n) [ yes l ↦ rw (get_or-take n s i 0 l) (b.byte i) | no g ↦ past i (omega arith) ] }
  where
    past : (i : ℕ) → n ≤ i → get_or (take n s) i 0 < 256
    past i g = rw (get_or-eq_default (take n s) 0 {n = i} (omega (arith, length-take n s))) (omega arith)

-- lists of n numbers of k bytes that agree in each number are equal
pub same_words : (k n : ℕ) (s t : List ℕ) → Bytes s → Bytes t → length s ≡ n * k → length t ≡ n * k → ((q : ℕ) → q < n → word k s (q * k) ≡ word k t (q * k)) → s ≡ t
same_words k zero s t b d f g h = empty s (f ∙ omega arith) ∙ sym (empty t (g ∙ omega arith))
  where
    empty : (l : List ℕ) → length l ≡ 0 → l ≡ []
    empty [] e = refl
    empty (a ∷ l) e = absurd (omega arith)
same_words k (suc n) s t b d f g h =
    let f' : length s ≡ n * k + k = f ∙ suc-mul n k in
    let g' : length t ≡ n * k + k = g ∙ suc-mul n k in
    let z : 0 * k ≡ 0 = omega arith in
    let first : take k s ≡ take k t = same_bytes k s t 0 0 b d (omega arith) (omega arith) (rw z at (h 0 (omega arith))) in
    let later : drop k s ≡ drop k t = same_words k n (drop k s) (drop k t) (bytes_drop k s b) (bytes_drop k t d) (length-drop k s ∙ omega arith) (length-drop k t ∙ omega arith)
    (λ q l. word_drop k s k (q * k) ∙ further q s t (h (suc q) (omega arith)) ∙ sym (word_drop k t k (q * k))) in
    sym (take-append-drop k s) ∙ ap (λ (l : List ℕ). l ++ drop k s) first ∙ ap (λ (l : List ℕ). take k t ++ l) later ∙ take-append-drop k t
  where
    further : (q : ℕ) (s t : List ℕ) → word k s (suc q * k) ≡ word k t (suc q * k) → word k s (k + q * k) ≡ word k t (k + q * k)
    further q s t e = let m : suc q * k ≡ k + q * k = suc-mul q k ∙ omega arith in rw m at e

-- BYTES STAY BYTES

bytes_set : (s : List ℕ) (i a : ℕ) → a < 256 → Bytes s → Bytes (set s i a)
bytes_set s i a h b = record { byte = below s i b.byte }
  where
    below : (s : List ℕ) (i : ℕ) → ((n : ℕ) → get_or s n 0 < 256) → (j : ℕ) → get_or (set s i a) j 0 < 256
    below [] i f j = f j
    below (x ∷ s) zero f zero = h
    below (x ∷ s) zero f (suc j) = f (suc j)
    below (x ∷ s) (suc i) f zero = f zero
    below (x ∷ s) (suc i) f (suc j) = below s i (λ n. f (suc n)) j

pub bytes_tail : {a : ℕ} {s : List ℕ} → Bytes (a ∷ s) → Bytes s
bytes_tail b = record { byte = λ i. b.byte (suc i) }

pub bytes_sets : (vs s : List ℕ) (at : ℕ) → Bytes vs → Bytes s → Bytes (sets s at vs)
bytes_sets [] s at v b = b
bytes_sets (a ∷ vs) s at v b = bytes_sets vs (set s at a) (suc at) (bytes_tail v) (bytes_set s at a (v.byte 0) b)

pub bytes_append : (s t : List ℕ) → Bytes s → Bytes t → Bytes (s ++ t)
bytes_append [] t b d = d
bytes_append (a ∷ s) t b d = record { byte = below (bytes_append s t (bytes_tail b) d) }
  where
    below : Bytes (s ++ t) → (i : ℕ) → get_or (a ∷ (s ++ t)) i 0 < 256
    below r zero = b.byte 0
    below r (suc i) = r.byte i

pub bytes_big_endian : (k x : ℕ) → Bytes (big_endian k x)
unfolding big_endian
bytes_big_endian zero x = record { byte = λ i. omega arith }
bytes_big_endian (suc k) x = bytes_append (big_endian k (x / 256)) (x % 256 ∷ []) (bytes_big_endian k (x / 256)) (record { byte = one })
  where
    one : (i : ℕ) → get_or (x % 256 ∷ []) i 0 < 256
    one zero = omega arith
    one (suc i) = omega arith

pub bytes_put : (k : ℕ) (s : List ℕ) (at x : ℕ) → Bytes s → Bytes (put_word k s at x)
unfolding put_word
bytes_put k s at x b = bytes_sets (big_endian k x) s at (bytes_big_endian k x) b
