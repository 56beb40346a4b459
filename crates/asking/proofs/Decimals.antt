-- A number read digit by digit: what the loop knows at each byte, and how it ends.
-- The idea: the bytes that are left say whether all are digits, and with the value so far what the number is; a value never shrinks.
-- Assumes nothing.
use Rattle.std.proofs.Common.{◌≡◌, ℕ, suc, ◌+◌, ◌*◌, ◌<◌, ◌≤◌, Bool, true, false, ◌&&◌, leb, List, [], ◌∷◌, length, get_or, drop, Some, None, unwrap_or, sym, refl, ap, ◌∙◌, arith, drop_of_length-le, drop-cons, le-leb}
use borrow.Author.Tests.{lt-leb}
use Rattle.std.specs.Prelude.{if◌then◌else◌}
use Rattle.rules.specs.State.{last_position}
use Rattle.asking.specs.Decimal.{digit_of, all_digits, with_digits, number_of}

-- so many digits were read, and the value is theirs
pub record Read (text : List ℕ) (value i : ℕ) : Type 0 where
  pub digits : all_digits text ≡ all_digits (drop i text)
  pub number : with_digits 0 text ≡ with_digits value (drop i text)
  pub small : value ≤ last_position

-- more digits make no number smaller
grows : (value : ℕ) (text : List ℕ) → value ≤ with_digits value text
grows value [] = omega arith
grows value (byte ∷ rest) = omega (arith, grows (value * 10 + unwrap_or (digit_of byte) 0) rest)

-- what is refused
refused : (text : List ℕ) → (all_digits text && leb (with_digits 0 text) last_position) ≡ false → None ≡ number_of text
refused [] e = refl
refused (byte ∷ rest) e = sym (ap (λ (b : Bool). if b then Some (with_digits 0 (byte ∷ rest)) else None) e)

module _ (text : List ℕ) (value i : ℕ) (r : Read text value i) (more : i < length text) where
  left : drop i text ≡ get_or text i 0 ∷ drop (suc i) text
  left = drop-cons text i 0 more

  -- with it the number is too large
  pub too_large : 4294967295 < value * 10 + unwrap_or (digit_of (get_or text i 0)) 0 → None ≡ number_of text
  too_large h =
      refused text
      (and_false (all_digits text) (leb (with_digits 0 text) last_position)
      (lt-leb (with_digits 0 text) last_position
      (omega (arith, r.number, ap (with_digits value) left, grows (value * 10 + unwrap_or (digit_of (get_or text i 0)) 0) (drop (suc i) text)))))
    where
      and_false : (a b : Bool) → b ≡ false → (a && b) ≡ false
      and_false true b e = e
      and_false false b e = refl

-- all were read
pub all_read : (text : List ℕ) (value i : ℕ) → Read text value i → length text ≤ i → (length text ≡ 0 → ⊥) → Some value ≡ number_of text
all_read [] value i r all some = absurd (some refl)
all_read (byte ∷ rest) value i r all some =
    let none : drop i (byte ∷ rest) ≡ [] = drop_of_length-le (byte ∷ rest) all in
    let d : all_digits (byte ∷ rest) ≡ true = r.digits ∙ ap all_digits none in
    let e : with_digits 0 (byte ∷ rest) ≡ value = r.number ∙ ap (with_digits value) none in
    let t : (all_digits (byte ∷ rest) && leb (with_digits 0 (byte ∷ rest)) last_position) ≡ true = simp (d, e, le-leb value last_position r.small) in
    sym (ap (λ (b : Bool). if b then Some (with_digits 0 (byte ∷ rest)) else None) t ∙ ap Some e)
