-- The height where two keys part is the least one above which they agree; and it is told by the leading zeros of their xor.
-- Assumes nothing.
use Prim.Native.Nat.{ℕ, zero, suc, ◌+◌, ◌-◌, ◌*◌, ◌/◌, ◌%◌, ◌^◌, ◌≤◌, ◌<◌}
use mathlib.Core.Path.{◌≡◌, refl, sym, ap, ◌∙◌, subst}
use mathlib.Core.Bool.{Bool, true, false}
use mathlib.Core.Logic.{◌≢◌, inl, inr}
use native.Mathlib.Omega.{arith}
use native.Mathlib.Nat.{div-eq_of_lt, div-div-eq-div-mul, div-lt_iff_lt-mul, div-mul-le_self, mod-eq_of_lt, eq-zero-or-pos}
use lib.Bits.{bit_xor, xor_add_and, xor_lt, xor_self, xor_shr, and_le_l, and_le_r}
use lib.Count.{count_leading_zeros, leading_of_zero, leading_top}
use lib.Dec.{eqb}
use lib.Pow.{pow-add, pow_pos}
use borrow.Author.Tests.{eqb-true, eqb-false}
use Rattle.std.specs.Prelude.{if◌then◌else◌}
use Rattle.bits.specs.Bits.{part_from, part_height}

-- THE LEAST

-- the search passes f heights at most
from_most : (f h x y : ℕ) → part_from f h x y ≤ h + f
unfolding part_from
from_most zero h x y = omega arith
from_most (suc f) h x y = go (eqb (x / 2 ^ h) (y / 2 ^ h)) (from_most f (suc h) x y)
  where
    go : (b : Bool) → part_from f (suc h) x y ≤ suc h + f → (if b then h else part_from f (suc h) x y) ≤ h + suc f
    go true l = omega arith
    go false l = omega arith

-- it passes no height at which they agree
from_least : (f h k x y : ℕ) → h ≤ k → x / 2 ^ k ≡ y / 2 ^ k → part_from f h x y ≤ k
unfolding part_from
from_least zero h k x y l e = l
from_least (suc f) h k x y l e = go (eqb (x / 2 ^ h) (y / 2 ^ h)) refl (λ n. from_least f (suc h) k x y n e)
  where
    go : (b : Bool) → eqb (x / 2 ^ h) (y / 2 ^ h) ≡ b → (suc h ≤ k → part_from f (suc h) x y ≤ k) → (if b then h else part_from f (suc h) x y) ≤ k
    go true c g = l
    go false c g =
        let n : h ≢ k = λ q. eqb-false _ _ c (subst (λ (z : ℕ). x / 2 ^ z ≡ y / 2 ^ z) (sym q) e) in
        g (omega arith)

-- and stops where they agree, if they do in the end
from_agrees : (f h x y : ℕ) → x / 2 ^ (h + f) ≡ y / 2 ^ (h + f) → x / 2 ^ part_from f h x y ≡ y / 2 ^ part_from f h x y
unfolding part_from
from_agrees zero h x y e = let s : h + 0 ≡ h = omega arith in rw s at e
from_agrees (suc f) h x y e =
    let s : h + suc f ≡ suc h + f = omega arith in
    go (eqb (x / 2 ^ h) (y / 2 ^ h)) refl (from_agrees f (suc h) x y (rw s at e))
  where
    go : (b : Bool) → eqb (x / 2 ^ h) (y / 2 ^ h) ≡ b → x / 2 ^ part_from f (suc h) x y ≡ y / 2 ^ part_from f (suc h) x y
        → x / 2 ^ (if b then h else part_from f (suc h) x y) ≡ y / 2 ^ (if b then h else part_from f (suc h) x y)
    go true c g = eqb-true _ _ c
    go false c g = g

-- no height above 32
pub part_most : (x y : ℕ) → part_height x y ≤ 32
part_most x y = from_most 32 0 x y

-- keys that agree above k part at k at most
pub part_least : (x y k : ℕ) → x / 2 ^ k ≡ y / 2 ^ k → part_height x y ≤ k
part_least x y k e = from_least 32 0 k x y (omega arith) e

-- and they agree above where they part
pub part_agrees : (x y : ℕ) → x < 2 ^ 32 → y < 2 ^ 32 → x / 2 ^ part_height x y ≡ y / 2 ^ part_height x y
part_agrees x y a b = from_agrees 32 0 x y (div-eq_of_lt a ∙ sym (div-eq_of_lt b))

-- what agrees above h agrees above a greater height
pub agree_up : (h k x y : ℕ) → h ≤ k → x / 2 ^ h ≡ y / 2 ^ h → x / 2 ^ k ≡ y / 2 ^ k
agree_up h k x y l e =
    let s : h + (k - h) ≡ k = omega arith in
    let up : (z : ℕ) → z / 2 ^ k ≡ z / 2 ^ h / 2 ^ (k - h) = λ z. sym (div-div-eq-div-mul z (2 ^ h) (2 ^ (k - h)) ∙ ap (λ (t : ℕ). z / t) (sym (pow-add 2 h (k - h))) ∙ ap (λ (t : ℕ). z / 2 ^ t) s) in
    up x ∙ ap (λ (t : ℕ). t / 2 ^ (k - h)) e ∙ sym (up y)

-- so the height is the one at which keys agree that do not agree below it
pub part_is : (x y h : ℕ) → x < 2 ^ 32 → y < 2 ^ 32 → x / 2 ^ suc h ≡ y / 2 ^ suc h → x / 2 ^ h ≢ y / 2 ^ h → part_height x y ≡ suc h
part_is x y h a b e n =
    let most = part_least x y (suc h) e in
    let more : (p : ℕ) → part_height x y ≡ p → h < p = λ p q. elim (native.Mathlib.Decide.dec_lt h p) [
      | yes l ↦ l
      | no g ↦ absurd (n (agree_up p h x y (omega arith) (rw q at (part_agrees x y a b))))
    ] in
    let least = more (part_height x y) refl in
    omega arith

-- BY THE LEADING ZEROS

-- numbers whose xor is 0 are equal
xor_zero : (x y : ℕ) → bit_xor x y ≡ 0 → x ≡ y
xor_zero x y e = omega (arith, e, xor_add_and x y, and_le_l x y, and_le_r x y)

-- dividing both keys divides their xor, so keys whose xor is below 2 ^ h agree above h
xor_below : (x y h : ℕ) → bit_xor x y < 2 ^ h → x / 2 ^ h ≡ y / 2 ^ h
xor_below x y h l = xor_zero (x / 2 ^ h) (y / 2 ^ h) (sym (xor_shr x y h) ∙ div-eq_of_lt l)

-- and no other keys do
below_xor : (x y h : ℕ) → x / 2 ^ h ≡ y / 2 ^ h → bit_xor x y < 2 ^ h
below_xor x y h e =
    let none : bit_xor x y / 2 ^ h ≡ 0 = xor_shr x y h ∙ ap (λ (t : ℕ). bit_xor t (y / 2 ^ h)) e ∙ xor_self (y / 2 ^ h) in
    let one : bit_xor x y / 2 ^ h < 1 = omega (arith, none) in
    omega (arith, (div-lt_iff_lt-mul (pow_pos h)).0 one)

-- 32 less the leading zeros of x xor y is the height where x and y part: the one just above the highest bit in which they differ
pub part_leading : (x y : ℕ) → x < 2 ^ 32 → y < 2 ^ 32 → 32 - count_leading_zeros 32 (bit_xor x y) ≡ part_height x y
part_leading x y a b = elim (eq-zero-or-pos (bit_xor x y)) [
  | inl e ↦
      let none = part_least x y 0 (xor_below x y 0 (omega (arith, e))) in
      let all : count_leading_zeros 32 (bit_xor x y) ≡ 32 = ap (count_leading_zeros 32) e ∙ leading_of_zero 32 in
      omega (arith, none, all)
  | inr p ↦
      let top = leading_top 32 (bit_xor x y) p (xor_lt 32 x y a b) in
      let agree = xor_below x y (suc top.0) top.3 in
      let is = part_is x y top.0 a b agree (λ e. omega (arith, top.2, below_xor x y top.0 e)) in
      omega (arith, is, top.1)
]

-- CUT KEYS

-- a cut key fits as the key did
pub cut_fits : (x h : ℕ) → x < 4294967296 → x / 2 ^ h * 2 ^ h % 2 ^ 64 ≡ x / 2 ^ h * 2 ^ h
cut_fits x h b = mod-eq_of_lt (omega (arith, div-mul-le_self x (2 ^ h)))
