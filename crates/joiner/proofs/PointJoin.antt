-- Which of the joined points comes first, and what is left then: a's first point if it lies below b's, b's if it lies below a's, else one for both.
-- The idea: putting a point below all of b's in front of a's points puts it in front of the joined ones.
-- Assumes nothing.
use Prim.Native.Nat.{ℕ, ◌+◌, ◌≤◌, ◌<◌}
use mathlib.Core.Bool.{Bool, true, false, ◌&&◌}
use mathlib.Core.Path.{◌≡◌, refl, sym, ap, ◌∙◌}
use mathlib.Core.List.{List, [], ◌∷◌}
use native.Mathlib.Omega.{arith}
use borrow.Author.Tests.{lt-ltb, le-ltb, eq-eqb, ne_eqb}
use lib.Dec.{eqb}
use Rattle.record.specs.declared.point.Point.{Point}
use Rattle.record.specs.Record.{key_of}
use Rattle.record.proofs.Cases.{by_case}
use Rattle.writer.proofs.NamedLaws.{PointsInOrder}
use Rattle.joiner.specs.Joined.{puts_or_deletes, entry_of, with_point, joined_points, names_key}
use Rattle.joiner.specs.PointSteps.{clashes_named}

-- points in order from one low are so from a lower one
pub in_order_lower : (low low' : ℕ) (ps : List Point) → low' ≤ low → PointsInOrder low ps → PointsInOrder low' ps
in_order_lower low low' [] h o = tt
in_order_lower low low' (p ∷ ps) h o = (omega (arith, o.0), o.1)

-- a point below all others comes first
with_first : (q : Point) (ps : List Point) → PointsInOrder (key_of q + 1) ps → with_point q ps ≡ q ∷ ps
unfolding with_point
with_first q [] o = refl
with_first q (p ∷ ps) o = simp (lt-ltb (key_of q) (key_of p) (omega (arith, o.0)))

-- one above the first comes behind it
with_behind : (q p : Point) (ps : List Point) → key_of p < key_of q → with_point q (p ∷ ps) ≡ p ∷ with_point q ps
unfolding with_point
with_behind q p ps h = simp (le-ltb (key_of q) (key_of p) (omega arith), lt-ltb (key_of p) (key_of q) h)

-- one of the same key makes one with it
with_same : (q p : Point) (ps : List Point) → key_of p ≡ key_of q → with_point q (p ∷ ps) ≡ entry_of p q ∷ ps
unfolding with_point
with_same q p ps h = simp (le-ltb (key_of q) (key_of p) (omega arith), le-ltb (key_of p) (key_of q) (omega arith))

-- a's first point, below all of b's
pub joined_first : (p : Point) (ps qs : List Point) → PointsInOrder (key_of p + 1) qs → joined_points (p ∷ ps) qs ≡ p ∷ joined_points ps qs
unfolding joined_points
joined_first p ps [] o = refl
joined_first p ps (q ∷ qs) o =
    ap (λ (l : List Point). joined_points l qs) (with_behind q p ps (omega (arith, o.0)))
    ∙ joined_first p (with_point q ps) qs (in_order_lower (key_of q + 1) (key_of p + 1) qs (omega (arith, o.0)) o.1)

-- b's first point, below all of a's
pub joined_second : (q : Point) (ps qs : List Point) → PointsInOrder (key_of q + 1) ps → PointsInOrder (key_of q + 1) qs
    → joined_points ps (q ∷ qs) ≡ q ∷ joined_points ps qs
unfolding joined_points
joined_second q ps qs o r = ap (λ (l : List Point). joined_points l qs) (with_first q ps o) ∙ joined_first q ps qs r

-- the entry chosen has the key
pub key_entry : (p q : Point) → key_of p ≡ key_of q → key_of (entry_of p q) ≡ key_of q
key_entry p q e = by_case (puts_or_deletes q) (λ b. simp b) (λ b. simp (b, e))

-- both first points, of one key
pub joined_both : (p q : Point) (ps qs : List Point) → key_of p ≡ key_of q → PointsInOrder (key_of q + 1) qs
    → joined_points (p ∷ ps) (q ∷ qs) ≡ entry_of p q ∷ joined_points ps qs
unfolding joined_points
joined_both p q ps qs e r =
    ap (λ (l : List Point). joined_points l qs) (with_same q p ps e)
    ∙ joined_first (entry_of p q) ps qs (in_order_lower (key_of q + 1) (key_of (entry_of p q) + 1) qs (omega (arith, key_entry p q e)) r)

-- points above a key do not name it
pub names_above : (k low : ℕ) (qs : List Point) → k < low → PointsInOrder low qs → names_key k qs ≡ false
names_above k low [] h o = refl
names_above k low (q ∷ qs) h o =
    let n : eqb (key_of q) k ≡ false = ne_eqb (key_of q) k (λ e. omega (arith, o.0)) in
    rw (n, names_above k (key_of q + 1) qs (omega (arith, o.0)) o.1)

-- nothing and a test
pub and_false : (b : Bool) → (b && false) ≡ false
and_false true = refl
and_false false = refl

-- a's first point, which b does not name, is no clash
pub clash_first : (p : Point) (ps qs : List Point) → PointsInOrder (key_of p + 1) qs → clashes_named (p ∷ ps) qs ≡ clashes_named ps qs
clash_first p ps qs o = rw (names_above (key_of p) (key_of p + 1) qs (omega arith) o, and_false (puts_or_deletes p))

-- b's first point, which a does not name, is none
pub clash_second : (low : ℕ) (q : Point) (ps qs : List Point) → key_of q < low → PointsInOrder low ps → clashes_named ps (q ∷ qs) ≡ clashes_named ps qs
clash_second low q [] qs h o = refl
clash_second low q (p ∷ ps) qs h o =
    let n : eqb (key_of q) (key_of p) ≡ false = ne_eqb (key_of q) (key_of p) (λ e. omega (arith, o.0)) in
    rw (n, clash_second (key_of p + 1) q ps qs (omega (arith, o.0)) o.1)

-- both first points, where a's is a read
pub clash_both : (p q : Point) (ps qs : List Point) → key_of p ≡ key_of q → puts_or_deletes p ≡ false → PointsInOrder (key_of p + 1) ps
    → clashes_named (p ∷ ps) (q ∷ qs) ≡ clashes_named ps qs
clash_both p q ps qs e w o = rw w (clash_second (key_of p + 1) q ps qs (omega arith) o)

-- and where it is not
pub clash_here : (p q : Point) (ps qs : List Point) → key_of p ≡ key_of q → puts_or_deletes p ≡ true → clashes_named (p ∷ ps) (q ∷ qs) ≡ true
clash_here p q ps qs e w = simp (w, eq-eqb (key_of q) (key_of p) (sym e))
