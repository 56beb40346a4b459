-- What the joined points are (R57): they name exactly the keys that either names, the entry of a key is the one that the rule chooses, and they rise.
-- Each law is one of a single point put in its place, and then one of all of b's points, by recursion over them.
-- Assumes nothing.
use Prim.Native.Nat.{ℕ, ◌+◌, ◌^◌, ◌≤◌, ◌<◌}
use mathlib.Core.Path.{◌≡◌, refl, sym, ap, subst, ◌∙◌}
use mathlib.Core.Bool.{Bool, true, false, ◌||◌, or-false, or_assoc}
use mathlib.Core.Option.{Option, none, some}
use mathlib.Core.List.{List, [], ◌∷◌}
use native.Mathlib.Omega.{arith}
use lib.Dec.{ltb, eqb}
use borrow.Author.Tests.{ltb-true, ltb-false, eqb-true, ne_eqb}
use Rattle.record.specs.declared.point.Point.{Point}
use Rattle.record.specs.Record.{key_of, payload_of, PointsRise}
use Rattle.record.proofs.Cases.{by_case}
use Rattle.joiner.specs.Joined.{puts_or_deletes, entry_of, with_point, joined_points, names_key}
use Rattle.joiner.specs.ByKey.{entry_at, both_entries}
use Rattle.joiner.proofs.PointJoin.{key_entry}

-- THE KEYS

-- keys of which neither is below the other are one
same_key : (p q : Point) → ltb (key_of q) (key_of p) ≡ false → ltb (key_of p) (key_of q) ≡ false → key_of p ≡ key_of q
same_key p q a b = omega (arith, ltb-false (key_of q) (key_of p) a, ltb-false (key_of p) (key_of q) b)

-- a test said twice
or_again : (b c : Bool) → (b || (b || c)) ≡ (b || c)
or_again true c = refl
or_again false c = refl

-- two tests in the other order
pub or_swap : (a b c : Bool) → (a || (b || c)) ≡ (b || (a || c))
or_swap true true c = refl
or_swap true false c = refl
or_swap false true c = refl
or_swap false false c = refl

-- a point in its place adds its key and no other
pub names_with : (k : ℕ) (q : Point) (ps : List Point) → names_key k (with_point q ps) ≡ (eqb (key_of q) k || names_key k ps)
unfolding with_point
names_with k q [] = refl
names_with k q (p ∷ ps) =
    by_case (ltb (key_of q) (key_of p)) (λ a. simp a) λ a.
    by_case (ltb (key_of p) (key_of q))
    (λ b. simp (a, b, names_with k q ps) (or_swap (eqb (key_of p) k) (eqb (key_of q) k) (names_key k ps))) λ b.
    let e : key_of p ≡ key_of q = same_key p q a b in
    simp (a, b) (simp (key_entry p q e, e) (sym (or_again (eqb (key_of q) k) (names_key k ps))))

-- R57: the joined points name exactly the keys that either names
pub names_joined : (k : ℕ) (ps qs : List Point) → names_key k (joined_points ps qs) ≡ (names_key k ps || names_key k qs)
unfolding joined_points
names_joined k ps [] = sym (or-false (names_key k ps))
names_joined k ps (q ∷ qs) =
    names_joined k (with_point q ps) qs ∙ ap (λ (b : Bool). b || names_key k qs) (names_with k q ps)
    ∙ or_assoc (eqb (key_of q) k) (names_key k ps) (names_key k qs) ∙ or_swap (eqb (key_of q) k) (names_key k ps) (names_key k qs)

-- THE ORDER

-- points that rise from a key on rise from a lower one on
pub rise_lower : (low f : ℕ) (ps : List Point) → low ≤ f → PointsRise f ps → PointsRise low ps
rise_lower low f [] l r = tt
rise_lower low f (p ∷ ps) l r = (omega (arith, r.0), r.1, r.2, r.3)

-- what is known of a point of points that rise
pub record Placed (low : ℕ) (p : Point) : Type 0 where
  pub from : low ≤ key_of p
  pub key_fits : key_of p < 2 ^ 32
  pub payload_fits : payload_of p < 2 ^ 64

-- the entry of a key that both name fits as they do
entry_placed : (low : ℕ) (p q : Point) → Placed low p → Placed low q → Placed low (entry_of p q)
entry_placed low p q a b =
    by_case (puts_or_deletes q) (λ e. simp e b) (λ e. simp e a)

-- a point put in its place leaves points that rise
pub rise_with : (low : ℕ) (q : Point) (ps : List Point) → Placed low q → PointsRise low ps → PointsRise low (with_point q ps)
unfolding with_point
rise_with low q [] h r = (h.from, h.key_fits, h.payload_fits, tt)
rise_with low q (p ∷ ps) h r =
    by_case (ltb (key_of q) (key_of p))
    (λ a.
    let l = ltb-true (key_of q) (key_of p) a in
    simp a (h.from, h.key_fits, h.payload_fits, (omega (arith, l), r.1, r.2, r.3))) λ a.
    by_case (ltb (key_of p) (key_of q))
    (λ b.
    let l = ltb-true (key_of p) (key_of q) b in
    simp (a, b)
    (r.0, r.1, r.2, rise_with (key_of p + 1) q ps (record { from = omega (arith, l); key_fits = h.key_fits; payload_fits = h.payload_fits }) r.3)) λ b.
    let e : key_of p ≡ key_of q = same_key p q a b in
    let n : Placed low (entry_of p q) = entry_placed low p q (record { from = r.0; key_fits = r.1; payload_fits = r.2 }) h in
    let k : key_of (entry_of p q) ≡ key_of p = key_entry p q e ∙ sym e in
    simp (a, b) (n.from, n.key_fits, n.payload_fits, subst (λ (m : ℕ). PointsRise (m + 1) ps) (sym k) r.3)

-- so do all of b's points
pub rise_joined : (low f : ℕ) (ps qs : List Point) → low ≤ f → PointsRise low ps → PointsRise f qs → PointsRise low (joined_points ps qs)
unfolding joined_points
rise_joined low f ps [] l r t = r
rise_joined low f ps (q ∷ qs) l r t =
    rise_joined low (key_of q + 1) (with_point q ps) qs (omega (arith, t.0))
    (rise_with low q ps (record { from = omega (arith, t.0); key_fits = t.1; payload_fits = t.2 }) r) t.3

-- R57: the joined points rise, so no two share a key
pub points_rise_joined : (ps qs : List Point) → PointsRise 0 ps → PointsRise 0 qs → PointsRise 0 (joined_points ps qs)
points_rise_joined ps qs r t = rise_joined 0 0 ps qs (omega arith) r t

-- THE ENTRY OF A KEY

-- nothing beside an entry leaves it
both_none : (x : Option Point) → both_entries x none ≡ x
both_none none = refl
both_none (some p) = refl

-- a key below all of them has no entry
pub no_entry : (k low : ℕ) (ps : List Point) → k < low → PointsRise low ps → entry_at k ps ≡ none
no_entry k low [] l r = refl
no_entry k low (p ∷ ps) l r =
    simp (ne_eqb (key_of p) k (λ e. omega (arith, r.0)), no_entry k (key_of p + 1) ps (omega (arith, r.0)) r.3)

-- a point put in its place leaves the entry of every other key, and its own is chosen by the rule
pub entry_with : (k low : ℕ) (q : Point) (ps : List Point) → PointsRise low ps
    → entry_at k (with_point q ps) ≡ both_entries (entry_at k ps) (entry_at k (q ∷ []))
unfolding with_point
entry_with k low q [] r = refl
entry_with k low q (p ∷ ps) r =
    by_case (ltb (key_of q) (key_of p))
    (λ a. by_case (eqb (key_of q) k)
    (λ e.
    let n : entry_at k (p ∷ ps) ≡ none =
    no_entry k (key_of p) (p ∷ ps) (omega (arith, ltb-true (key_of q) (key_of p) a, eqb-true (key_of q) k e)) (omega arith, r.1, r.2, r.3) in
    simp (a, e, n))
    (λ e. simp (a, e, both_none))) λ a.
    by_case (ltb (key_of p) (key_of q))
    (λ b. by_case (eqb (key_of p) k)
    (λ e.
    let n : eqb (key_of q) k ≡ false = ne_eqb (key_of q) k (λ z. omega (arith, ltb-true (key_of p) (key_of q) b, eqb-true (key_of p) k e)) in
    simp (a, b, e, n))
    (λ e. simp (a, b, e) (entry_with k (key_of p + 1) q ps r.3))) λ b.
    let s : key_of p ≡ key_of q = same_key p q a b in
    by_case (eqb (key_of q) k)
    (λ e. simp (a, b) (simp (key_entry p q s, s, e)))
    (λ e. simp (a, b) (simp (key_entry p q s, s, e, both_none)))

-- R57: the entry of a key in the joined points is chosen by the rule
pub entry_joined : (k f g : ℕ) (ps qs : List Point) → PointsRise f ps → PointsRise g qs
    → entry_at k (joined_points ps qs) ≡ both_entries (entry_at k ps) (entry_at k qs)
unfolding joined_points
entry_joined k f g ps [] r t = sym (both_none (entry_at k ps))
entry_joined k f g ps (q ∷ qs) r t =
    let w : PointsRise 0 (with_point q ps) =
    rise_with 0 q ps (record { from = omega arith; key_fits = t.1; payload_fits = t.2 }) (rise_lower 0 f ps (omega arith) r) in
    let i : entry_at k (joined_points (with_point q ps) qs) ≡ both_entries (entry_at k (with_point q ps)) (entry_at k qs) =
    entry_joined k 0 (key_of q + 1) (with_point q ps) qs w t.3 in
    let j : entry_at k (with_point q ps) ≡ both_entries (entry_at k ps) (entry_at k (q ∷ [])) = entry_with k f q ps r in
    by_case (eqb (key_of q) k)
    (λ e.
    let n : entry_at k qs ≡ none = no_entry k (key_of q + 1) qs (omega (arith, eqb-true (key_of q) k e)) t.3 in
    i ∙ simp (j, n, e, both_none))
    (λ e. i ∙ simp (j, e, both_none))
