-- What is found agrees with the rules' lookup (R31), and can be looked for in one half of rising entries.
-- Assumes nothing.
use Prim.Native.Nat.{ℕ, ◌≤◌, ◌<◌}
use native.Mathlib.Omega.{arith}
use mathlib.Core.Path.{◌≡◌, refl}
use mathlib.Core.Logic.{⊎_elim}
use mathlib.Core.List.{List, [], ◌∷◌, ◌++◌}
use mathlib.Core.Option.{Option, none, some}
use lib.Dec.{eqb}
use Rattle.rules.specs.State.{Entry, State, Rising, end, link}
use Rattle.rules.specs.Lookup.{find, payload_at, seen, lookup}
use Rattle.rules.proofs.Tests.{test, is_true, is_false, no_eq}
use Rattle.rules.proofs.Sorted.{rising_range}
use Rattle.find.specs.Found.{found_at, found_of, found_in, seen_as}

-- case by case
seen_at : (w : ℕ) (o : Option ℕ) → seen_as (found_at w o) ≡ payload_at w o
seen_at w none = refl
seen_at w (some x) = refl

seen_of : (o : Option Entry) → seen_as (found_of o) ≡ seen o
seen_of none = refl
seen_of (some e) = seen_at e.position e.payload

-- R31: absent, or the payload and the position of the last write
pub found_lookup : (k : ℕ) (S : State) → seen_as (found_in k S.kept) ≡ lookup k S
unfolding found_in lookup
found_lookup k S = seen_of (find k S.kept)

-- a key below or past all entries is not there
find_below : (k : ℕ) {hi lo : ℕ} {es : List Entry} → k < lo → Rising hi lo es → find k es ≡ none
find_below k l (end h) = refl
find_below k l (link {e = e} h r) = rw (no_eq {a = e.key} {b = k} (λ q. omega arith)) (find_below k (omega arith) r)

-- a key below the second list's entries is in the first list or in none; one past the first list's is in the second or in none
find_left : (k : ℕ) (xs : List Entry) {m hi : ℕ} {ys : List Entry} → k < m → Rising hi m ys → find k (xs ++ ys) ≡ find k xs
find_left k [] l r = find_below k l r
find_left k (x ∷ xs) l r = ⊎_elim
    (λ t. rw (is_true (eqb x.key k) t)) (λ t. rw (is_false (eqb x.key k) t) (find_left k xs l r)) (test (eqb x.key k))

find_right : (k : ℕ) {m lo : ℕ} {xs : List Entry} (ys : List Entry) → m ≤ k → Rising m lo xs → find k (xs ++ ys) ≡ find k ys
find_right k ys l (end h) = refl
find_right k ys l (link {e = e} h r) =
    let x = rising_range r in
    rw (no_eq {a = e.key} {b = k} (λ q. omega arith)) (find_right k ys l r)

-- a key below the middle is looked for on the left, any other on the right
pub found_left : (k : ℕ) (xs : List Entry) {m hi : ℕ} {ys : List Entry} → k < m → Rising hi m ys → found_in k xs ≡ found_in k (xs ++ ys)
unfolding found_in
found_left k xs l r = rw (find_left k xs l r)

pub found_right : (k : ℕ) {m lo : ℕ} {xs : List Entry} (ys : List Entry) → m ≤ k → Rising m lo xs → found_in k ys ≡ found_in k (xs ++ ys)
unfolding found_in
found_right k ys l r = rw (find_right k ys l r)
