-- Tests and membership: laws with no word of a record or a state.
-- Assumes nothing.
use Prim.Native.Nat.{ℕ, ◌≤◌, ◌<◌}
use native.Mathlib.Omega.{arith}
use mathlib.Core.Path.{◌≡◌, refl, ap, subst}
use mathlib.Core.Logic.{◌⊎◌, inl, inr, ⊎_elim}
use mathlib.Core.Bool.{Bool, true, false, not, ◌&&◌, ◌||◌}
use mathlib.Core.List.Memᴰ.{head as here}
use mathlib.Core.List.Memᴰ.{tail as there}
use mathlib.Core.List.{List, [], ◌∷◌, ◌++◌, map, Memᴰ as Mem}
use lib.Dec.{T, ltb, leb, eqb, eqb→eq, eqb_refl, ltb→lt, lt→ltb, leb→le, nleb→lt, not_T}
use Rattle.std.specs.Prelude.{if◌then◌else◌}
use Rattle.rules.specs.Lists.{any, keep}

-- TESTS

-- what holds in both arms holds of the choice; each arm has its test
pub if_ind {ℓ} : {A : Type 0} (P : A → Type ℓ) (b : Bool) {x y : A} → (T b → P x) → (T (not b) → P y) → P (if b then x else y)
if_ind P true f g = f tt
if_ind P false f g = g tt

-- a test that passes is true
pub is_true : (b : Bool) → T b → b ≡ true
is_true true t = refl
is_true false t = absurd t

-- a test that fails is false
pub is_false : (b : Bool) → T (not b) → b ≡ false
is_false true t = absurd t
is_false false t = refl

-- a test passes or fails
pub test : (b : Bool) → T b ⊎ T (not b)
test true = inl tt
test false = inr tt

-- two numbers compare
pub le_or_lt : (a b : ℕ) → (a ≤ b) ⊎ (b < a)
le_or_lt a b = ⊎_elim (λ t. inl (leb→le a b t)) (λ t. inr (nleb→lt a b t)) (test (leb a b))

-- both tests pass
pub and_of : (a b : Bool) → T a → T b → T (a && b)
and_of true b s t = t
and_of false b s t = s

-- the first of two passes
pub left_of_lem : (a b : Bool) → T (a && b) → T a
left_of_lem true b t = tt
left_of_lem false b t = t

-- the second of two passes
pub right_of_lem : (a b : Bool) → T (a && b) → T b
right_of_lem true b t = t
right_of_lem false b t = absurd t

-- one of two passes, the first
pub or_left : (a b : Bool) → T a → T (a || b)
or_left true b t = tt
or_left false b t = absurd t

-- one of two passes, the second
pub or_right : (a b : Bool) → T b → T (a || b)
or_right true b t = tt
or_right false b t = t

-- which of two passes
pub or_cases : (a b : Bool) → T (a || b) → T a ⊎ T b
or_cases true b t = inl tt
or_cases false b t = inr t

-- neither passes, so not the first
pub nor_left : (a b : Bool) → T (not (a || b)) → T (not a)
nor_left true b t = t
nor_left false b t = tt

-- neither passes, so not the second
pub nor_right : (a b : Bool) → T (not (a || b)) → T (not b)
nor_right true b t = absurd t
nor_right false b t = t

-- two tests that pass together are one
pub same : (a b : Bool) → (T a → T b) → (T b → T a) → a ≡ b
same true true f g = refl
same true false f g = absurd (f tt)
same false true f g = absurd (g tt)
same false false f g = refl

-- tests of numbers, decided
pub yes_lt : {a b : ℕ} → a < b → ltb a b ≡ true
yes_lt {a} {b} h = is_true (ltb a b) (lt→ltb a b h)

-- not below
pub no_lt : {a b : ℕ} → b ≤ a → ltb a b ≡ false
no_lt {a} {b} h = is_false (ltb a b) (not_T (ltb a b) (λ t. omega (arith, ltb→lt a b t)))

-- not at most
pub no_le : {a b : ℕ} → b < a → leb a b ≡ false
no_le {a} {b} h = is_false (leb a b) (not_T (leb a b) (λ t. omega (arith, leb→le a b t)))

-- equal
pub yes_eq : {a b : ℕ} → a ≡ b → T (eqb a b)
yes_eq {a} {b} q = subst (λ (j : ℕ). T (eqb a j)) q (eqb_refl a)

-- not equal
pub no_eq : {a b : ℕ} → (a ≡ b → ⊥) → eqb a b ≡ false
no_eq {a} {b} n = is_false (eqb a b) (not_T (eqb a b) (λ t. n (eqb→eq a b t)))

-- MEMBERSHIP

-- one that passes
pub any_of : {A : Type 0} (f : A → Bool) {x : A} {xs : List A} → Mem x xs → T (f x) → T (any f xs)
any_of {A = A} f {x = x} {xs = []} x6 t = elim x6 [ ]
any_of f {x} {xs = y ∷ ys} (here e) t = or_left (f y) (any f ys) (subst (λ z. T (f z)) e t)
any_of f {x} {xs = y ∷ ys} (there m) t = or_right (f y) (any f ys) (any_of f m t)

-- and the reverse
pub of_any : {A : Type 0} (f : A → Bool) (xs : List A) → T (any f xs) → (x : A) × Mem x xs × T (f x)
of_any f [] t = absurd t
of_any {A} f (y ∷ ys) t = go (λ h. of_any f ys h) (or_cases (f y) (any f ys) t)
  where
    go : (T (any f ys) → (x : A) × Mem x ys × T (f x)) → T (f y) ⊎ T (any f ys) → (x : A) × Mem x (y ∷ ys) × T (f x)
    go below (inl h) = (y, here refl, h)
    go below (inr h) = let b = below h in (b.0, there b.1, b.2)

-- what is kept was there
pub keep_mem : {A : Type 0} (f : A → Bool) (xs : List A) {x : A} → Mem x (keep f xs) → Mem x xs
keep_mem f [] {x} = λ m. m
keep_mem f (y ∷ ys) {x} = if_ind (λ l. Mem x l → Mem x (y ∷ ys)) (f y)
    (λ _. elim [ here e ↦ here e | there m ↦ there (keep_mem f ys m) ]) (λ _ m. there (keep_mem f ys m))

-- what passes is kept
pub mem_keep : {A : Type 0} (f : A → Bool) (xs : List A) {x : A} → Mem x xs → T (f x) → Mem x (keep f xs)
mem_keep {A = A} f [] {x = x} x4 t = elim x4 [ ]
mem_keep f (y ∷ ys) {x} (here e) t = rw (is_true (f y) (subst (λ z. T (f z)) e t)) (here e)
mem_keep f (y ∷ ys) {x} (there m) t = if_ind (λ l. Mem x l) (f y) (λ _. there (mem_keep f ys m t)) (λ _. mem_keep f ys m t)

-- one list after the other
pub keep_append : {A : Type 0} (f : A → Bool) (xs ys : List A) → keep f (xs ++ ys) ≡ keep f xs ++ keep f ys
keep_append f [] ys = refl
keep_append f (x ∷ xs) ys = ⊎_elim (λ t. rw (is_true (f x) t) (ap (x ∷◌) (keep_append f xs ys))) (λ t. rw (is_false (f x) t) (keep_append f xs ys)) (test (f x))

-- what is there, mapped
pub mem_map : {A B : Type 0} (h : A → B) {x : A} {xs : List A} → Mem x xs → Mem (h x) (map h xs)
mem_map h (here p) = here (ap h p)
mem_map h (there m) = there (mem_map h m)

-- and the reverse
pub of_map : {A B : Type 0} (h : A → B) (xs : List A) {y : B} → Mem y (map h xs) → (x : A) × Mem x xs × (y ≡ h x)
of_map {A = A} {B = B} h [] {y = y} x' = elim x' [ ]
of_map h (x ∷ xs) (here p) = (x, here refl, p)
of_map h (x ∷ xs) (there m) = let b = of_map h xs m in (b.0, there b.1, b.2)
