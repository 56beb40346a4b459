-- Finding the entry of a key, among entries that rise and once others are stored; and the last write of a key in a list of writes.
-- Assumes nothing.
use Prim.Native.Nat.{ℕ, ◌<◌}
use native.Mathlib.Omega.{arith}
use mathlib.Core.Path.{◌≡◌, refl, sym, ap, ◌∙◌}
use mathlib.Core.Logic.{◌⊎◌, inl, inr, ⊎_elim}
use mathlib.Core.List.Memᴰ.{head as here}
use mathlib.Core.List.Memᴰ.{tail as there}
use mathlib.Core.List.{List, [], ◌∷◌, ◌++◌, Memᴰ as Mem}
use mathlib.Core.Option.{Option, none, some}
use lib.Dec.{ltb, eqb, eqb→eq, ltb→lt, nltb→le, T_not}
use Rattle.std.specs.Prelude.{if◌then◌else◌}
use Rattle.rules.specs.State.{Entry, Rising, end, link}
use Rattle.rules.specs.Verdict.{store, store_all}
use Rattle.rules.specs.Lookup.{find}
use Rattle.rules.specs.Demands.{last_write}
use Rattle.rules.proofs.Tests.{if_ind, is_true, is_false, test, yes_eq, no_eq}
use Rattle.rules.proofs.Sorted.{rising_mem}

-- FINDING

-- below the first key there is none
pub find_none : (k : ℕ) {hi lo : ℕ} {es : List Entry} → k < lo → Rising hi lo es → find k es ≡ none
find_none k l (end h) = refl
find_none k l (link {e = e} h r) = rw (no_eq {a = e.key} {b = k} (λ q. omega arith)) (find_none k (omega arith) r)

-- what is there is found
pub find_mem : {hi lo : ℕ} {es : List Entry} {e : Entry} → Rising hi lo es → Mem e es → find e.key es ≡ some e
find_mem {hi = hi} {e = e} (end {low = low} _) x5 = elim x5 [ ]
find_mem {e = e} (link {e = x} h r) (here p) = rw (is_true (eqb x.key e.key) (yes_eq (ap (λ (y : Entry). y.key) (sym p)))) (ap some (sym p))
find_mem {e = e} (link {e = x} h r) (there m) = let k = rising_mem r m in rw (no_eq {a = x.key} {b = e.key} (λ q. omega arith)) (find_mem r m)

-- what is found is there
pub find_of : (k : ℕ) (es : List Entry) {e : Entry} → find k es ≡ some e → Mem e es
find_of k [] {e} = λ q. let z : ◌≡◌ {A = ℕ} 0 1 = cc in absurd (omega arith)
find_of k (x ∷ xs) {e} = if_ind (λ (o : Option Entry). o ≡ some e → Mem e (x ∷ xs)) (eqb x.key k) (λ _ q. here (cc)) (λ _ q. there (find_of k xs q))

-- a store decides its own key, and no other
pub find_store : (k : ℕ) (e : Entry) (es : List Entry) → find k (store e es) ≡ (if eqb e.key k then some e else find k es)
unfolding store
find_store k e [] = refl
find_store k e (x ∷ xs) =
    if_ind G (ltb e.key x.key) (λ _. refl)
    (λ a. if_ind G (ltb x.key e.key)
    (λ b. ⊎_elim
    (λ t. let q = eqb→eq e.key k t in
    rw (no_eq {a = x.key} {b = k} (λ i. omega (arith, ltb→lt x.key e.key b)), find_store k e xs, is_true (eqb e.key k) t))
    (λ t. rw (find_store k e xs, is_false (eqb e.key k) t)) (test (eqb e.key k)))
    (λ b. ⊎_elim (λ t. rw (is_true (eqb e.key k) t))
    (λ t. rw (
      is_false (eqb e.key k) t,
      no_eq {a = x.key} {b = k} (λ i. T_not (eqb e.key k) t (yes_eq {a = e.key} {b = k} (omega (arith, nltb→le e.key x.key a, nltb→le x.key e.key b)))),
    ))
    (test (eqb e.key k))))
  where
    G : List Entry → Type 0
    G l = find k l ≡ (if eqb e.key k then some e else find k (x ∷ xs))

-- a key is found as the last of the writes of it left it
pub find_store_all : (k : ℕ) (ws es : List Entry) → find k (store_all ws es) ≡ last_write k (find k es) ws
unfolding store_all
find_store_all k [] es = refl
find_store_all k (w ∷ ws) es = find_store_all k ws (store w es) ∙ ap (λ (o : Option Entry). last_write k o ws) (find_store k w es)

-- LAST WRITES

-- more writes go on from what the first left
pub last_write_append : (k : ℕ) (o : Option Entry) (a b : List Entry) → last_write k o (a ++ b) ≡ last_write k (last_write k o a) b
last_write_append k o [] b = refl
last_write_append k o (w ∷ a) b = last_write_append k (if eqb w.key k then some w else o) a b

-- a list of writes leaves a key as it was, or decides it
pub last_write_cases : (k : ℕ) (ws : List Entry) → ((o : Option Entry) → last_write k o ws ≡ o) ⊎ ((o o' : Option Entry) → last_write k o ws ≡ last_write k o' ws)
last_write_cases k [] = inl (λ o. refl)
last_write_cases k (w ∷ ws) = ⊎_elim
    (λ t. inr (λ o o'. rw (is_true (eqb w.key k) t)))
    (λ t. ⊎_elim
    (λ (f : (o : Option Entry) → last_write k o ws ≡ o). inl (λ o. rw (is_false (eqb w.key k) t) (f o)))
    (λ (g : (o o' : Option Entry) → last_write k o ws ≡ last_write k o' ws). inr (λ o o'. rw (is_false (eqb w.key k) t) (g o o')))
    (last_write_cases k ws))
    (test (eqb w.key k))
