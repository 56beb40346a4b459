-- Entries that rise by key: stored, kept, and cut in two at a key.
-- Assumes nothing.
use Prim.Native.Nat.{ℕ, ◌+◌, ◌≤◌, ◌<◌}
use native.Mathlib.Omega.{arith}
use native.Mathlib.Nat.{le_trans}
use mathlib.Core.Path.{◌≡◌, refl, sym, ap, ◌∙◌}
use mathlib.Core.Logic.{⊎_elim}
use mathlib.Core.Bool.{Bool, true, false}
use mathlib.Core.List.Memᴰ.{head as here}
use mathlib.Core.List.Memᴰ.{tail as there}
use mathlib.Core.List.{List, [], ◌∷◌, ◌++◌, append-nil, Memᴰ as Mem}
use lib.Dec.{ltb, ltb→lt, nltb→le, lt→ltb, le→leb, leb→le, not_T}
use Rattle.rules.specs.Lists.{keep}
use Rattle.rules.specs.State.{Entry, Rising, end, link}
use Rattle.rules.specs.Verdict.{store, store_all}
use Rattle.rules.specs.Tree.{below, from}
use Rattle.rules.proofs.Tests.{if_ind, is_true, is_false, test, yes_lt, no_lt}

-- the range is one
pub rising_range : {hi lo : ℕ} {es : List Entry} → Rising hi lo es → lo ≤ hi
rising_range (end h) = h
rising_range (link h r) = omega (arith, rising_range r)

-- a lower start
pub rising_lower : {lo' lo hi : ℕ} {es : List Entry} → lo' ≤ lo → Rising hi lo es → Rising hi lo' es
rising_lower l (end h) = end (le_trans l h)
rising_lower l (link h r) = link (le_trans l h) r

-- a higher end
pub rising_upper : {hi hi' lo : ℕ} {es : List Entry} → hi ≤ hi' → Rising hi lo es → Rising hi' lo es
rising_upper l (end h) = end (le_trans h l)
rising_upper l (link h r) = link h (rising_upper l r)

-- one after the other
pub rising_append : {hi m lo : ℕ} {xs ys : List Entry} → Rising m lo xs → Rising hi m ys → Rising hi lo (xs ++ ys)
rising_append (end h) r' = rising_lower h r'
rising_append (link h r) r' = link h (rising_append r r')

-- each key lies in the range
pub rising_mem : {hi lo : ℕ} {es : List Entry} {x : Entry} → Rising hi lo es → Mem x es → (lo ≤ x.key) × (x.key < hi)
rising_mem {hi = hi} (end {low = low} _) x9 = elim x9 [ ]
rising_mem (link h r) (here p) = omega (arith, ap (λ (z : Entry). z.key) p, rising_range r)
rising_mem (link h r) (there m) = let k = rising_mem r m in omega arith

-- with an entry stored
pub store_rising : {hi lo : ℕ} (e : Entry) {es : List Entry} → Rising hi lo es → lo ≤ e.key → e.key < hi → Rising hi lo (store e es)
unfolding store
store_rising e (end h) a b = link a (end {low = e.key + 1} (omega arith))
store_rising {hi} {lo} e (link {e = x} {es = xs} h r) a b =
    if_ind (λ l. Rising hi lo l) (ltb e.key x.key) (λ t. link a (link (omega (arith, ltb→lt e.key x.key t)) r))
    (λ t. if_ind (λ l. Rising hi lo l) (ltb x.key e.key)
    (λ u. link h (store_rising e r (omega (arith, ltb→lt x.key e.key u)) b))
    (λ u. link a (rising_lower (omega (arith, nltb→le x.key e.key u)) r)))

-- with some left out
pub keep_rising : {hi lo : ℕ} (f : Entry → Bool) {es : List Entry} → Rising hi lo es → Rising hi lo (keep f es)
keep_rising f (end h) = end h
keep_rising {hi} {lo} f (link {e = e} h r) = if_ind (λ l. Rising hi lo l) (f e) (λ _. link h (keep_rising f r))
    (λ _. rising_lower (omega arith) (keep_rising f r))

-- with several stored
pub store_all_rising : {top : ℕ} (ws : List Entry) {es : List Entry} → ((e : Entry) → Mem e ws → e.key < top) → Rising top 0 es → Rising top 0 (store_all ws es)
unfolding store_all
store_all_rising [] h r = r
store_all_rising (w ∷ ws) h r = store_all_rising ws (λ e m. h e (there m)) (store_rising w r (omega arith) (h w (here refl)))

-- A CUT AT m

-- a key below m
pub is_below : (m : ℕ) (e : Entry) → e.key < m → below m e ≡ true
is_below m e h = is_true (below m e) (lt→ltb e.key m h)

-- a key not below m
pub not_below_lem : (m : ℕ) (e : Entry) → m ≤ e.key → below m e ≡ false
not_below_lem m e h = is_false (below m e) (not_T (below m e) (λ t. omega (arith, ltb→lt e.key m t)))

-- a key from m on
pub is_from : (m : ℕ) (e : Entry) → m ≤ e.key → from m e ≡ true
is_from m e h = is_true (from m e) (le→leb m e.key h)

-- a key below m is not from m on
pub not_from : (m : ℕ) (e : Entry) → e.key < m → from m e ≡ false
not_from m e h = is_false (from m e) (not_T (from m e) (λ t. omega (arith, leb→le m e.key t)))

-- all from m on: none below
pub none_below : (m : ℕ) {hi lo : ℕ} {es : List Entry} → m ≤ lo → Rising hi lo es → keep (below m) es ≡ []
none_below m l (end h) = refl
none_below m l (link {e = e} h r) = rw (not_below_lem m e (le_trans l h)) (none_below m (omega arith) r)

-- all from m on
pub all_from : (m : ℕ) {hi lo : ℕ} {es : List Entry} → m ≤ lo → Rising hi lo es → keep (from m) es ≡ es
all_from m l (end h) = refl
all_from m l (link {e = e} h r) = rw (is_from m e (le_trans l h)) (ap (e ∷◌) (all_from m (omega arith) r))

-- all below m: none from m on
pub none_from : (m : ℕ) {hi lo : ℕ} {es : List Entry} → hi ≤ m → Rising hi lo es → keep (from m) es ≡ []
none_from m l (end h) = refl
none_from m l (link {e = e} h r) = rw (not_from m e (omega (arith, rising_range r))) (none_from m l r)

-- all below m
pub all_below : (m : ℕ) {hi lo : ℕ} {es : List Entry} → hi ≤ m → Rising hi lo es → keep (below m) es ≡ es
all_below m l (end h) = refl
all_below m l (link {e = e} h r) = rw (is_below m e (omega (arith, rising_range r))) (ap (e ∷◌) (all_below m l r))

-- the two parts make the whole
pub cut : (m : ℕ) {hi lo : ℕ} {es : List Entry} → Rising hi lo es → keep (below m) es ++ keep (from m) es ≡ es
cut m (end h) = refl
cut m (link {e = e} h r) = ⊎_elim
    (λ t. let h = ltb→lt e.key m t in rw (is_below m e h, not_from m e h) (ap (e ∷◌) (cut m r)))
    (λ t. let h = nltb→le e.key m t in rw (not_below_lem m e h, is_from m e h, none_below m (omega arith) r) (ap (e ∷◌) (all_from m (omega arith) r)))
    (test (below m e))

-- the part below rises
pub below_rising : (m : ℕ) {hi lo : ℕ} {es : List Entry} → lo ≤ m → Rising hi lo es → Rising m lo (keep (below m) es)
below_rising m l (end h) = end l
below_rising m {lo} l (link {e = e} h r) = if_ind (λ es. Rising m lo es) (below m e)
    (λ t. link h (below_rising m (omega (arith, ltb→lt e.key m t)) r))
    (λ t. rw (none_below m (omega (arith, nltb→le e.key m t)) r) (end l))

-- the part from m on rises
pub from_rising : (m : ℕ) {hi lo : ℕ} {es : List Entry} → m ≤ hi → Rising hi lo es → Rising hi m (keep (from m) es)
from_rising m l (end h) = end l
from_rising m {hi = hi} l (link {e = e} h r) = if_ind (λ es. Rising hi m es) (from m e)
    (λ t. link (leb→le m e.key t) (keep_rising (from m) r)) (λ t. from_rising m l r)

-- STORING IN TWO SORTED LISTS

-- in front of all
pub store_first : (e : Entry) {hi lo : ℕ} {es : List Entry} → e.key < lo → Rising hi lo es → store e es ≡ e ∷ es
unfolding store
store_first e l (end h) = refl
store_first e l (link {e = x} h r) = rw (is_true (ltb e.key x.key) (lt→ltb e.key x.key (omega arith)))

-- in the first list
pub store_left : (e : Entry) {hi m lo : ℕ} {xs ys : List Entry} → e.key < m → Rising m lo xs → Rising hi m ys → store e (xs ++ ys) ≡ store e xs ++ ys
unfolding store
store_left e l (end h) r = store_first e l r
store_left e {ys = ys} l (link {e = x} {es = xs} h q) r = ⊎_elim (λ t. rw (is_true (ltb e.key x.key) t))
    (λ t. rw (is_false (ltb e.key x.key) t) (⊎_elim (λ u. rw (is_true (ltb x.key e.key) u) (ap (x ∷◌) (store_left e l q r))) (λ u. rw (is_false (ltb x.key e.key) u)) (test (ltb x.key e.key))))
    (test (ltb e.key x.key))

-- in the second list
pub store_right : (e : Entry) {m lo : ℕ} {xs : List Entry} (ys : List Entry) → m ≤ e.key → Rising m lo xs → store e (xs ++ ys) ≡ xs ++ store e ys
unfolding store
store_right e ys l (end h) = refl
store_right e ys l (link {e = x} h q) = let k = rising_range q in
    rw (no_lt {a = e.key} {b = x.key} (omega arith), yes_lt {a = x.key} {b = e.key} (omega arith)) (ap (x ∷◌) (store_right e ys l q))

-- behind all
pub store_last : (e : Entry) {m lo : ℕ} {xs : List Entry} → m ≤ e.key → Rising m lo xs → xs ++ (e ∷ []) ≡ store e xs
unfolding store
store_last e {xs = xs} l r = sym (store_right e [] l r) ∙ ap (store e) (append-nil xs)
