-- The test at the cursors is the test of the whole footprint: what was passed lies before the cover, and what comes after lies behind it
-- if the first that is left does.
-- Assumes nothing.
use Prim.Native.Nat.{ℕ, zero, suc, ◌+◌, ◌≤◌, ◌<◌}
use native.Mathlib.Omega.{arith}
use mathlib.Core.Path.{◌≡◌, refl, sym, ap, ap₂, ◌∙◌}
use mathlib.Core.Logic.{⊎_elim}
use mathlib.Core.Bool.{Bool, true, false, ◌&&◌, ◌||◌}
use mathlib.Core.List.{List, [], ◌∷◌, ◌++◌, map}
use lib.Dec.{ltb}
use lib.ListN.{length, get_or}
use borrow.Author.Tests.{le-leb, lt-leb, lt-ltb, le-ltb}
use Rattle.rules.specs.Lists.{any}
use Rattle.rules.specs.Footprint.{lies, meets}
use Rattle.rules.proofs.Tests.{le_or_lt}
use Rattle.conflict_search.specs.Sorted.{Climbs, Spaced, Sorted, point_scan, scans_of, footprint}
use Rattle.conflict_search.specs.Cursor.{Passed, Reached, below_at}

-- CURSORS

-- a cursor that moved has passed what it had passed and what it moved over
pub passed_on : {xs : List ℕ} {cursor x r : ℕ} → Passed xs cursor x → Reached xs cursor x r → Passed xs r x
passed_on {xs} {cursor} {x} {r} p q k h = ⊎_elim (λ (i : cursor ≤ k). q.passed k i h) (λ (i : k < cursor). p k i) (le_or_lt cursor k)

-- what is below x is below any more
pub passed_more : (xs : List ℕ) {cursor x y : ℕ} → x ≤ y → Passed xs cursor x → Passed xs cursor y
passed_more xs {cursor} {x} {y} l p k h = omega (arith, p k h)

-- without the first number
passed_tail : (z : ℕ) (zs : List ℕ) {c x : ℕ} → Passed (z ∷ zs) (suc c) x → Passed zs c x
passed_tail z zs p k h = p (suc k) (omega arith)

-- TESTS

-- tests of two lists, and of numbers one higher
and_false : (b : Bool) → b && false ≡ false
and_false true = refl
and_false false = refl

same_ltb : (a b : ℕ) → ltb (suc a) (suc b) ≡ ltb a b
same_ltb a b = ⊎_elim
    (λ (h : b ≤ a). rw (le-ltb a b h, le-ltb (suc a) (suc b) (omega arith))) (λ (h : a < b). rw (lt-ltb a b h, lt-ltb (suc a) (suc b) (omega arith))) (le_or_lt b a)

any_append : {A : Type 0} (f : A → Bool) (xs ys : List A) → any f (xs ++ ys) ≡ any f xs || any f ys
any_append f [] ys = refl
any_append f (x ∷ xs) ys = rw (any_append f xs ys) (or_assoc (f x) (any f xs) (any f ys))
  where
    or_assoc : (a b c : Bool) → a || (b || c) ≡ (a || b) || c
    or_assoc true b c = refl
    or_assoc false b c = refl

-- THE POINTS

-- all that begins at `to` or later lies behind the cover
points_behind : (from to : ℕ) {low : ℕ} {ks : List ℕ} → to ≤ low → Climbs low ks → any (lies from to) (map point_scan ks) ≡ false
points_behind from to h Climbs.end = refl
points_behind from to h (Climbs.link {k = k} l r) = rw (le-ltb k to (omega arith)) (points_behind from to (omega arith) r)

-- of keys from `from` on only the first matters
points_first : (from to : ℕ) {k : ℕ} {ks : List ℕ} → from ≤ k → Climbs (k + 1) ks → any (lies from to) (map point_scan (k ∷ ks)) ≡ ltb k to
points_first from to {k} {ks} h r = ⊎_elim
    (λ (i : to ≤ k). rw (le-ltb k to i) (points_behind from to (omega arith) r))
    (λ (i : k < to). rw (lt-ltb k to i, le-leb from k h)) (le_or_lt to k)

-- the key at the cursor says whether any lies in from .. to − 1
pub points_meet : (from to : ℕ) {low : ℕ} {ks : List ℕ} (c : ℕ) → Climbs low ks → Passed ks c from → (c < length ks → from ≤ get_or ks c 0)
    → any (lies from to) (map point_scan ks) ≡ below_at ks c to
unfolding below_at
points_meet from to c Climbs.end p q = rw (le-ltb c 0 (omega arith))
points_meet from to zero (Climbs.link {k = k} {ks = ks} l r) p q = points_first from to (q (omega arith)) r ∙ rw (lt-ltb 0 (suc (length ks)) (omega arith))
points_meet from to (suc c) (Climbs.link {k = k} {ks = ks} l r) p q =
    rw (lt-leb from k (p 0 (omega arith)), and_false (ltb k to)) (points_meet from to c r (passed_tail k ks p) (λ h. q (omega arith)) ∙ rw (same_ltb c (length ks)))

-- THE SCANS

-- all that begins at `to` or later lies behind the cover
scans_behind : (from to : ℕ) {low : ℕ} {ls hs : List ℕ} → to ≤ low → Spaced low ls hs → any (lies from to) (scans_of ls hs) ≡ false
scans_behind from to h Spaced.end = refl
scans_behind from to h (Spaced.link {l = l} x y r) = rw (le-ltb l to (omega arith)) (scans_behind from to (omega arith) r)

-- of scans that end at `from` or later only the first matters
scans_first : (from to : ℕ) {l h : ℕ} {ls hs : List ℕ} → from ≤ h → l ≤ h → Spaced (h + 1) ls hs → any (lies from to) (scans_of (l ∷ ls) (h ∷ hs)) ≡ ltb l to
scans_first from to {l} {h} {ls} {hs} f o r = ⊎_elim
    (λ (i : to ≤ l). rw (le-ltb l to i) (scans_behind from to (omega arith) r))
    (λ (i : l < to). rw (lt-ltb l to i, le-leb from h f)) (le_or_lt to l)

-- as many highs as lows
pub spaced_length : {low : ℕ} {ls hs : List ℕ} → Spaced low ls hs → length ls ≡ length hs
spaced_length Spaced.end = refl
spaced_length (Spaced.link x y r) = ap suc (spaced_length r)

-- the low at the cursor says whether any scan lies in from .. to − 1
pub scans_meet : (from to : ℕ) {low : ℕ} {ls hs : List ℕ} (c : ℕ) → Spaced low ls hs → Passed hs c from → (c < length hs → from ≤ get_or hs c 0)
    → any (lies from to) (scans_of ls hs) ≡ below_at ls c to
unfolding below_at
scans_meet from to c Spaced.end p q = rw (le-ltb c 0 (omega arith))
scans_meet from to zero (Spaced.link {l = l} {h = h} {ls = ls} x y r) p q = scans_first from to (q (omega arith)) y r ∙ rw (lt-ltb 0 (suc (length ls)) (omega arith))
scans_meet from to (suc c) (Spaced.link {l = l} {h = h} {ls = ls} {hs = hs} x y r) p q =
    rw (lt-leb from h (p 0 (omega arith)), and_false (ltb l to)) (scans_meet from to c r (passed_tail h hs p) (λ g. q (omega arith)) ∙ rw (same_ltb c (length ls)))

-- BOTH

-- the test at the cursors says whether anything lies in from .. to − 1
pub cursors_meet : {keys lows highs : List ℕ} {point scan p c : ℕ} (from to : ℕ) → Sorted keys lows highs → Passed keys point from → Passed highs scan from
    → Reached keys point from p → Reached highs scan from c → below_at keys p to || below_at lows c to ≡ meets (footprint keys lows highs) from to
unfolding meets footprint
cursors_meet {keys} {lows} {highs} {p = p} {c = c} from to s u v x y =
    sym (any_append (lies from to) (map point_scan keys) (scans_of lows highs)
    ∙ ap₂ ◌||◌ (points_meet from to p s.points (passed_on u x) x.there) (scans_meet from to c s.scans (passed_on v y) y.there))
