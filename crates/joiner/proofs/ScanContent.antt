-- What the joined scans are (R57): they scan exactly the keys that either list scans, neighbours in one scan where they were in one, and they lie apart.
-- One scan that two became covers what the two covered, since they share a key. From there each law is one of a single scan put in its place,
-- and then one of all of b's scans, by recursion over them.
-- Assumes nothing.
use Prim.Native.Nat.{ℕ, ◌+◌, ◌^◌, ◌≤◌, ◌<◌}
use mathlib.Core.Path.{◌≡◌, refl, sym, ap, ◌∙◌}
use mathlib.Core.Bool.{Bool, true, false, ◌&&◌, ◌||◌, or-false, or_assoc}
use mathlib.Core.List.{List, [], ◌∷◌}
use native.Mathlib.Omega.{arith}
use lib.Dec.{leb, ltb}
use borrow.Author.Tests.{ltb-true, ltb-false, leb-true, leb-false, le-leb, lt-leb}
use Rattle.record.specs.declared.point.Scan.{Scan}
use Rattle.record.specs.Record.{Apart}
use Rattle.record.proofs.Cases.{by_case}
use Rattle.joiner.specs.Joined.{one_scan, with_scan, joined_scans, scans_key}
use Rattle.joiner.specs.ByKey.{in_one_scan}
use Rattle.joiner.proofs.PointContent.{or_swap}

-- ONE SCAN OF TWO

-- R7: the scan covers the keys from j to k
abbrev pub covers : ℕ → ℕ → Scan → Bool
covers j k c = leb c.low j && leb k c.high

-- keys from low to high are covered
covers_in : (j k : ℕ) (c : Scan) → c.low ≤ j → k ≤ c.high → covers j k c ≡ true
covers_in j k c l h = simp (le-leb c.low j l, le-leb k c.high h)

-- those that start below low are not
covers_below : (j k : ℕ) (c : Scan) → j < c.low → covers j k c ≡ false
covers_below j k c l = simp (lt-leb c.low j l)

-- nor are those that end above high
covers_above : (j k : ℕ) (c : Scan) → c.high < k → covers j k c ≡ false
covers_above j k c h = by_case (leb c.low j) (λ e. simp (e, lt-leb k c.high h)) (λ e. simp e)

-- two scans that share a key cover together what the one scan of them covers, as far as a key or two neighbours are concerned
pub one_covers : (j k : ℕ) (c d : Scan) → k ≤ j + 1 → d.low ≤ c.high → c.low ≤ d.high → covers j k (one_scan c d) ≡ (covers j k c || covers j k d)
one_covers j k c d near s t =
    by_case (leb c.low j)
    (λ a.
    let a' = leb-true c.low j a in
    by_case (leb k c.high)
    (λ b.
    let b' = leb-true k c.high b in
    covers_in j k (one_scan c d) (omega (arith, a')) (omega (arith, b'))
    ∙ simp (covers_in j k c a' b'))
    (λ b.
    let b' = leb-false k c.high b in
    by_case (leb k d.high)
    (λ e.
    let e' = leb-true k d.high e in
    covers_in j k (one_scan c d) (omega (arith, a')) (omega (arith, e'))
    ∙ simp (covers_above j k c b', covers_in j k d (omega (arith, s, b', near)) e'))
    (λ e.
    let e' = leb-false k d.high e in
    covers_above j k (one_scan c d) (omega (arith, b', e'))
    ∙ simp (covers_above j k c b', covers_above j k d e'))))
    (λ a.
    let a' = leb-false c.low j a in
    by_case (leb d.low j)
    (λ b.
    let b' = leb-true d.low j b in
    covers_in j k (one_scan c d) (omega (arith, b')) (omega (arith, a', t, near))
    ∙ simp (covers_below j k c a', covers_in j k d b' (omega (arith, a', t, near))))
    (λ b.
    let b' = leb-false d.low j b in
    covers_below j k (one_scan c d) (omega (arith, a', b'))
    ∙ simp (covers_below j k c a', covers_below j k d b')))

-- THE KEYS

-- each scan's low is at most its high
abbrev pub Upright : List Scan → Type 0
Upright [] = Unit
Upright (c ∷ cs) = (c.low ≤ c.high) × Upright cs

-- scans that lie apart are so
pub apart_upright : (low : ℕ) (cs : List Scan) → Apart low cs → Upright cs
apart_upright low [] r = tt
apart_upright low (c ∷ cs) r = (r.1, apart_upright (c.high + 1) cs r.3)

-- a scan in its place adds the keys and neighbours that it covers and no other
pub scans_with : (j k : ℕ) (c : Scan) (ds : List Scan) → k ≤ j + 1 → c.low ≤ c.high → Upright ds → in_one_scan j k (with_scan c ds) ≡ (covers j k c || in_one_scan j k ds)
unfolding with_scan
scans_with j k c [] near h u = refl
scans_with j k c (d ∷ ds) near h u =
    by_case (ltb c.high d.low) (λ a. simp a) λ a.
    let s : d.low ≤ c.high = ltb-false c.high d.low a in
    by_case (ltb d.high c.low)
    (λ b. simp (a, b, scans_with j k c ds near h u.1) (or_swap (covers j k d) (covers j k c) (in_one_scan j k ds))) λ b.
    let t : c.low ≤ d.high = ltb-false d.high c.low b in
    simp (a, b) (scans_with j k (one_scan c d) ds near (omega (arith, h)) u.1
    ∙ ap (λ (x : Bool). x || in_one_scan j k ds) (one_covers j k c d near s t) ∙ or_assoc (covers j k c) (covers j k d) (in_one_scan j k ds))

-- APART

-- scans that lie apart from a key on do so from a lower one on
pub apart_lower : (low f : ℕ) (cs : List Scan) → low ≤ f → Apart f cs → Apart low cs
apart_lower low f [] l r = tt
apart_lower low f (c ∷ cs) l r = (omega (arith, r.0), r.1, r.2, r.3)

-- a scan put in its place leaves scans that lie apart
pub apart_with : (low : ℕ) (c : Scan) (ds : List Scan) → low ≤ c.low → c.low ≤ c.high → c.high < 2 ^ 32 → Apart low ds → Apart low (with_scan c ds)
unfolding with_scan
apart_with low c [] l h f r = (l, h, f, tt)
apart_with low c (d ∷ ds) l h f r =
    by_case (ltb c.high d.low)
    (λ a.
    let s = ltb-true c.high d.low a in
    simp a (l, h, f, (omega (arith, s), r.1, r.2, r.3))) λ a.
    by_case (ltb d.high c.low)
    (λ b.
    let s = ltb-true d.high c.low b in
    simp (a, b) (r.0, r.1, r.2, apart_with (d.high + 1) c ds (omega (arith, s)) h f r.3)) λ b.
    let o : low ≤ (one_scan c d).low = omega (arith, r.0) in
    let p : (one_scan c d).low ≤ (one_scan c d).high = omega arith in
    let q : (one_scan c d).high < 2 ^ 32 = omega (arith, r.2) in
    let t : Apart low ds = apart_lower low (d.high + 1) ds (omega (arith, r.0, r.1)) r.3 in
    simp (a, b) (apart_with low (one_scan c d) ds o p q t)

-- so do all of b's scans
pub all_apart : (low f : ℕ) (cs ds : List Scan) → low ≤ f → Apart low cs → Apart f ds → Apart low (joined_scans cs ds)
unfolding joined_scans
all_apart low f cs [] l r t = r
all_apart low f cs (d ∷ ds) l r t =
    all_apart low (d.high + 1) (with_scan d cs) ds (omega (arith, t.0, t.1)) (apart_with low d cs (omega (arith, t.0)) t.1 t.2 r) t.3

-- R57: the joined scans lie apart, so no two share a key
pub apart_joined : (cs ds : List Scan) → Apart 0 cs → Apart 0 ds → Apart 0 (joined_scans cs ds)
apart_joined cs ds r t = all_apart 0 0 cs ds (omega arith) r t

-- THE KEYS OF ALL

-- one joined scan covers a key, or two neighbours, exactly if one scan of either list does
in_one_joined : (j k f g : ℕ) (cs ds : List Scan) → k ≤ j + 1 → Apart f cs → Apart g ds → in_one_scan j k (joined_scans cs ds) ≡ (in_one_scan j k cs || in_one_scan j k ds)
unfolding joined_scans
in_one_joined j k f g cs [] near r t = sym (or-false (in_one_scan j k cs))
in_one_joined j k f g cs (d ∷ ds) near r t =
    let w : Apart 0 (with_scan d cs) = apart_with 0 d cs (omega arith) t.1 t.2 (apart_lower 0 f cs (omega arith) r) in
    in_one_joined j k 0 (d.high + 1) (with_scan d cs) ds near w t.3
    ∙ ap (λ (b : Bool). b || in_one_scan j k ds) (scans_with j k d cs near t.1 (apart_upright f cs r))
    ∙ or_assoc (covers j k d) (in_one_scan j k cs) (in_one_scan j k ds) ∙ or_swap (covers j k d) (in_one_scan j k cs) (in_one_scan j k ds)

-- R57: two neighbours lie in one joined scan exactly if they lie in one scan of either list: scans that only touch stay two
pub neighbours_joined : (k f g : ℕ) (cs ds : List Scan) → Apart f cs → Apart g ds → in_one_scan k (k + 1) (joined_scans cs ds) ≡ (in_one_scan k (k + 1) cs || in_one_scan k (k + 1) ds)
neighbours_joined k f g cs ds r t = in_one_joined k (k + 1) f g cs ds (omega arith) r t

-- a key alone
key_alone : (k : ℕ) (cs : List Scan) → in_one_scan k k cs ≡ scans_key k cs
key_alone k [] = refl
key_alone k (c ∷ cs) = ap (λ (b : Bool). covers k k c || b) (key_alone k cs)

-- R57: the joined scans scan exactly the keys that either list scans
pub scans_joined : (k f g : ℕ) (cs ds : List Scan) → Apart f cs → Apart g ds → scans_key k (joined_scans cs ds) ≡ (scans_key k cs || scans_key k ds)
scans_joined k f g cs ds r t =
    sym (key_alone k (joined_scans cs ds)) ∙ in_one_joined k k f g cs ds (omega arith) r t ∙ rw (key_alone k cs, key_alone k ds)
