-- Counting marks, the ends of what a footprint scans, in a range of keys.
-- Assumes nothing.
use Prim.Native.Nat.{ℕ, ◌+◌, ◌*◌, ◌≤◌, ◌<◌}
use native.Mathlib.Omega.{arith}
use mathlib.Core.Path.{◌≡◌, refl, ap}
use mathlib.Core.Logic.{⊎_elim}
use mathlib.Core.Bool.{◌&&◌}
use mathlib.Core.List.Memᴰ.{append_cases as in-append}
use mathlib.Core.List.Memᴰ.{append_left as in_left}
use mathlib.Core.List.Memᴰ.{append_right as in_right}
use mathlib.Core.List.Memᴰ.{head as here}
use mathlib.Core.List.Memᴰ.{tail as there}
use mathlib.Core.List.{List, [], ◌∷◌, ◌++◌, map, Memᴰ as Mem}
use lib.Dec.{T, ltb, leb, ltb→lt, lt→ltb, le→leb, leb→le, not_T}
use lib.ListN.{length, length-append, length-map}
use Rattle.record.specs.Record.{Rec, key_of, Apart}
use Rattle.record.specs.declared.point.Scan.{Scan}
use Rattle.std.specs.Prelude.{if◌then◌else◌}
use Rattle.rules.specs.Footprint.{named, reach, meets}
use Rattle.rules.proofs.Tests.{if_ind, is_true, is_false, le_or_lt, and_of, right_of_lem, mem_map, of_map}
use Rattle.rules.proofs.Reach.{meets_of, of_meets}

-- MARKS IN lo .. hi − 1

-- 1 if k lies in lo .. hi − 1, else 0
abbrev within : ℕ → ℕ → ℕ → ℕ
within lo hi k = if leb lo k && ltb k hi then 1 else 0

-- how many of the marks lie there
abbrev pub marks : ℕ → ℕ → List ℕ → ℕ
marks lo hi [] = 0
marks lo hi (k ∷ ks) = within lo hi k + marks lo hi ks

-- inside
within_in : (lo hi k : ℕ) → lo ≤ k → k < hi → within lo hi k ≡ 1
within_in lo hi k a b = rw (is_true (leb lo k && ltb k hi) (and_of (leb lo k) (ltb k hi) (le→leb lo k a) (lt→ltb k hi b)))

-- below
within_low : (lo hi k : ℕ) → k < lo → within lo hi k ≡ 0
within_low lo hi k a = rw (is_false (leb lo k) (not_T (leb lo k) (λ t. omega (arith, leb→le lo k t))))

-- above
within_high : (lo hi k : ℕ) → hi ≤ k → within lo hi k ≡ 0
within_high lo hi k a = rw (is_false (leb lo k && ltb k hi) (not_T (leb lo k && ltb k hi) (λ t. omega (arith, ltb→lt k hi (right_of_lem (leb lo k) (ltb k hi) t)))))

-- a range cut in two, for one mark
within_cut : (lo m hi k : ℕ) → lo ≤ m → m ≤ hi → within lo m k + within m hi k ≡ within lo hi k
within_cut lo m hi k a b = ⊎_elim
    (λ (h : lo ≤ k). ⊎_elim (λ (g : m ≤ k). ⊎_elim
    (λ (i : hi ≤ k). rw (within_high lo m k g, within_high m hi k i, within_high lo hi k i))
    (λ (i : k < hi). rw (within_high lo m k g, within_in m hi k g i, within_in lo hi k h i)) (le_or_lt hi k))
    (λ (g : k < m). rw (within_in lo m k h g, within_low m hi k g, within_in lo hi k h (omega arith))) (le_or_lt m k))
    (λ (h : k < lo). rw (within_low lo m k h, within_low m hi k (omega arith), within_low lo hi k h)) (le_or_lt lo k)

-- a range cut in two
pub marks_cut : (lo m hi : ℕ) (ks : List ℕ) → lo ≤ m → m ≤ hi → marks lo m ks + marks m hi ks ≡ marks lo hi ks
marks_cut lo m hi [] a b = refl
marks_cut lo m hi (k ∷ ks) a b = omega (arith, within_cut lo m hi k a b, marks_cut lo m hi ks a b)

-- there are no more than all of them
pub marks_all : (lo hi : ℕ) (ks : List ℕ) → marks lo hi ks ≤ length ks
marks_all lo hi [] = omega arith
marks_all lo hi (k ∷ ks) = let h : within lo hi k ≤ 1 = if_ind (λ (n : ℕ). n ≤ 1) (leb lo k && ltb k hi) (λ _. omega arith) (λ _. omega arith) in omega (arith, marks_all lo hi ks)

-- a mark inside counts
pub marks_mem : (lo hi : ℕ) (ks : List ℕ) {k : ℕ} → Mem k ks → lo ≤ k → k < hi → 1 ≤ marks lo hi ks
marks_mem lo hi [] {k = k} x3 a b = elim x3 [ ]
marks_mem lo hi (j ∷ ks) (here p) a b = omega (arith, within_in lo hi j (omega arith) (omega arith))
marks_mem lo hi (j ∷ ks) (there m) a b = omega (arith, marks_mem lo hi ks m a b)

-- MARKS OF A FOOTPRINT

-- the ends of each scan are marks
abbrev pub Marked : List Scan → List ℕ → Type 0
Marked f ks = (c : Scan) → Mem c f → (c.low ≤ c.high) × Mem c.low ks × Mem c.high ks

-- a footprint that meets lo .. hi − 1 and has no mark there covers it
pub covers : (f : List Scan) (ks : List ℕ) → Marked f ks → (lo hi : ℕ) → T (meets f lo hi) → marks lo hi ks < 1 → (k : ℕ) → lo ≤ k → k < hi → T (meets f k (k + 1))
covers f ks mk lo hi t few k a b =
    let x = of_meets f lo hi t in
    let c = x.0 in
    let m = mk c x.1 in
    let p = x.2 in
    let q = x.3 in
    meets_of {f = f} {from = k} {to = k + 1} x.1
    (⊎_elim (λ (i : lo ≤ c.low). absurd (omega (arith, marks_mem lo hi ks m.1 i p))) (λ (i : c.low < lo). omega arith) (le_or_lt lo c.low))
    (⊎_elim (λ (i : hi ≤ c.high). omega arith) (λ (i : c.high < hi). absurd (omega (arith, marks_mem lo hi ks m.2 q i))) (le_or_lt hi c.high))

-- its low
abbrev low_in : Scan → ℕ
low_in c = c.low

-- its high
abbrev high_in : Scan → ℕ
high_in c = c.high

-- a record's marks: the keys of its points, and both ends of its scans
pub marks_of : Rec → List ℕ
marks_of r = map key_of r.points ++ (map low_in r.scans ++ map high_in r.scans)

-- points and twice the scans
pub marks_length : (r : Rec) → length (marks_of r) ≡ length r.points + 2 * length r.scans
unfolding marks_of
marks_length r = simp (length-append, length-map) (omega arith)

-- they are marks of what the record names or scans
pub marks_marked : (r : Rec) → ((c : Scan) → Mem c r.scans → c.low ≤ c.high) → Marked (reach r) (marks_of r)
unfolding reach marks_of
marks_marked r ok c m = ⊎_elim
    (λ (a : Mem c (map named r.points)). let x = of_map named r.points a in
    let low = ap low_in x.2 in let high = ap high_in x.2 in
    (omega arith, rw low (in_left (lows ++ highs) (mem_map key_of x.1)), rw high (in_left (lows ++ highs) (mem_map key_of x.1))))
    (λ (b : Mem c r.scans). (ok c b, in_right keys (in_left highs (mem_map low_in b)), in_right keys (in_right lows (mem_map high_in b))))
    (in-append (map named r.points) m)
  where
    keys : List ℕ
    keys = map key_of r.points

    lows : List ℕ
    lows = map low_in r.scans

    highs : List ℕ
    highs = map high_in r.scans

-- the scans of a well-formed record have low ≤ high
pub apart_ordered : (low : ℕ) (cs : List Scan) → Apart low cs → (c : Scan) → Mem c cs → c.low ≤ c.high
apart_ordered low [] a c x'' = elim x'' [ ]
apart_ordered low (d ∷ cs) a c (here p) = omega (arith, a.1, ap low_in p, ap high_in p)
apart_ordered low (d ∷ cs) a c (there m) = apart_ordered (d.high + 1) cs a.3 c m
