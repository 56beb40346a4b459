-- Two lists of scans that lie apart, joined from the lowest low on: the scans still to come are the held scan and what is left of both lists.
-- The next scan, the one with the lowest low, either grows the held one or lies above it; then the held one is over and stands in front of the rest.
-- Assumes nothing.
use Prim.Native.Nat.{ℕ, ◌+◌, ◌≤◌, ◌<◌}
use mathlib.Core.Path.{◌≡◌, refl, sym, ap, ◌∙◌}
use mathlib.Core.List.{List, [], ◌∷◌, ◌++◌}
use native.Mathlib.Omega.{arith}
use native.Mathlib.Nat.{le_refl}
use lib.Dec.{ltb}
use borrow.Author.Tests.{lt-ltb, le-ltb, ltb-true, ltb-false}
use Rattle.std.specs.Prelude.{max, Option, Some, None}
use Rattle.record.specs.declared.point.Scan.{Scan}
use Rattle.record.proofs.Cases.{by_case}
use Rattle.writer.proofs.NamedLaws.{ScansInOrder}
use Rattle.joiner.specs.Joined.{with_scan, joined_scans}
use Rattle.joiner.specs.ScanSteps.{StartsFrom, held_scans, ended, grown}

-- SCANS IN ORDER

-- from a lower floor on as well
pub order_lower : (f g : ℕ) (cs : List Scan) → g ≤ f → ScansInOrder f cs → ScansInOrder g cs
order_lower f g [] h o = tt
order_lower f g (c ∷ cs) h o = let l = o.0 in (omega arith, o.1, o.2)

-- from where the first one starts
pub order_from : (f g : ℕ) (cs : List Scan) → StartsFrom g cs → ScansInOrder f cs → ScansInOrder g cs
order_from f g [] s o = tt
order_from f g (c ∷ cs) s o = (s, o.1, o.2)

-- A SCAN IN ITS PLACE

-- h grown by d, which starts no lower
abbrev pub up_to : Scan → Scan → Scan
up_to h d = record { low = h.low; high = max h.high d.high }

-- a scan above all that are there already stands in front of them
with_front : (c : Scan) (floor : ℕ) (cs : List Scan) → c.high < floor → ScansInOrder floor cs → with_scan c cs ≡ c ∷ cs
unfolding with_scan
with_front c floor [] h o = refl
with_front c floor (d ∷ ds) h o = let l = o.0 in simp (lt-ltb c.high d.low (omega arith))

-- two scans are alike with like lows and highs
same_scan : (j k m n : ℕ) → j ≡ k → m ≡ n → ◌≡◌ {A = Scan} (record { low = j; high = m }) (record { low = k; high = n })
same_scan j k m n e f = rw (e, f)

-- a scan that shares a key with the first, and starts no higher, grows
with_grows : (h d : Scan) (ds : List Scan) → h.low ≤ d.low → d.low ≤ d.high → d.low ≤ h.high → with_scan h (d ∷ ds) ≡ with_scan (up_to h d) ds
unfolding with_scan
with_grows h d ds l w s =
    simp (le-ltb h.high d.low s, le-ltb d.high h.low (omega arith)) (ap (λ (c : Scan). with_scan c ds) (same_scan _ _ _ _ (omega arith) refl))

-- a scan that shares a key with the first, and starts no lower, becomes one with it
with_into : (h d : Scan) (ds : List Scan) → h.low ≤ d.low → d.low ≤ d.high → d.low ≤ h.high → with_scan d (h ∷ ds) ≡ with_scan (up_to h d) ds
unfolding with_scan
with_into h d ds l w s =
    simp (le-ltb d.high h.low (omega arith), le-ltb h.high d.low s) (ap (λ (c : Scan). with_scan c ds) (same_scan _ _ _ _ (omega arith) (omega arith)))

-- two scans that share a key, put in their places one after the other, are the one scan in its place
with_both : (cs : List Scan) (h d : Scan) → h.low ≤ d.low → d.low ≤ d.high → d.low ≤ h.high → ScansInOrder d.low cs
    → with_scan d (with_scan h cs) ≡ with_scan (up_to h d) cs
unfolding with_scan
with_both [] h d l w s o = with_into h d [] l w s
with_both (c ∷ cs) h d l w s o =
    let f = o.0 in
    let v = o.1 in
    by_case (ltb h.high c.low)
    (λ e. ap (with_scan d) (with_front h c.low (c ∷ cs) (ltb-true h.high c.low e) (le_refl c.low, o.1, o.2)) ∙ with_into h d (c ∷ cs) l w s)
    λ e.
    let t : c.low ≤ h.high = ltb-false h.high c.low e in
    ap (with_scan d) (with_grows h c cs (omega arith) v t)
    ∙ with_both cs (up_to h c) d l w (omega arith) (order_lower (c.high + 1) d.low cs (omega arith) o.2)
    ∙ ap (λ (b : Scan). with_scan b cs) (same_scan h.low h.low (max (max h.high c.high) d.high) (max (max h.high d.high) c.high) refl (omega arith))
    ∙ sym (with_grows (up_to h d) c cs (omega arith) v (omega arith))

-- WHAT IS STILL TO COME

-- a scan below all that come stays in front
join_front : (ds : List Scan) (h : Scan) (xs : List Scan) → h.low ≤ h.high → ScansInOrder (h.high + 1) ds
    → joined_scans (h ∷ xs) ds ≡ h ∷ joined_scans xs ds
unfolding with_scan joined_scans
join_front [] h xs w o = refl
join_front (d ∷ ds) h xs w o =
    let l = o.0 in
    let v = o.1 in
    simp (le-ltb d.high h.low (omega arith), lt-ltb h.high d.low (omega arith)) (
    join_front ds h (with_scan d xs) w (order_lower (d.high + 1) (h.high + 1) ds (omega arith) o.2))

-- the held scan in its place, if there is one
abbrev pub with_held : Option Scan → List Scan → List Scan
with_held None cs = cs
with_held (Some h) cs = with_scan h cs

-- the joined scans of what is held and what is left of both lists
abbrev pub to_come : Option Scan → List Scan → List Scan → List Scan
to_come held cs ds = joined_scans (with_held held cs) ds

-- with nothing left, it is the held scan
pub come_last : (held : Option Scan) → to_come held [] [] ≡ held_scans held
unfolding with_scan joined_scans
come_last None = refl
come_last (Some h) = refl

-- the held scan is not empty
abbrev pub Whole : Option Scan → Type 0
Whole None = Unit
Whole (Some h) = h.low ≤ h.high

-- and starts here; 0 if there is none
abbrev pub low_held : Option Scan → ℕ
low_held None = 0
low_held (Some h) = h.low

-- what is to come when c, the lowest of all, is next: what of the held scan is over, and what is to come then
abbrev pub Turn : Option Scan → Scan → List Scan → List Scan → List Scan → List Scan → Type 0
Turn held c cs ds cs' ds' = to_come held cs ds ≡ held_scans (ended held c.low) ++ to_come (Some (grown held c)) cs' ds'

-- c is the first of a's
pub turn_a : (held : Option Scan) (c : Scan) (cs ds : List Scan) → Whole held → ScansInOrder (low_held held) (c ∷ cs) → ScansInOrder c.low ds → Turn held c (c ∷ cs) ds cs ds
turn_a None c cs ds w o p = ap (λ (l : List Scan). joined_scans l ds) (sym (with_front c (c.high + 1) cs (omega arith) o.2))
turn_a (Some h) c cs ds w o p =
    by_case (ltb h.high c.low)
    (λ e.
    let t : h.high < c.low = ltb-true h.high c.low e in
    simp e (
    ap (λ (l : List Scan). joined_scans l ds) (with_front h c.low (c ∷ cs) t (le_refl c.low, o.1, o.2))
    ∙ join_front ds h (c ∷ cs) w (order_lower c.low (h.high + 1) ds (omega arith) p)
    ∙ ap (λ (l : List Scan). h ∷ joined_scans l ds) (sym (with_front c (c.high + 1) cs (omega arith) o.2))))
    (λ e. simp e (ap (λ (l : List Scan). joined_scans l ds) (with_grows h c cs o.0 o.1 (ltb-false h.high c.low e))))

-- c is the first of b's
pub turn_b : (held : Option Scan) (c : Scan) (cs ds : List Scan) → Whole held → ScansInOrder (low_held held) (c ∷ ds) → ScansInOrder c.low cs → Turn held c cs (c ∷ ds) cs ds
unfolding joined_scans
turn_b None c cs ds w o p = refl
turn_b (Some h) c cs ds w o p =
    by_case (ltb h.high c.low)
    (λ e.
    let t : h.high < c.low = ltb-true h.high c.low e in
    simp e (
    ap (λ (l : List Scan). joined_scans l (c ∷ ds)) (with_front h c.low cs t p)
    ∙ join_front (c ∷ ds) h cs w (omega arith, o.1, o.2)))
    (λ e. simp e (ap (λ (l : List Scan). joined_scans l ds) (with_both cs h c o.0 o.1 (ltb-false h.high c.low e) p)))
