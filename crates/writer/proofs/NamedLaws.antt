-- Lists that name points or scans: they are those points' and scans' own lists, and the places add up to the bytes.
-- And the other way: points that rise and scans that lie apart are named by their own lists.
-- Assumes nothing.
use Prim.Native.Nat.{ℕ, ◌+◌, ◌≤◌}
use mathlib.Core.Path.{◌≡◌, refl, sym, ap, subst}
use mathlib.Core.List.{List, [], ◌∷◌, ◌++◌, map}
use native.Mathlib.Omega.{arith}
use lib.ListN.{length, length-append}
use lib.Dec.{ltb, eqb}
use borrow.Author.Tests.{le-ltb, ltb-false, eqb-true}
use Rattle.record.specs.declared.point.Point.{Point}
use Rattle.record.specs.declared.point.Point.TheVariants.{Read, Put, Delete}
use Rattle.record.specs.declared.point.Scan.{Scan}
use Rattle.std.specs.Prelude.{Some}
use Rattle.record.specs.Record.{kind_of, key_of, payload_of, point_bytes, points_bytes, scan_bytes, scans_bytes, size_of, PointsRise, Apart}
use Rattle.record.specs.Parse.{Parsed, bad, took}
use Rattle.record.specs.Reader.{low_of, high_of}
use Rattle.record.specs.Steps.{no_item, same_item, by_test}
use Rattle.record.proofs.Cases.{after_took}
use Rattle.record.proofs.Sizes.{point_size, scan_bytes_size}
use Rattle.writer.specs.Writer.{point_named, scan_named, named_points, named_scans}

-- two lists that agree in front and behind
cons_same : (a b : ℕ) (l m : List ℕ) → a ≡ b → l ≡ m → a ∷ l ≡ b ∷ m
cons_same a b l m p q = cc

-- a refusal is no run
no_run : {A P : Type 0} {xs : List A} {e : ℕ} → ◌≡◌ {A = Parsed A} bad (took xs e) → P
no_run h = cc

-- POINTS

-- what a kind, a key and a payload say of the point that they name
record PointIs (low kind key payload : ℕ) (p : Point) : Type 0 where
  kind_is : kind ≡ kind_of p
  key_is : key ≡ key_of p
  payload_is : payload ≡ payload_of p
  low_le : low ≤ key_of p

-- a point that was named is what kind, key and payload say
point_is : (low kind key payload : ℕ) (p : Point) → point_named low kind key payload ≡ Some p → PointIs low kind key payload p
unfolding point_named
point_is low kind key payload p e =
    let P : Point → Type 0 = PointIs low kind key payload in
    by_test (ltb key low) _ _ p e (λ _ e. no_item e) λ a e.
    let l : low ≤ key = ltb-false _ _ a in
    by_test (eqb kind 2) _ _ p e (λ k e. same_item P _ p e (record { kind_is = eqb-true _ _ k; key_is = refl; payload_is = refl; low_le = l })) λ _ e.
    by_test (eqb payload 0) _ _ p e (λ d e.
    by_test (eqb kind 1) _ _ p e (λ k e. same_item P _ p e (record { kind_is = eqb-true _ _ k; key_is = refl; payload_is = eqb-true _ _ d; low_le = l })) λ _ e.
    by_test (eqb kind 3) _ _ p e (λ k e. same_item P _ p e (record { kind_is = eqb-true _ _ k; key_is = refl; payload_is = eqb-true _ _ d; low_le = l }))
    (λ _ e. no_item e)) (λ _ e. no_item e)

-- keys that rise from low on
abbrev pub PointsInOrder : ℕ → List Point → Type 0
PointsInOrder low [] = Unit
PointsInOrder low (p ∷ ps) = (low ≤ key_of p) × PointsInOrder (key_of p + 1) ps

-- what three lists say of the points that they name
pub record PointsNamed (low : ℕ) (ks es xs : List ℕ) (at : ℕ) (ps : List Point) (e : ℕ) : Type 0 where
  pub kinds_are : ks ≡ map kind_of ps
  pub keys_are : es ≡ map key_of ps
  pub payloads_are : xs ≡ map payload_of ps
  pub ordered : PointsInOrder low ps
  pub place : e ≡ at + length (points_bytes ps)

-- the lists are the points' own
pub points_named : (ks es xs : List ℕ) (low at : ℕ) (ps : List Point) (e : ℕ) → named_points low ks es xs at ≡ took ps e → PointsNamed low ks es xs at ps e
unfolding named_points
points_named [] [] [] low at ps e h =
    let a : ps ≡ [] = cc in
    let b : at ≡ e = cc in
    subst (λ (y : List Point). PointsNamed low [] [] [] at y e) (sym a)
    (subst (λ (n : ℕ). PointsNamed low [] [] [] at [] n) b (record { kinds_are = refl; keys_are = refl; payloads_are = refl; ordered = tt; place = omega arith }))
points_named [] [] (x ∷ xs) low at ps e h = no_run h
points_named [] (k ∷ es) xs low at ps e h = no_run h
points_named (k ∷ ks) [] xs low at ps e h = no_run h
points_named (k ∷ ks) (y ∷ es) [] low at ps e h = no_run h
points_named (k ∷ ks) (y ∷ es) (x ∷ xs) low at ps e h =
    after_took (point_named low k y x) (λ p. named_points (key_of p + 1) ks es xs (at + size_of p)) ps e h λ p qs a b d.
    let s : PointIs low k y x p = point_is low k y x p a in
    let i : PointsNamed (key_of p + 1) ks es xs (at + size_of p) qs e = points_named ks es xs (key_of p + 1) (at + size_of p) qs e b in
    subst (λ (z : List Point). PointsNamed low (k ∷ ks) (y ∷ es) (x ∷ xs) at z e) (sym d) (record {
      kinds_are = cons_same k (kind_of p) ks (map kind_of qs) s.kind_is i.kinds_are;
      keys_are = cons_same y (key_of p) es (map key_of qs) s.key_is i.keys_are;
      payloads_are = cons_same x (payload_of p) xs (map payload_of qs) s.payload_is i.payloads_are;
      ordered = (s.low_le, i.ordered);
      place = omega (arith, i.place, point_size p, length-append (point_bytes p) (points_bytes qs));
    })

-- a point is named by its own kind, key and payload
point_own : (p : Point) (low : ℕ) → low ≤ key_of p → point_named low (kind_of p) (key_of p) (payload_of p) ≡ Some p
unfolding point_named
point_own (Read k) low l = simp (le-ltb _ _ l)
point_own (Put k x) low l = simp (le-ltb _ _ l)
point_own (Delete k) low l = simp (le-ltb _ _ l)

-- points that rise are named by their own lists
pub points_own : (ps : List Point) (low at : ℕ) → PointsRise low ps
    → named_points low (map kind_of ps) (map key_of ps) (map payload_of ps) at ≡ took ps (at + length (points_bytes ps))
unfolding named_points
points_own [] low at r = ap (took []) (omega arith)
points_own (p ∷ ps) low at r =
    let n : at + size_of p + length (points_bytes ps) ≡ at + length (point_bytes p ++ points_bytes ps) = omega (arith, length-append (point_bytes p) (points_bytes ps), point_size p) in
    simp (point_own p low r.0, points_own ps (key_of p + 1) (at + size_of p) r.3, n)

-- SCANS

record ScanIs (floor low high : ℕ) (c : Scan) : Type 0 where
  low_is : low ≡ c.low
  high_is : high ≡ c.high
  floor_le : floor ≤ c.low
  low_le : c.low ≤ c.high

-- a scan that was named is what low and high say
scan_is : (floor low high : ℕ) (c : Scan) → scan_named floor low high ≡ Some c → ScanIs floor low high c
unfolding scan_named
scan_is floor low high c e =
    by_test (ltb low floor) _ _ c e (λ _ e. no_item e) λ a e.
    by_test (ltb high low) _ _ c e (λ _ e. no_item e) λ b e.
    same_item (ScanIs floor low high) _ c e (record { low_is = refl; high_is = refl; floor_le = ltb-false _ _ a; low_le = ltb-false _ _ b })

-- scans from a floor on, each above the one before
abbrev pub ScansInOrder : ℕ → List Scan → Type 0
ScansInOrder floor [] = Unit
ScansInOrder floor (c ∷ cs) = (floor ≤ c.low) × (c.low ≤ c.high) × ScansInOrder (c.high + 1) cs

pub record ScansNamed (floor : ℕ) (ls hs : List ℕ) (at : ℕ) (cs : List Scan) (e : ℕ) : Type 0 where
  pub lows_are : ls ≡ map low_of cs
  pub highs_are : hs ≡ map high_of cs
  pub stepped : ScansInOrder floor cs
  pub place : e ≡ at + length (scans_bytes cs)

-- the lists are the scans' own
pub scans_named : (ls hs : List ℕ) (floor at : ℕ) (cs : List Scan) (e : ℕ) → named_scans floor ls hs at ≡ took cs e → ScansNamed floor ls hs at cs e
unfolding named_scans
scans_named [] [] floor at cs e h =
    let a : cs ≡ [] = cc in
    let b : at ≡ e = cc in
    subst (λ (y : List Scan). ScansNamed floor [] [] at y e) (sym a)
    (subst (λ (n : ℕ). ScansNamed floor [] [] at [] n) b (record { lows_are = refl; highs_are = refl; stepped = tt; place = omega arith }))
scans_named [] (y ∷ hs) floor at cs e h = no_run h
scans_named (x ∷ ls) [] floor at cs e h = no_run h
scans_named (x ∷ ls) (y ∷ hs) floor at cs e h =
    after_took (scan_named floor x y) (λ c. named_scans (c.high + 1) ls hs (at + 8)) cs e h λ c ds a b d.
    let s : ScanIs floor x y c = scan_is floor x y c a in
    let i : ScansNamed (c.high + 1) ls hs (at + 8) ds e = scans_named ls hs (c.high + 1) (at + 8) ds e b in
    subst (λ (z : List Scan). ScansNamed floor (x ∷ ls) (y ∷ hs) at z e) (sym d) (record {
      lows_are = cons_same x c.low ls (map low_of ds) s.low_is i.lows_are;
      highs_are = cons_same y c.high hs (map high_of ds) s.high_is i.highs_are;
      stepped = (s.floor_le, s.low_le, i.stepped);
      place = omega (arith, i.place, scan_bytes_size c, length-append (scan_bytes c) (scans_bytes ds));
    })

-- a scan is named by its own low and high
scan_own : (c : Scan) (floor : ℕ) → floor ≤ c.low → c.low ≤ c.high → scan_named floor c.low c.high ≡ Some c
unfolding scan_named
scan_own c floor a b = simp (le-ltb _ _ a, le-ltb _ _ b)

-- scans that lie apart are named by their own lists
pub scans_own : (cs : List Scan) (floor at : ℕ) → Apart floor cs → named_scans floor (map low_of cs) (map high_of cs) at ≡ took cs (at + length (scans_bytes cs))
unfolding named_scans
scans_own [] floor at r = ap (took []) (omega arith)
scans_own (c ∷ cs) floor at r =
    let n : at + 8 + length (scans_bytes cs) ≡ at + length (scan_bytes c ++ scans_bytes cs) = omega (arith, length-append (scan_bytes c) (scans_bytes cs), scan_bytes_size c) in
    simp (scan_own c floor r.0 r.1, scans_own cs (c.high + 1) (at + 8) r.3, n)
