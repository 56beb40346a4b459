-- Which of b's scans are still ahead of a key: those that end below it are passed over, and then the first one alone can cover it.
-- Assumes nothing.
use Prim.Native.Nat.{ℕ, zero, suc, ◌+◌, ◌*◌, ◌-◌, ◌≤◌, ◌<◌}
use mathlib.Core.Bool.{Bool, true, false, not, ◌&&◌, ◌||◌}
use mathlib.Core.Path.{◌≡◌, refl, sym, ap, ◌∙◌}
use mathlib.Core.List.{List, [], ◌∷◌}
use native.Mathlib.Omega.{arith}
use lib.ListN.{length}
use lib.Dec.{leb, ltb, eqb}
use borrow.Author.Tests.{le-leb, lt-leb, ltb-true, ltb-false}
use Rattle.words.specs.Word.{word}
use Rattle.record.specs.declared.point.Point.{Point}
use Rattle.record.specs.declared.point.Scan.{Scan}
use Rattle.record.specs.Record.{key_of}
use Rattle.record.proofs.Cases.{by_case}
use Rattle.writer.proofs.NamedLaws.{PointsInOrder, ScansInOrder}
use Rattle.joiner.specs.Joined.{scans_key}
use Rattle.joiner.specs.PointSteps.{clashes_scanned, scan_in, last_scans, ends_below, starts_by, not_below}
use Rattle.joiner.proofs.PointJoin.{and_false}

-- none is left
ahead_none : (n : ℕ) (bs : List ℕ) → n ≡ 0 → last_scans n bs ≡ []
unfolding last_scans
ahead_none n bs e = rw e

-- the first of those that are left
ahead_first : (n : ℕ) (bs : List ℕ) → (n ≡ 0 → ⊥) → last_scans n bs ≡ scan_in bs (length bs - 8 * n) ∷ last_scans (n - 1) bs
unfolding last_scans
ahead_first zero bs e = absurd (e refl)
ahead_first (suc n) bs e = let z : n ≡ suc n - 1 = omega arith in ap (λ (m : ℕ). scan_in bs (length bs - 8 * suc n) ∷ last_scans m bs) z

module _ (n key : ℕ) (bs : List ℕ) where
  -- ENDS_BELOW AND STARTS_BY

  pub ends_none : n ≡ 0 → not (eqb n 0) ≡ ends_below key (last_scans n bs)
  ends_none e = rw (ahead_none n bs e, e)

  pub starts_none : n ≡ 0 → not (eqb n 0) ≡ starts_by key (last_scans n bs)
  starts_none e = rw (ahead_none n bs e, e)

  pub ends_here : (h : ℕ) → h ≡ word 4 bs (length bs - 8 * n + 4) → (n ≡ 0 → ⊥) → ltb h key ≡ ends_below key (last_scans n bs)
  ends_here h is e = rw (ahead_first n bs e, is)

  pub starts_here : (h : ℕ) → h ≡ word 4 bs (length bs - 8 * n) → (n ≡ 0 → ⊥) → leb h key ≡ starts_by key (last_scans n bs)
  starts_here h is e = rw (ahead_first n bs e, is)

  -- PASS_SCANS

  module _ (t : Bool) (is : t ≡ ends_below key (last_scans n bs)) where
    -- the first one ends below the key: there is one
    pub pass_some : t ≡ true → 1 ≤ n
    pass_some e = go n (λ z. not_so (sym e ∙ is ∙ ap (ends_below key) (ahead_none n bs z)))
      where
        not_so : true ≡ false → ⊥
        not_so z = let u : ◌≡◌ {A = ℕ} 0 1 = cc in omega arith

        go : (m : ℕ) → (m ≡ 0 → ⊥) → 1 ≤ m
        go m h = omega arith

    pub pass_less : t ≡ true → n - 1 < n
    pass_less e = omega (arith, pass_some e)

    -- and it is passed over
    pub pass_one : (l : List Scan) → t ≡ true → l ≡ not_below key (last_scans n bs) → l ≡ not_below key (last_scans (n - 1) bs)
    pass_one l e i =
        let more : n ≡ 0 → ⊥ = λ z. omega (arith, pass_some e) in
        let f = ahead_first n bs more in
        let below : ltb (word 4 bs (length bs - 8 * n + 4)) key ≡ true = sym (ap (ends_below key) f) ∙ sym is ∙ e in
        i ∙ ap (not_below key) f ∙ rw below

    -- it does not: those that are left are not below the key
    pub pass_done : (l : List Scan) → t ≡ false → l ≡ not_below key (last_scans n bs) → last_scans n bs ≡ l
    pass_done l e i = sym (i ∙ stays (last_scans n bs) (sym is ∙ e))
      where
        stays : (cs : List Scan) → ends_below key cs ≡ false → not_below key cs ≡ cs
        stays [] z = refl
        stays (c ∷ cs) z = rw z

-- WHAT A KEY MEETS

-- scans above a key do not cover it
scans_above : (k floor : ℕ) (cs : List Scan) → k < floor → ScansInOrder floor cs → scans_key k cs ≡ false
scans_above k floor [] h o = refl
scans_above k floor (c ∷ cs) h o =
    rw (lt-leb c.low k (omega (arith, o.0)), scans_above k (c.high + 1) cs (omega (arith, o.0, o.1)) o.2)

-- scans that end below a key cover no key from there on
pub key_not_below : (k k' : ℕ) (cs : List Scan) → k ≤ k' → scans_key k' (not_below k cs) ≡ scans_key k' cs
key_not_below k k' [] h = refl
key_not_below k k' (c ∷ cs) h =
    by_case (ltb c.high k)
    (λ b. let l : c.high < k = ltb-true c.high k b in rw (b, lt-leb k' c.high (omega arith), and_false (leb c.low k')) (key_not_below k k' cs h))
    (λ b. rw b)

-- of scans of which the first does not end below the key, only the first can cover it
first_covers : (k floor : ℕ) (cs : List Scan) → ScansInOrder floor cs → ends_below k cs ≡ false → scans_key k cs ≡ starts_by k cs
first_covers k floor [] o e = refl
first_covers k floor (c ∷ cs) o e =
    let h = ltb-false _ _ e in
    rw (le-leb k c.high h, scans_above k (c.high + 1) cs (omega arith) o.2) (plain (leb c.low k))
  where
    plain : (b : Bool) → ((b && true) || false) ≡ b
    plain true = refl
    plain false = refl

-- those that are left do not end below the key
not_below_first : (k : ℕ) (cs : List Scan) → ends_below k (not_below k cs) ≡ false
not_below_first k [] = refl
not_below_first k (c ∷ cs) = by_case (ltb c.high k) (λ b. rw b (not_below_first k cs)) (λ b. rw b b)

-- and lie in order
pub not_below_order : (k floor : ℕ) (cs : List Scan) → ScansInOrder floor cs → ScansInOrder 0 (not_below k cs)
not_below_order k floor [] o = tt
not_below_order k floor (c ∷ cs) o =
    by_case (ltb c.high k) (λ b. rw b (not_below_order k (c.high + 1) cs o.2)) (λ b. rw b (omega arith, o.1, o.2))

-- so a key is covered exactly if the first that is left starts by it
pub covered_by_first : (k floor : ℕ) (cs : List Scan) → ScansInOrder floor cs → scans_key k cs ≡ starts_by k (not_below k cs)
covered_by_first k floor cs o = sym (key_not_below k k cs (omega arith)) ∙ first_covers k 0 (not_below k cs) (not_below_order k floor cs o) (not_below_first k cs)

-- keys above meet what they met
pub clash_not_below : (k low : ℕ) (ps : List Point) (cs : List Scan) → k ≤ low → PointsInOrder low ps → clashes_scanned ps (not_below k cs) ≡ clashes_scanned ps cs
clash_not_below k low [] cs h o = refl
clash_not_below k low (p ∷ ps) cs h o =
    rw (key_not_below k (key_of p) cs (omega (arith, o.0)), clash_not_below k (key_of p + 1) ps cs (omega (arith, o.0)) o.1)
