-- A record's head: what is known of one that is right, and what `head_of` meets at each return.
-- Assumes nothing.
use Prim.Native.Nat.{ℕ, ◌+◌, ◌≤◌, ◌<◌}
use mathlib.Core.Path.{◌≡◌, refl, sym, ap, ◌∙◌}
use mathlib.Core.Bool.{Bool, true, false}
use mathlib.Core.List.{List}
use native.Mathlib.Omega.{arith}
use lib.ListN.{length, get_or}
use borrow.Author.Tests.{le-leb, leb-true, eq-eqb, eqb-true}
use Rattle.words.specs.Word.{word}
use Rattle.record.specs.declared.checker.Head.{Head}
use Rattle.std.specs.Prelude.{Option, Some, None}
use Rattle.record.specs.Record.{version_for, head_size}
use Rattle.record.specs.Parse.{version_in, point_count, scan_count, first_point, counts_ok, head_ok, head_for, head_in, head_of}
use Rattle.record.proofs.Cases.{by_case, and_split}
use Rattle.record.proofs.Versions.{by_version}

-- WHAT IS KNOWN OF A HEAD THAT IS RIGHT

pub record HeadRight (bs : List ℕ) : Type 0 where
  pub within : first_point bs ≤ length bs
  pub whole : word 2 bs 0 + 2 ≡ length bs
  pub few_points : point_count bs ≤ 1024
  pub few_scans : scan_count bs ≤ 64
  pub version : version_for (point_count bs) (scan_count bs) ≡ version_in bs

-- R53: its version is 1 or 2
pub right_version : {P : Type 0} (bs : List ℕ) → HeadRight bs → (point_count bs ≤ 64 → scan_count bs ≤ 8 → version_in bs ≡ 1 → P) → (version_in bs ≡ 2 → P) → P
right_version bs h f g =
    by_version (point_count bs) (scan_count bs) (λ a b e. f a b (sym h.version ∙ e)) (λ e. g (sym h.version ∙ e))

-- where the first point stands
pub first_at : (bs : List ℕ) (v : ℕ) → version_in bs ≡ v → first_point bs ≡ head_size v
unfolding first_point
first_at bs v e = ap head_size e

-- it has nine bytes at the least
pub right_long : (bs : List ℕ) → HeadRight bs → 9 ≤ length bs
right_long bs h = right_version bs h (λ a b e. omega (arith, first_at bs 1 e, h.within)) (λ e. omega (arith, first_at bs 2 e, h.within))

-- the test says so
pub head_right : (bs : List ℕ) → head_ok bs ≡ true → HeadRight bs
unfolding head_ok counts_ok
head_right bs k =
    and_split _ _ k λ k1 k2. and_split _ _ k2 λ k3 k4. and_split _ _ k4 λ k5 k6. and_split _ _ k6 λ k7 k8.
    record { within = leb-true _ _ k1; whole = eqb-true _ _ k3; few_points = leb-true _ _ k5; few_scans = leb-true _ _ k7; version = eqb-true _ _ k8 }

-- where it cannot be, there is none
no_head : (bs : List ℕ) (b : Bool) → head_ok bs ≡ b → (HeadRight bs → ⊥) → head_ok bs ≡ false
no_head bs true e n = absurd (n (head_right bs e))
no_head bs false e n = e

pub not_right : (bs : List ℕ) → (HeadRight bs → ⊥) → None ≡ head_of bs
unfolding head_of
not_right bs n = simp (no_head bs (head_ok bs) refl n)

-- a number of one byte is that byte
word_one : (bs : List ℕ) (at : ℕ) → word 1 bs at ≡ get_or bs at 0
unfolding word
word_one bs at = let e : get_or bs (at + 0) 0 ≡ get_or bs at 0 = ap (λ (n : ℕ). get_or bs n 0) (omega arith) in omega (arith, e)

-- so the counts of version 1 stand in a byte each
pub points_1 : (bs : List ℕ) → version_in bs ≡ 1 → point_count bs ≡ get_or bs 7 0
unfolding point_count
points_1 bs e = ap (λ (n : ℕ). word n bs 7) e ∙ word_one bs 7

pub scans_1 : (bs : List ℕ) → version_in bs ≡ 1 → scan_count bs ≡ get_or bs 8 0
unfolding scan_count
scans_1 bs e = ap (λ (n : ℕ). word n bs (7 + n)) e ∙ word_one bs 8

-- HEAD_OF

module _ (bs : List ℕ) where
  -- fewer than nine bytes
  pub head_short : length bs < 9 → None ≡ head_of bs
  head_short a = not_right bs (λ h. omega (arith, right_long bs h))

  module _ (w : ℕ) (is-w : w ≡ word 2 bs 0) where
    -- a length that is not the number of bytes after it
    pub head_size_lem : (w + 2 ≡ length bs → ⊥) → None ≡ head_of bs
    head_size_lem a = not_right bs (λ h. a (ap (λ (n : ℕ). n + 2) is-w ∙ h.whole))

    -- all but version and counts is right: these decide
    by_counts : (v p s : ℕ) → w + 2 ≡ length bs → head_size v ≤ length bs → version_in bs ≡ v → point_count bs ≡ p → scan_count bs ≡ s → head_for v p s ≡ head_of bs
    unfolding head_for head_of head_ok
    by_counts v p s whole within is-v is-p is-s =
        let first : first_point bs ≡ head_size v = first_at bs v is-v in
        simp (first, le-leb _ _ within, ← is-w, eq-eqb _ _ whole, is-v, is-p, is-s)

    module _ (whole : w + 2 ≡ length bs) where
      -- version 1
      pub head_1 : 9 ≤ length bs → get_or bs 2 0 ≡ 1 → (r : Option Head) → r ≡ head_for 1 (get_or bs 7 0) (get_or bs 8 0) → r ≡ head_of bs
      head_1 long is r e = e ∙ by_counts 1 (get_or bs 7 0) (get_or bs 8 0) whole long is (points_1 bs is) (scans_1 bs is)

      -- version 2
      pub head_2 : 11 ≤ length bs → get_or bs 2 0 ≡ 2 → (p s : ℕ) → p ≡ word 2 bs 7 → s ≡ word 2 bs 9 → (r : Option Head) → r ≡ head_for 2 p s → r ≡ head_of bs
      unfolding point_count scan_count
      head_2 long is p s is-p is-s r e =
          e ∙ by_counts 2 p s whole long is (ap (λ (n : ℕ). word n bs 7) is ∙ sym is-p) (ap (λ (n : ℕ). word n bs (7 + n)) is ∙ sym is-s)

  -- another version, or fewer bytes than the head of version 2 has
  pub head_rest : (get_or bs 2 0 ≡ 1 → ⊥) → (get_or bs 2 0 ≡ 2 → 11 ≤ length bs → ⊥) → None ≡ head_of bs
  head_rest a b = not_right bs (λ h. right_version bs h (λ _ _ e. a e) (λ e. b e (omega (arith, first_at bs 2 e, h.within))))

-- WHAT HEAD_OF GAVE BACK

module _ (bs : List ℕ) (f : Option Head) (is : f ≡ head_of bs) where
  -- none was right
  pub none_right : f ≡ None → head_ok bs ≡ false
  unfolding head_of
  none_right e = by_case (head_ok bs) (λ k. let z : None ≡ Some (head_in bs) = sym e ∙ is ∙ simp k in cc) (λ k. k)

  module _ (h : Head) (e : f ≡ Some h) where
    -- one was
    pub head_found : (head_ok bs ≡ true) × (h ≡ head_in bs)
    unfolding head_of
    head_found =
        by_case (head_ok bs)
        (λ k. let z : Some h ≡ Some (head_in bs) = sym e ∙ is ∙ simp k in (k, cc))
        (λ k. let z : Some h ≡ None = sym e ∙ is ∙ simp k in cc)

    -- the first point stands within the bytes
    pub head_within : h.start ≤ length bs
    head_within = omega (arith, ap (λ (x : Head). x.start) head_found.1, (head_right bs head_found.0).within)
