-- What is known of a point or a scan that is found at a place: it lies within the bytes, and keeps the rules.
-- Assumes nothing.
use Rattle.std.specs.Prelude.{◌≡◌, ℕ, ◌+◌, ◌≤◌, Bool, true, false, List, length, get_or, ltb, eqb, Option, Some, None, refl, if◌then◌else◌}
use Rattle.std.proofs.Common.{subst}
use borrow.Author.Tests.{ltb-false, eqb-true}
use Rattle.words.specs.Word.{word}
use Rattle.record.specs.declared.point.Point.{Point}
use Rattle.record.specs.declared.point.Point.TheVariants.{Read, Put, Delete}
use Rattle.record.specs.declared.point.Scan.{Scan}
use Rattle.record.specs.Record.{size_of}
use Rattle.record.specs.Parse.{step_point, step_scan}

-- nothing is no item, and an item is one item
pub no_item : {A P : Type 0} {a : A} → ◌≡◌ {A = Option A} None (Some a) → P
no_item e = cc

pub same_item : {A : Type 0} (P : A → Type 0) (a b : A) → Some a ≡ Some b → P a → P b
same_item P a b e h = let z : a ≡ b = cc in subst P z h

-- the way that a test led
pub by_test : {A P : Type 0} (b : Bool) (x y : Option A) (a : A) → (if b then x else y) ≡ Some a → (b ≡ true → x ≡ Some a → P) → (b ≡ false → y ≡ Some a → P) → P
by_test true x y a e f g = f refl e
by_test false x y a e f g = g refl e

-- a point is a read, a delete or a put, whose number and key stand there
pub by_point : (P : Point → Type 0) (low : ℕ) (bs : List ℕ) (at : ℕ) (p : Point) → step_point low bs at ≡ Some p
    → (at + 5 ≤ length bs → low ≤ word 4 bs (at + 1) → get_or bs at 0 ≡ 1 → P (Read (word 4 bs (at + 1))))
    → (at + 5 ≤ length bs → low ≤ word 4 bs (at + 1) → get_or bs at 0 ≡ 3 → P (Delete (word 4 bs (at + 1))))
    → (at + 13 ≤ length bs → low ≤ word 4 bs (at + 1) → get_or bs at 0 ≡ 2 → P (Put (word 4 bs (at + 1)) (word 8 bs (at + 5))))
    → P p
unfolding step_point
by_point P low bs at p e read delete put =
    by_test (ltb (length bs) (at + 5)) _ _ p e (λ _ e. no_item e) λ a e.
    by_test (ltb (word 4 bs (at + 1)) low) _ _ p e (λ _ e. no_item e) λ b e.
    by_test (eqb (get_or bs at 0) 1) _ _ p e (λ k e. same_item P _ p e (read (ltb-false _ _ a) (ltb-false _ _ b) (eqb-true _ _ k))) λ _ e.
    by_test (eqb (get_or bs at 0) 3) _ _ p e (λ k e. same_item P _ p e (delete (ltb-false _ _ a) (ltb-false _ _ b) (eqb-true _ _ k))) λ _ e.
    by_test (eqb (get_or bs at 0) 2) _ _ p e (λ k e.
    by_test (ltb (length bs) (at + 13)) _ _ p e (λ _ e. no_item e) (λ d e. same_item P _ p e (put (ltb-false _ _ d) (ltb-false _ _ b) (eqb-true _ _ k))))
    (λ _ e. no_item e)

pub point_within : (low : ℕ) (bs : List ℕ) (at : ℕ) (p : Point) → step_point low bs at ≡ Some p → at + size_of p ≤ length bs
point_within low bs at p e = by_point (λ q. at + size_of q ≤ length bs) low bs at p e (λ h _ _. h) (λ h _ _. h) (λ h _ _. h)

-- a scan's low and high stand there
pub by_scan : (P : Scan → Type 0) (floor : ℕ) (bs : List ℕ) (at : ℕ) (c : Scan) → step_scan floor bs at ≡ Some c
    → (at + 8 ≤ length bs → floor ≤ word 4 bs at → word 4 bs at ≤ word 4 bs (at + 4) → P (record { low = word 4 bs at; high = word 4 bs (at + 4) }))
    → P c
unfolding step_scan
by_scan P floor bs at c e scan =
    by_test (ltb (length bs) (at + 8)) _ _ c e (λ _ e. no_item e) λ a e.
    by_test (ltb (word 4 bs at) floor) _ _ c e (λ _ e. no_item e) λ b e.
    by_test (ltb (word 4 bs (at + 4)) (word 4 bs at)) _ _ c e (λ _ e. no_item e) λ d e.
    same_item P _ c e (scan (ltb-false _ _ a) (ltb-false _ _ b) (ltb-false _ _ d))

pub scan_within : (floor : ℕ) (bs : List ℕ) (at : ℕ) (c : Scan) → step_scan floor bs at ≡ Some c → at + 8 ≤ length bs
scan_within floor bs at c e = by_scan (λ _. at + 8 ≤ length bs) floor bs at c e (λ h _ _. h)
