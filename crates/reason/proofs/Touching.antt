-- What the cursors say of a key that a record names or scans: the point with that key, or else the scan that covers it.
-- Assumes nothing.
use Prim.Native.Nat.{ℕ, zero, suc, ◌+◌, ◌≤◌, ◌<◌}
use mathlib.Core.Path.{◌≡◌, refl, sym, ap, ◌∙◌, subst}
use mathlib.Core.Logic.{inl, inr}
use mathlib.Core.Bool.{Bool, true, false, ◌&&◌}
use mathlib.Core.List.Memᴰ.{head as here}
use mathlib.Core.List.Memᴰ.{tail as there}
use mathlib.Core.List.{List, [], ◌∷◌, map, Memᴰ as Mem}
use native.Mathlib.Omega.{arith}
use lib.ListN.{length, get_or, length-map}
use lib.Dec.{T, ltb, ltb→lt}
use borrow.Author.Tests.{lt-ltb, ltb-false}
use Rattle.record.specs.declared.point.Point.{Point}
use Rattle.record.specs.declared.point.Scan.{Scan}
use Rattle.record.specs.Record.{key_of, PointsRise, Apart}
use Rattle.record.specs.Reader.{high_of}
use Rattle.rules.specs.Demands.{Reaches}
use Rattle.rules.proofs.Tests.{left_of_lem, right_of_lem}
use Rattle.conflict_search.specs.Cursor.{Reached, below_at}
use Rattle.reason.specs.declared.told.Touch.TheVariants as Touches
use Rattle.reason.specs.Reason.{IsNumber, first, later, TouchedBy, by_point, by_scan}
use Rattle.reason.specs.Steps.{TouchIs}
use Rattle.reason.proofs.Above.{above, beyond_low}

-- POINTS

-- the point at a place
point_at : (ps : List Point) (p : ℕ) → p < length ps → (q : Point) × IsNumber q (suc p) ps × (key_of q ≡ get_or (map key_of ps) p 0)
point_at [] p l = absurd (omega arith)
point_at (x ∷ ps) zero l = (x, first, refl)
point_at (x ∷ ps) (suc p) l = let y = point_at ps p (omega arith) in (y.0, later y.1, y.2)

-- a key that the cursor has passed, and below the one where it stands, is no point's
no_point : (low : ℕ) (ps : List Point) (p k : ℕ) → PointsRise low ps → ((i : ℕ) → i < p → get_or (map key_of ps) i 0 < k) → (p < length ps → k < get_or (map key_of ps) p 0)
    → (q : Point) → Mem q ps → key_of q ≡ k → ⊥
no_point low [] p k r passed beyond q x5 h = elim x5 [ ]
no_point low (x ∷ ps) zero k r passed beyond q (here e) h = omega (arith, beyond (omega arith), ap key_of e)
no_point low (x ∷ ps) zero k r passed beyond q (there m) h = omega (arith, beyond (omega arith), above (key_of x + 1) ps r.3 q m)
no_point low (x ∷ ps) (suc p) k r passed beyond q (here e) h = omega (arith, passed 0 (omega arith), ap key_of e)
no_point low (x ∷ ps) (suc p) k r passed beyond q (there m) h =
    no_point (key_of x + 1) ps p k r.3 (λ i l. passed (suc i) (omega arith)) (λ l. beyond (omega arith)) q m h

-- SCANS

-- where a scan covers a key, the first whose high is not below it does
scan_at : (low : ℕ) (cs : List Scan) (p k : ℕ) → Apart low cs → ((i : ℕ) → i < p → get_or (map high_of cs) i 0 < k) → (p < length cs → k ≤ get_or (map high_of cs) p 0)
    → (c : Scan) → Mem c cs → c.low ≤ k → k ≤ c.high → (d : Scan) × IsNumber d (suc p) cs × (d.low ≤ k) × (k ≤ d.high)
scan_at low [] p k r passed stands c x6 l h = elim x6 [ ]
scan_at low (x ∷ cs) zero k r passed stands c (here e) l h = (x, first, omega (arith, ap (λ (z : Scan). z.low) e), stands (omega arith))
scan_at low (x ∷ cs) zero k r passed stands c (there m) l h =
    let s : k ≤ x.high = stands (omega arith) in absurd (omega (arith, beyond_low (x.high + 1) cs r.3 c m))
scan_at low (x ∷ cs) (suc p) k r passed stands c (here e) l h =
    let s : x.high < k = passed 0 (omega arith) in absurd (omega (arith, ap (λ (z : Scan). z.high) e))
scan_at low (x ∷ cs) (suc p) k r passed stands c (there m) l h =
    let y = scan_at (x.high + 1) cs p k r.3 (λ i q. passed (suc i) (omega arith)) (λ q. stands (omega arith)) c m l h in
    (y.0, later y.1, y.2, y.3)

-- THE RETURNS

-- what the test at a cursor says
at_cursor : (xs : List ℕ) (p x : ℕ) → below_at xs p x ≡ true → (p < length xs) × (get_or xs p 0 < x)
unfolding below_at
at_cursor xs p x e =
    let t : T (ltb p (length xs) && ltb (get_or xs p 0) x) = subst T (sym e) tt in
    (ltb→lt p (length xs) (left_of_lem (ltb p (length xs)) (ltb (get_or xs p 0) x) t), ltb→lt (get_or xs p 0) x (right_of_lem (ltb p (length xs)) (ltb (get_or xs p 0) x) t))

past_cursor : (xs : List ℕ) (p x : ℕ) → below_at xs p x ≡ false → p < length xs → x ≤ get_or xs p 0
unfolding below_at
past_cursor xs p x e l = ltb-false (get_or xs p 0) x (sym (ap (λ (b : Bool). b && ltb (get_or xs p 0) x) (lt-ltb p (length xs) l)) ∙ e)

module _ (keys highs : List ℕ) (k p w : ℕ) (at : Reached keys 0 k p) (is : w ≡ k) where
  -- the point at the cursor has the key
  pub point_touches : below_at keys p (w + 1) ≡ true → TouchIs keys highs k (Touches.Point (p + 1))
  point_touches e r l reached =
      let here_is = at_cursor keys p (w + 1) e in
      let same = l.keys_are in
      let y = point_at r.points p (omega (arith, here_is.0, ap length same, length-map r.points key_of)) in
      let k_is : get_or (map key_of r.points) p 0 ≡ k = ap (λ (xs : List ℕ). get_or xs p 0) (sym same) ∙ omega (arith, here_is.1, at.there here_is.0) in
      subst (λ (n : ℕ). TouchedBy r k (Touches.Point n)) (omega arith) (by_point y.1 (y.2 ∙ k_is))

  -- no point has it: the scan at the other cursor covers it
  pub scan_touches : below_at keys p (w + 1) ≡ false → (c : ℕ) → Reached highs 0 k c → TouchIs keys highs k (Touches.Scan (c + 1))
  scan_touches e c over r l reached = go reached
    where
      keys_are : keys ≡ map key_of r.points
      keys_are = l.keys_are

      none : (q : Point) → Mem q r.points → key_of q ≡ k → ⊥
      none = no_point 0 r.points p k l.valid.rising
          (λ i h. subst (λ (xs : List ℕ). get_or xs i 0 < k) keys_are (at.passed i (omega arith) h))
          (λ h. subst (λ (xs : List ℕ). k < get_or xs p 0) keys_are (omega (arith, past_cursor keys p (w + 1) e (omega (arith, h, ap length keys_are, length-map r.points key_of)))))

      go : Reaches r k → TouchedBy r k (Touches.Scan (c + 1))
      go (inl x) = absurd (none x.0 x.1 x.2)
      go (inr x) =
          let highs_are = l.highs_are in
          let y = scan_at 0 r.scans c k l.valid.apart
          (λ i h. subst (λ (xs : List ℕ). get_or xs i 0 < k) highs_are (over.passed i (omega arith) h))
          (λ h. subst (λ (xs : List ℕ). k ≤ get_or xs c 0) highs_are (over.there (omega (arith, h, ap length highs_are, length-map r.scans high_of))))
          x.0 x.1 x.2 x.3 in
          subst (λ (n : ℕ). TouchedBy r k (Touches.Scan n)) (omega arith) (by_scan none y.1 y.2 y.3)
