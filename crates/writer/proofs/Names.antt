-- Which lists name which record: the writer refuses exactly lists that break a rule.
-- Assumes nothing.
use Prim.Native.Nat.{ℕ, suc, ◌+◌, ◌^◌, ◌≤◌, ◌<◌}
use mathlib.Core.Path.{◌≡◌, refl, subst}
use mathlib.Core.Logic.{◌↔◌}
use mathlib.Core.Bool.{◌&&◌}
use mathlib.Core.Option.{some}
use mathlib.Core.List.{List, [], ◌∷◌, map}
use native.Mathlib.Omega.{arith}
use lib.ListN.{length, get_or}
use lib.Dec.{leb}
use borrow.Author.Tests.{le-leb, leb-true}
use Rattle.record.specs.declared.point.Point.{Point}
use Rattle.record.specs.declared.point.Scan.{Scan}
use Rattle.record.specs.Record.{Rec, key_of, payload_of, points_bytes, PointsRise, Apart, Valid}
use Rattle.record.specs.Reader.{Lists, lists, high_of}
use Rattle.record.proofs.Cases.{by_case, and_split, no_some, took_or}
use Rattle.writer.specs.Writer.{named_points, named_scans, start_for, record_of, lists_of, Fitting}
use Rattle.writer.proofs.NamedLaws.{PointsInOrder, ScansInOrder, PointsNamed, ScansNamed, points_named, scans_named, points_own, scans_own}

-- THE LISTS OF A RECORD NAME IT

-- every valid record's own lists name it
pub record_of_lists : (r : Rec) → Valid r → record_of r.snapshot (lists_of r) ≡ some r
unfolding record_of
record_of_lists r v =
    simp (
      points_own r.points 0 (start_for (lists_of r)) v.rising,
      scans_own r.scans 0 (start_for (lists_of r) + length (points_bytes r.points)) v.apart,
      le-leb _ _ v.few_points,
      le-leb _ _ v.few_scans,
    )

-- LISTS THAT NAME A RECORD ARE ITS OWN

-- all that is known of a record that lists name
pub record ListsName (snapshot : ℕ) (l : Lists) (r : Rec) : Type 0 where
  pub snapshot_is : r.snapshot ≡ snapshot
  pub lists_are : l ≡ lists_of r
  pub ordered : PointsInOrder 0 r.points
  pub stepped : ScansInOrder 0 r.scans
  pub few_points : length r.points ≤ 1024
  pub few_scans : length r.scans ≤ 64

-- lists that agree in all five
pub lists_same : (a b c d f a' b' c' d' f' : List ℕ) → a ≡ a' → b ≡ b' → c ≡ c' → d ≡ d' → f ≡ f' → lists a b c d f ≡ lists a' b' c' d' f'
lists_same a b c d f a' b' c' d' f' p q s t u = rw (p, q, s, t, u)

-- two records that the lists name are one
same_some : (P : Rec → Type 0) (q r : Rec) → some q ≡ some r → P q → P r
same_some P q r e h = let z : q ≡ r = cc in subst P z h

-- from what `record_of` gives
pub lists_name : (snapshot : ℕ) (l : Lists) (r : Rec) → record_of snapshot l ≡ some r → ListsName snapshot l r
unfolding record_of
lists_name snapshot l r e =
    took_or (named_points 0 l.kinds l.keys l.payloads (start_for l)) (λ x. no_some (simp x at e)) λ ps at x.
    took_or (named_scans 0 l.lows l.highs at) (λ y. no_some (simp (x, y) at e)) λ cs end y.
    by_case (leb (length ps) 1024 && leb (length cs) 64)
    (λ v. same_some (ListsName snapshot l) (record { snapshot = snapshot; points = ps; scans = cs }) r (simp (x, y, v) at e)
    (let p : PointsNamed 0 l.kinds l.keys l.payloads (start_for l) ps at = points_named l.kinds l.keys l.payloads 0 (start_for l) ps at x in
    let s : ScansNamed 0 l.lows l.highs at cs end = scans_named l.lows l.highs 0 at cs end y in
    and_split _ _ v λ v1 v2. record {
      snapshot_is = refl;
      lists_are = lists_same _ _ _ _ _ _ _ _ _ _ p.kinds_are p.keys_are p.payloads_are s.lows_are s.highs_are;
      ordered = p.ordered;
      stepped = s.stepped;
      few_points = leb-true _ _ v1;
      few_scans = leb-true _ _ v2;
    }))
    (λ v. no_some (simp (x, y, v) at e))

-- lists that name r are r's lists, and the snapshot is r's
pub lists_record_of : (snapshot : ℕ) (l : Lists) (r : Rec) → record_of snapshot l ≡ some r → (r.snapshot ≡ snapshot) × (l ≡ lists_of r)
lists_record_of snapshot l r e = let n : ListsName snapshot l r = lists_name snapshot l r e in (n.snapshot_is, n.lists_are)

-- THE RECORD NAMED IS VALID

-- keys in order that fit rise
rising_of : (ps : List Point) (low : ℕ) → PointsInOrder low ps → ((i : ℕ) → get_or (map key_of ps) i 0 < 2 ^ 32) → ((i : ℕ) → get_or (map payload_of ps) i 0 < 2 ^ 64) → PointsRise low ps
rising_of [] low o f g = tt
rising_of (p ∷ ps) low o f g = (o.0, f 0, g 0, rising_of ps (key_of p + 1) o.1 (λ i. f (suc i)) (λ i. g (suc i)))

-- scans in order that fit lie apart
apart_of : (cs : List Scan) (low : ℕ) → ScansInOrder low cs → ((i : ℕ) → get_or (map high_of cs) i 0 < 2 ^ 32) → Apart low cs
apart_of [] low o f = tt
apart_of (c ∷ cs) low o f = (o.0, o.1, f 0, apart_of cs (c.high + 1) o.2 (λ i. f (suc i)))

-- together: a valid record
valid_own : (snapshot : ℕ) (r : Rec) → Fitting snapshot (lists_of r) → r.snapshot ≡ snapshot → PointsInOrder 0 r.points → ScansInOrder 0 r.scans
    → length r.points ≤ 1024 → length r.scans ≤ 64 → Valid r
valid_own snapshot r f e o s few_points few_scans =
    record {
      snapshot_fits = omega (arith, f.snapshot_fits);
      few_points = few_points;
      few_scans = few_scans;
      rising = rising_of r.points 0 o f.keys_fit f.payloads_fit;
      apart = apart_of r.scans 0 s f.highs_fit;
    }

-- lists name only valid records
pub record_of_valid : (snapshot : ℕ) (l : Lists) (r : Rec) → Fitting snapshot l → record_of snapshot l ≡ some r → Valid r
record_of_valid snapshot l r f e =
    let n : ListsName snapshot l r = lists_name snapshot l r e in
    valid_own snapshot r (subst (λ (m : Lists). Fitting snapshot m) n.lists_are f) n.snapshot_is n.ordered n.stepped n.few_points n.few_scans

-- lists name r exactly if r is valid, and the snapshot and the lists are r's
pub record_of_is : (snapshot : ℕ) (l : Lists) (r : Rec) → Fitting snapshot l → (record_of snapshot l ≡ some r) ↔ (Valid r × (r.snapshot ≡ snapshot) × (l ≡ lists_of r))
record_of_is snapshot l r f = (
  λ e. (record_of_valid snapshot l r f e, (lists_record_of snapshot l r e).0, (lists_record_of snapshot l r e).1),
  λ h. rw (← h.1, h.2) (record_of_lists r h.0),
)
