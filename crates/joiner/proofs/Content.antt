-- What is known of two records that can be joined (R56): one snapshot, no key that a puts or deletes is named or scanned by b, and the joined
-- record is not too large. The test is a conjunction; each law takes it apart.
-- Assumes nothing.
use Prim.Native.Nat.{◌≤◌}
use mathlib.Core.Path.{◌≡◌, refl, ap, ◌∙◌}
use mathlib.Core.Bool.{Bool, true, false, not, ◌&&◌, ◌||◌, true≢false}
use mathlib.Core.List.Memᴰ.{head as here}
use mathlib.Core.List.Memᴰ.{tail as there}
use mathlib.Core.List.{List, ◌∷◌, Memᴰ as Mem}
use lib.ListN.{length}
use lib.Dec.{leb, eqb}
use borrow.Author.Tests.{leb-true, eqb-true, not-true}
use Rattle.record.specs.declared.point.Point.{Point}
use Rattle.record.specs.Record.{Rec, key_of}
use Rattle.record.proofs.Cases.{and_split}
use Rattle.joiner.specs.Joined.{puts_or_deletes, names_key, scans_key, clashes, joined_of, can_join}

-- R56: two records that can be joined: one snapshot, no clash, few points, few scans
pub can_join_lem : (a b : Rec) → can_join a b ≡ true
    → (a.snapshot ≡ b.snapshot) × (clashes a.points b ≡ false) × (length (joined_of a b).points ≤ 1024) × (length (joined_of a b).scans ≤ 64)
unfolding can_join
can_join_lem a b e =
    and_split (eqb a.snapshot b.snapshot) _ e λ s f.
    and_split (not (clashes a.points b)) _ f λ c g.
    and_split (leb (length (joined_of a b).points) 1024) (leb (length (joined_of a b).scans) 64) g λ p q. (
      eqb-true a.snapshot b.snapshot s,
      not-true (clashes a.points b) c,
      leb-true (length (joined_of a b).points) 1024 p,
      leb-true (length (joined_of a b).scans) 64 q,
    )

-- where not one of two tests passes, neither does
neither : (x y : Bool) → (x || y) ≡ false → (x ≡ false) × (y ≡ false)
neither true y e = absurd (true≢false e)
neither false y e = (refl, e)

-- R56: a point puts or deletes a key that b names or scans
abbrev clashes_at : Rec → Point → Bool
clashes_at b p = puts_or_deletes p && (names_key (key_of p) b.points || scans_key (key_of p) b.scans)

-- b neither names nor scans the key of a point that puts or deletes it and does not clash
point_clear : (p : Point) (b : Rec) → clashes_at b p ≡ false → puts_or_deletes p ≡ true
    → (names_key (key_of p) b.points ≡ false) × (scans_key (key_of p) b.scans ≡ false)
point_clear p b e w = neither (names_key (key_of p) b.points) (scans_key (key_of p) b.scans) (simp w at e)

-- R56: where a's points do not clash with b, b neither names nor scans a key that one of them puts or deletes
pub clear_of : (ps : List Point) (b : Rec) → clashes ps b ≡ false → (p : Point) → Mem p ps → puts_or_deletes p ≡ true
    → (names_key (key_of p) b.points ≡ false) × (scans_key (key_of p) b.scans ≡ false)
clear_of mathlib.Core.List.[] b e p x3 w = elim x3 [ ]
clear_of (q ∷ ps) b e p (here i) w = point_clear p b (ap (clashes_at b) i ∙ (neither (clashes_at b q) (clashes ps b) e).0) w
clear_of (q ∷ ps) b e p (there m) w = clear_of ps b (neither (clashes_at b q) (clashes ps b) e).1 p m w
