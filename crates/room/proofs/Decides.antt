-- What `room_for` has counted decides row 3: one law for each return, and what its sums ask.
-- Assumes nothing.
use Prim.Native.Nat.{ℕ, ◌+◌, ◌-◌, ◌^◌, ◌≤◌, ◌<◌}
use mathlib.Core.Path.{◌≡◌, refl, ap, ◌∙◌}
use mathlib.Core.Bool.{true}
use mathlib.Core.List.{List, [], ◌∷◌, map, Memᴰ as Mem}
use native.Mathlib.Omega.{arith}
use lib.ListN.{length, length-map}
use lib.Dec.{ltb}
use borrow.Author.Tests.{lt-ltb, le-ltb}
use Rattle.record.specs.declared.point.Point.{Point}
use Rattle.record.specs.declared.point.Point.TheVariants.{Read, Put, Delete}
use Rattle.record.specs.Record.{Rec, Valid, kind_of, key_of}
use Rattle.nodes.specs.declared.header.Header.{Header}
use Rattle.nodes.specs.Nodes.{header_at}
use Rattle.rules.specs.Lists.{keep}
use Rattle.rules.specs.State.{Entry}
use Rattle.rules.specs.Footprint.{writes_of}
use Rattle.rules.specs.Verdict.{whole, drops, count}
use Rattle.rules.specs.EntryFits.{EntryFits}
use Rattle.rules.proofs.Written.{written_sized}
use Rattle.rules.proofs.Counted.{drops_whole, count_whole}
use Rattle.pool.specs.Image.{Arrangement, Image, Fit, state_of}
use Rattle.drop.specs.Old.{old}
use Rattle.drop.specs.Spot.{UpTo}
use Rattle.find.specs.declared.Found.{Found}
use Rattle.room.specs.declared.tally.Tally.{Tally}
use Rattle.room.specs.declared.room.Room.TheVariants.{Enough, AfterDrop, TooLittle}
use Rattle.room.specs.Tally.{one_if_absent, one_if_revived, tally_of, TallyIs}
use Rattle.room.specs.Room.{room_in, old_limit, Writable, RoomIs}
use Rattle.room.proofs.Counts.{tally, whole_is, count_is}
use Rattle.room.proofs.Turns.{small_absent, small_revived, small_adds}

-- the lists of points add what the points add
tally_lists : (f : Found → ℕ) (ps : List Point) (es : List Entry) → tally_of f (map kind_of ps) (map key_of ps) es ≡ tally f ps es
unfolding tally_of tally
tally_lists f [] es = refl
tally_lists f (Read k ∷ ps) es = omega (arith, tally_lists f ps es)
tally_lists f (Put k x ∷ ps) es = rw (tally_lists f ps es)
tally_lists f (Delete k ∷ ps) es = omega (arith, tally_lists f ps es)

-- each at most one
tally_small : (f : Found → ℕ) → ((x : Found) → f x ≤ 1) → (kinds ks : List ℕ) (es : List Entry) → tally_of f kinds ks es ≤ length ks
unfolding tally_of
tally_small f h [] ks es = omega arith
tally_small f h (kind ∷ kinds) [] es = omega arith
tally_small f h (kind ∷ kinds) (k ∷ ks) es = omega (arith, small_adds f h kind k es, tally_small f h kinds ks es)

pub lists_few : (m kinds ks : List ℕ) → Writable m kinds ks → length ks ≤ 1024
lists_few m kinds ks w = rw w.keys_are (omega (arith, length-map w.r.points key_of, w.valid.few_points))

module _ (m kinds ks : List ℕ) (fit : Fit m) (w : Writable m kinds ks) (h : Header) (eh : h ≡ header_at m) (limit : ℕ) (el : limit ≡ old_limit h.position h.zone)
    (t : Tally) (et : (A : Arrangement) → Image m A → TallyIs kinds ks limit (state_of A).kept t) where
  -- the header's words are the state's numbers
  record Words (A : Arrangement) : Type 0 where
    limit_is : h.limit ≡ A.N
    kept_is : h.kept ≡ length (state_of A).kept
    old_limit_is : limit ≡ A.p + 1 - A.Z

  words : (A : Arrangement) → Image m A → Words A
  words A i =
      let e : h ≡ Rattle.pool.specs.Image.header_of A = eh ∙ i.header in
      let p : h.position ≡ A.p = ap (λ (x : Header). x.position) e in
      let z : h.zone ≡ A.Z = ap (λ (x : Header). x.zone) e in
      record { limit_is = ap (λ (x : Header). x.limit) e; kept_is = ap (λ (x : Header). x.kept) e; old_limit_is = omega arith }

  small : (h.kept ≤ 65536) × (t.absent ≤ 1024) × (t.revived ≤ 1024)
  small =
      let A = fit.arrangement in
      let i = fit.image in
      let es = (state_of A).kept in
      let q = lists_few m kinds ks w in (
        omega (arith, (words A i).kept_is, i.arranged.lawful.few, i.arranged.lawful.limit_N.1),
        omega (arith, (et A i).absent_is, tally_small one_if_absent small_absent kinds ks es),
        omega (arith, (et A i).revived_is, tally_small (one_if_revived limit) (small_revived limit) kinds ks es),
      )

  pub all_fits : h.kept + t.absent < 2 ^ 32
  all_fits = omega (arith, small)

  pub more_fits : h.kept + t.absent + t.revived < 2 ^ 32
  more_fits = omega (arith, small)

  module _ (A : Arrangement) (i : Image m A) (r : Rec) (v : Valid r) (ek : kinds ≡ map kind_of r.points) (ee : ks ≡ map key_of r.points) where
    whole_counted : length (whole (state_of A) r.points) ≡ h.kept + t.absent
    whole_counted =
        let a : tally_of one_if_absent kinds ks (state_of A).kept ≡ tally one_if_absent r.points (state_of A).kept = rw (ek, ee) (tally_lists one_if_absent r.points (state_of A).kept) in
        omega (arith, whole_is i.arranged.lawful r.points v.rising, (et A i).absent_is, (words A i).kept_is)

    count_counted : count (state_of A) r.points + length (keep (old limit) (state_of A).kept) ≡ h.kept + t.absent + t.revived
    count_counted =
        let q = (words A i).old_limit_is in
        let a : tally_of one_if_absent kinds ks (state_of A).kept ≡ tally one_if_absent r.points (state_of A).kept = rw (ek, ee) (tally_lists one_if_absent r.points (state_of A).kept) in
        let b : tally_of (one_if_revived limit) kinds ks (state_of A).kept ≡ tally (one_if_revived limit) r.points (state_of A).kept = rw (ek, ee) (tally_lists (one_if_revived limit) r.points (state_of A).kept) in
        let c : count (state_of A) r.points + length (keep (old limit) (state_of A).kept) ≡ length (state_of A).kept + tally one_if_absent r.points (state_of A).kept + tally (one_if_revived limit) r.points (state_of A).kept =
        rw q (count_is i.arranged.lawful r.points v.rising) in
        omega (arith, c, (et A i).absent_is, (et A i).revived_is, (words A i).kept_is)

    sized : (e : Entry) → Mem e (writes_of (state_of A) r.points) → EntryFits e
    sized = written_sized (state_of A) 0 r.points v.rising

    -- the drop, by what was counted
    drops_is : drops (state_of A) r.points ≡ ltb A.N (length (whole (state_of A) r.points))
    drops_is = drops_whole (state_of A) r.points i.arranged.lawful.rising sized

    -- and the count is no larger
    count_small : count (state_of A) r.points ≤ length (whole (state_of A) r.points)
    count_small = count_whole (state_of A) r.points i.arranged.lawful.rising sized

  pub enough : h.kept + t.absent ≤ h.limit → RoomIs m kinds ks Enough
  unfolding room_in
  enough l A i r v ek ee =
      let x : length (whole (state_of A) r.points) ≤ A.N = omega (arith, whole_counted A i r v ek ee, (words A i).limit_is) in
      let y : count (state_of A) r.points ≤ A.N = omega (arith, count_small A i r v ek ee) in
      rw (le-ltb A.N (count (state_of A) r.points) y, drops_is A i r v ek ee, le-ltb A.N (length (whole (state_of A) r.points)) x)

  module _ (more : h.limit < h.kept + t.absent) where
    module _ (o : ℕ) (eo : (A : Arrangement) → Image m A → UpTo (h.kept + t.absent + t.revived - h.limit) (length (keep (old limit) (state_of A).kept)) o) where
      passes : (A : Arrangement) → Image m A → (r : Rec) → Valid r → kinds ≡ map kind_of r.points → ks ≡ map key_of r.points → drops (state_of A) r.points ≡ true
      passes A i r v ek ee = drops_is A i r v ek ee ∙ lt-ltb A.N (length (whole (state_of A) r.points)) (omega (arith, whole_counted A i r v ek ee, (words A i).limit_is))

      pub after_drop : h.kept + t.absent + t.revived - h.limit ≤ o → RoomIs m kinds ks AfterDrop
      unfolding room_in
      after_drop l A i r v ek ee =
          let x : count (state_of A) r.points ≤ A.N = omega (arith, count_counted A i r v ek ee, (eo A i).counted, (words A i).limit_is) in
          rw (le-ltb A.N (count (state_of A) r.points) x, passes A i r v ek ee)

      -- where there is no room every old tombstone was counted
      pub too_little : o < h.kept + t.absent + t.revived - h.limit → RoomIs m kinds ks (TooLittle (h.kept + t.absent + t.revived - o))
      unfolding room_in
      too_little l A i r v ek ee =
          let x : A.N < count (state_of A) r.points = omega (arith, count_counted A i r v ek ee, (eo A i).all l, (words A i).limit_is) in
          let c : h.kept + t.absent + t.revived - o ≡ count (state_of A) r.points = omega (arith, count_counted A i r v ek ee, (eo A i).all l) in
          rw (lt-ltb A.N (count (state_of A) r.points) x, c)
