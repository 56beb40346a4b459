-- One law for each return of `meld_lists`, and for what each of its calls asks.
-- Assumes nothing.
use Prim.Native.Nat.{ℕ, ◌+◌, ◌≤◌, ◌<◌}
use mathlib.Core.Path.{◌≡◌, refl, sym, ap, ◌∙◌, subst}
use mathlib.Core.Logic.{◌⊎◌, ⊎_elim}
use mathlib.Core.Option.{some}
use mathlib.Core.List.{List, Memᴰ as Mem}
use native.Mathlib.Omega.{arith}
use lib.ListN.{length, length-map}
use Rattle.record.specs.declared.answer.Answer.{Answer}
use Rattle.record.specs.declared.point.Point.{Point}
use Rattle.record.specs.declared.point.Scan.{Scan}
use Rattle.record.specs.Answer as Names
use Rattle.record.specs.Record.{Rec, kind_of, key_of, payload_of}
use Rattle.nodes.specs.declared.header.Header.{Header}
use Rattle.rules.specs.Lists.{keep}
use Rattle.rules.specs.State.{Entry, last_position}
use Rattle.rules.specs.Footprint.{reach, writes_of}
use Rattle.rules.specs.Verdict.{Verdict, committed, conflict, too_old, no_room, ahead, verdict_answer, store_all, young, verdict}
use Rattle.rules.specs.EntryFits.{EntryFits}
use Rattle.rules.proofs.Written.{written_sized}
use Rattle.rules.proofs.Counted.{row_three}
use Rattle.pool.specs.Image.{Arrangement, Image, Fit, state_of}
use Rattle.conflict_search.specs.Sorted.{Sorted, footprint}
use Rattle.conflict_search.proofs.Reach.{sorted_valid, footprint_reach}
use Rattle.drop.specs.Old.{stays}
use Rattle.drop.specs.Drop.{drop_in}
use Rattle.advance.specs.Moved.{moved_on}
use Rattle.drop.proofs.Olds.{keep_young}
use Rattle.judge.specs.declared.judged.Judged.{Judged}
use Rattle.judge.specs.Judged.{judged_of}
use Rattle.room.specs.declared.room.Room.{Room}
use Rattle.room.specs.declared.room.Room.TheVariants.{Enough, AfterDrop, TooLittle}
use Rattle.room.specs.Tally.{Settles}
use Rattle.room.proofs.Counts.{length_settled}
use Rattle.room.specs.Room.{said_by, room_in, RoomIs}
use Rattle.commit.specs.Applied.{writes_in, store_in}
use Rattle.commit.specs.Commit.{old_at, commit_in, commit_lean, Committable, all_kept, not_old}
use Rattle.meld.specs.After.{committed_in, left_in, after_in}
use Rattle.meld.specs.Lists.{Names as NamesOf, Meldable, MeldsLists}
use Rattle.meld.proofs.Settled.{settled_writes}
use Rattle.meld.proofs.Judging.{Stops, at_ahead, at_too_old, at_conflict, Decided, Open, decided, too_little, after_drop, enough}

module _ {m : List ℕ} {s : ℕ} {kinds ks xs ls hs : List ℕ} (pre : Meldable m s kinds ks xs ls hs) where
  -- WHAT THE CALLS ASK

  pub is_fit : Fit m
  is_fit = record { arrangement = pre.arrangement; image = pre.image }

  pub are_sorted : Sorted ks ls hs
  are_sorted =
      let n = pre.names in
      rw (n.keys_are, n.lows_are, n.highs_are) (sorted_valid n.valid)

  -- THE STATE

  -- a position is left in whatever arrangement the pool is the image of
  more : (A : Arrangement) → Image m A → A.p < last_position
  more A i = omega (arith, pre.left, ap (λ (h : Header). h.position) (sym i.header ∙ pre.image.header))

  print_is : (r : Rec) → NamesOf s kinds ks xs ls hs r → footprint ks ls hs ≡ reach r
  print_is r n = rw (n.keys_are, n.lows_are, n.highs_are) (footprint_reach r)

  module _ (j : Judged) (ej : (A : Arrangement) → Image m A → j ≡ judged_of (state_of A) s (footprint ks ls hs)) where
    -- rows 5, 2 and 1 have decided, or row 3 is left
    way : (A : Arrangement) → Image m A → (r : Rec) → NamesOf s kinds ks xs ls hs r → Decided (state_of A) r j ⊎ Open (state_of A) r j
    way A i r n =
        decided (state_of A) r (more A i) j
        (ej A i ∙ ap (λ (q : ℕ). judged_of (state_of A) q (footprint ks ls hs)) n.snapshot_is ∙ ap (λ (f : List Scan). judged_of (state_of A) r.snapshot f) (print_is r n))

    -- A REFUSAL

    stays_put : (A : Arrangement) (ps : List Point) (v : Verdict) → Stops v → left_in A ps v ≡ moved_on A
    stays_put A ps Rattle.rules.specs.Verdict.malformed x3 = elim x3 [ ]
    stays_put A ps Rattle.rules.specs.Verdict.positions_used_up x4 = elim x4 [ ]
    stays_put A ps committed x' = elim x' [ ]
    stays_put A ps no_room x'' = elim x'' [ ]
    stays_put A ps ahead at_ahead = refl
    stays_put A ps too_old at_too_old = refl
    stays_put A ps conflict at_conflict = refl

    pub refusal_melds : (m' : List ℕ) → (j.answer.number ≡ 0 → ⊥) → ((A : Arrangement) → Image m A → Image m' (moved_on A)) → MeldsLists m s kinds ks xs ls hs m' (record { answer = j.answer; looks = j.looks })
    unfolding after_in
    refusal_melds m' d moved A i r n = ⊎_elim
        (λ (x : Decided (state_of A) r j). record {
          verdict_is = rw (x.answer_is, x.looks_is, x.is);
          leaves = rw (x.is, stays_put A r.points x.v x.stops) (moved A i);
        })
        (λ (x : Open (state_of A) r j). absurd (d (ap (λ (a : Answer). a.number) x.answer_is)))
        (way A i r n)

    -- ROW 3

    module _ (zero : j.answer.number ≡ 0) where
      open_way : (A : Arrangement) → Image m A → (r : Rec) → NamesOf s kinds ks xs ls hs r → Open (state_of A) r j
      open_way A i r n = ⊎_elim (λ (x : Decided (state_of A) r j). absurd (not_zero x.v x.stops (sym (ap (λ (a : Answer). a.number) x.answer_is) ∙ zero))) (λ x. x) (way A i r n)
        where
          not_zero : (v : Verdict) → Stops v → (verdict_answer v).number ≡ 0 → ⊥
          not_zero Rattle.rules.specs.Verdict.malformed x4 e = elim x4 [ ]
          not_zero Rattle.rules.specs.Verdict.positions_used_up x5 e = elim x5 [ ]
          not_zero committed x'' e = elim x'' [ ]
          not_zero no_room x3 e = elim x3 [ ]
          not_zero ahead at_ahead e = omega arith
          not_zero too_old at_too_old e = omega arith
          not_zero conflict at_conflict e = omega arith

      module _ (a : Room) (ea : RoomIs m kinds ks a) (kinds' : List ℕ) (settles : Settles m kinds ks kinds') where
        room_is : (A : Arrangement) → Image m A → (r : Rec) → NamesOf s kinds ks xs ls hs r → (b : Room) → a ≡ b → said_by b ≡ room_in (state_of A) r.points
        room_is A i r n b e = ap said_by (sym e) ∙ ea A i r n.valid n.kinds_are n.keys_are

        pub no_room_lem : (m' : List ℕ) (k : ℕ) → a ≡ TooLittle k → ((A : Arrangement) → Image m A → Image m' (moved_on A)) → MeldsLists m s kinds ks xs ls hs m' (record { answer = Names.no_room; looks = j.looks })
        unfolding after_in
        no_room_lem m' k e moved A i r n =
            let x = open_way A i r n in
            let t = too_little (state_of A) r k (room_is A i r n (TooLittle k) e) in
            let v : verdict (state_of A) (some r) ≡ no_room = x.is ∙ rw t.over in
            record { verdict_is = rw (x.looks_is, v); leaves = rw v (moved A i) }

        -- what the settled lists store is what the record writes
        writes_are : (A : Arrangement) → Image m A → (r : Rec) → NamesOf s kinds ks xs ls hs r → writes_in (A.p + 1) kinds' ks xs ≡ writes_of (state_of A) r.points
        writes_are A i r n = rw (settles A i, n.kinds_are, n.keys_are, n.payloads_are) (settled_writes (state_of A) r.points)

        sized : (A : Arrangement) → Image m A → (r : Rec) → NamesOf s kinds ks xs ls hs r → (e : Entry) → Mem e (writes_in (A.p + 1) kinds' ks xs) → EntryFits e
        sized A i r n e w = written_sized (state_of A) 0 r.points n.valid.rising e (subst (λ (ws : List Entry). Mem e ws) (writes_are A i r n) w)

        as_keys : length ks ≡ length kinds
        as_keys = let n = pre.names in rw (n.keys_are, n.kinds_are) (length-map pre.r.points key_of ∙ sym (length-map pre.r.points kind_of))

        as_payloads : length xs ≡ length kinds
        as_payloads = let n = pre.names in rw (n.payloads_are, n.kinds_are) (length-map pre.r.points payload_of ∙ sym (length-map pre.r.points kind_of))

        as_settled : length kinds' ≡ length kinds
        as_settled = ap length (settles pre.arrangement pre.image) ∙ length_settled kinds ks (state_of pre.arrangement).kept (sym as_keys)

        -- NOTHING DROPPED

        pub asks_writes : a ≡ Enough → Committable m kinds' ks xs all_kept
        asks_writes e =
            let A = pre.arrangement in
            let n = pre.names in
            let f = enough (state_of A) pre.r pre.image.arranged.lawful n.valid (room_is A pre.image pre.r n Enough e) in
            record {
              arrangement = A;
              image = pre.image;
              left = pre.left;
              as_many_keys = as_keys ∙ sym as_settled;
              as_many_payloads = as_payloads ∙ sym as_settled;
              sized = sized A pre.image pre.r n;
              room = subst (λ (ws : List Entry). length (store_all ws (state_of A).kept) ≤ A.N) (sym (writes_are A pre.image pre.r n)) f.fits;
            }

        pub whole_melds : (m' : List ℕ) → a ≡ Enough → ((A : Arrangement) → Image m A → Image m' (commit_in kinds' ks xs A)) → MeldsLists m s kinds ks xs ls hs m' (record { answer = Names.committed; looks = j.looks })
        unfolding after_in committed_in
        whole_melds m' e left A i r n =
            let x = open_way A i r n in
            let f = enough (state_of A) r i.arranged.lawful n.valid (room_is A i r n Enough e) in
            let v : verdict (state_of A) (some r) ≡ committed = x.is ∙ rw f.tested in
            let l : Image m' (store_in (moved_on A) (writes_of (state_of A) r.points)) = subst (λ (ws : List Entry). Image m' (store_in (moved_on A) ws)) (writes_are A i r n) (left A i) in
            record { verdict_is = rw (x.looks_is, v); leaves = rw (v, f.under) l }

        -- THE OLD TOMBSTONES DROPPED FIRST

        lean_is : (A : Arrangement) → Image m A → keep (stays (old_at A)) (state_of A).kept ≡ keep (young A.Z (A.p + 1)) (state_of A).kept
        lean_is A i = sym (keep_young A.Z (A.p + 1) (state_of A).kept (λ e w. (i.arranged.lawful.positions e w).0))

        pub asks_lean : a ≡ AfterDrop → Committable m kinds' ks xs not_old
        asks_lean e =
            let A = pre.arrangement in
            let n = pre.names in
            let f = after_drop (state_of A) pre.r (room_is A pre.image pre.r n AfterDrop e) in
            let c : length (store_all (writes_of (state_of A) pre.r.points) (keep (stays (old_at A)) (state_of A).kept)) ≤ A.N = rw (lean_is A pre.image) (omega (arith, f.fits, row_three pre.image.arranged.lawful n.valid)) in
            record {
              arrangement = A;
              image = pre.image;
              left = pre.left;
              as_many_keys = as_keys ∙ sym as_settled;
              as_many_payloads = as_payloads ∙ sym as_settled;
              sized = sized A pre.image pre.r n;
              room = subst (λ (ws : List Entry). length (store_all ws (keep (stays (old_at A)) (state_of A).kept)) ≤ A.N) (sym (writes_are A pre.image pre.r n)) c;
            }

        pub lean_melds : (m' : List ℕ) → a ≡ AfterDrop → ((A : Arrangement) → Image m A → Image m' (commit_lean kinds' ks xs A)) → MeldsLists m s kinds ks xs ls hs m' (record { answer = Names.committed; looks = j.looks })
        unfolding after_in committed_in
        lean_melds m' e left A i r n =
            let x = open_way A i r n in
            let f = after_drop (state_of A) r (room_is A i r n AfterDrop e) in
            let v : verdict (state_of A) (some r) ≡ committed = x.is ∙ rw f.tested in
            let l : Image m' (store_in (drop_in (old_at A) (moved_on A)) (writes_of (state_of A) r.points)) = subst (λ (ws : List Entry). Image m' (store_in (drop_in (old_at A) (moved_on A)) ws)) (writes_are A i r n) (left A i) in
            record { verdict_is = rw (x.looks_is, v); leaves = rw (v, f.over) l }
