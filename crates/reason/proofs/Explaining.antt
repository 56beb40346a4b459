-- One law for each return of `blame` and `explain_lists`, and for what their calls ask.
-- Assumes nothing.
use Prim.Native.Nat.{ℕ, ◌-◌, ◌≤◌, ◌<◌}
use mathlib.Core.Path.{◌≡◌, refl, sym, ap, ◌∙◌, subst}
use mathlib.Core.Logic.{◌⊎◌, ⊎_elim}
use mathlib.Core.Bool.{Bool, true, false}
use mathlib.Core.Option.{some}
use mathlib.Core.List.{List}
use native.Mathlib.Omega.{arith}
use lib.Dec.{T, ltb}
use borrow.Author.Tests.{ltb-false}
use Rattle.record.specs.declared.answer.Answer.{Answer}
use Rattle.record.specs.declared.point.Scan.{Scan}
use Rattle.record.specs.Answer as Numbers
use Rattle.record.specs.Record.{Rec}
use Rattle.std.specs.Prelude.{if◌then◌else◌, Some, None}
use Rattle.std.proofs.lemmas.Option.{none-some, same_Some}
use Rattle.nodes.specs.declared.header.Header.{Header}
use Rattle.nodes.specs.declared.node.Node.{Node}
use Rattle.nodes.specs.Nodes.{header_at, node_at}
use Rattle.rules.specs.State.{Entry, State, last_position}
use Rattle.rules.specs.Demands.{Reaches}
use Rattle.rules.specs.Footprint.{reach}
use Rattle.rules.specs.Verdict.{Verdict, committed, conflict, too_old, no_room, malformed, ahead, positions_used_up, verdict_answer, hits, conflicts_at, refusal_or, verdict, count}
use Rattle.rules.specs.Tree.{looks_of}
use Rattle.rules.proofs.Reach.{of_hits, hits_of, meets_reaches, reaches_meets}
use Rattle.pool.specs.Image.{Arrangement, Image, Fit, state_of}
use Rattle.conflict_search.specs.Sorted.{Sorted, footprint}
use Rattle.conflict_search.specs.Smallest.{NamedLeaf}
use Rattle.conflict_search.proofs.Reach.{sorted_valid, footprint_reach}
use Rattle.judge.specs.declared.judged.Named.{Named}
use Rattle.judge.specs.Judged.{judged_of, named_in}
use Rattle.judge.proofs.NamedLaws.{one_is_conflict, named_smallest, named_conflict}
use Rattle.room.specs.declared.room.Room.{Room}
use Rattle.room.specs.declared.room.Room.TheVariants.{Enough, AfterDrop, TooLittle}
use Rattle.room.specs.Room.{said_by, room_in, RoomIs}
use Rattle.meld.specs.Lists.{Names}
use Rattle.meld.proofs.Judging.{Stops, at_ahead, at_too_old, at_conflict, Decided, Open, decided, too_little, after_drop, enough}
use Rattle.reason.specs.declared.told.Touch.{Touch}
use Rattle.reason.specs.declared.told.Reason.{Reason}
use Rattle.reason.specs.declared.told.Reason.TheVariants.{Nothing, Conflict, TooOld, NoRoom}
use Rattle.reason.specs.Reason.{InConflict, reason_told, TouchedBy, ReasonFor, ExplainsAs}
use Rattle.reason.specs.Steps.{plainly, TouchLists, TouchIs, Blamable, BlameIs, Explainable, ExplainsLists}

-- BLAME

-- what is hit is in conflict, and the reverse
hit_reaches : (r : Rec) (e : Entry) → T (hits r.snapshot (reach r) e) → (r.snapshot < e.position) × Reaches r e.key
hit_reaches r e t = let x = of_hits r.snapshot (reach r) e t in (x.0, meets_reaches r e.key x.1)

reaches_hit : {S : State} (r : Rec) (e : Entry) → InConflict S r e → T (hits r.snapshot (reach r) e)
reaches_hit r e c = hits_of r.snapshot (reach r) e c.above (reaches_meets r e.key c.reached)

module _ (m : List ℕ) (i : ℕ) (keys highs : List ℕ) where
  pub blames : (n : Node) → n ≡ node_at m i → (t : Touch) → TouchIs keys highs n.low t → BlameIs m i keys highs (Conflict n.low n.newest t)
  blames n en t touches A im r l named =
      let e = named.entry in
      let k : n.low ≡ e.key = ap (λ (x : Node). x.low) en ∙ named.key_is in
      let w : n.newest ≡ e.position = ap (λ (x : Node). x.newest) en ∙ named.position_is in
      let h = hit_reaches r e named.smallest.hit in
      record {
        e = e;
        smallest = record {
          in_conflict = record { kept = named.smallest.kept; above = h.0; reached = h.1 };
          least = λ e' c. named.smallest.least e' c.kept (reaches_hit r e' c);
        };
        touch = t;
        touched = subst (λ (x : ℕ). TouchedBy r x t) k (touches r l (subst (Reaches r) (sym k) h.1));
        tells = rw (k, w);
      }

-- THE NUMBERS

two_is_too_old : (v : Verdict) → (verdict_answer v).number ≡ 2 → v ≡ too_old
two_is_too_old committed e = absurd (omega arith)
two_is_too_old conflict e = absurd (omega arith)
two_is_too_old too_old e = refl
two_is_too_old no_room e = absurd (omega arith)
two_is_too_old malformed e = absurd (omega arith)
two_is_too_old ahead e = absurd (omega arith)
two_is_too_old positions_used_up e = absurd (omega arith)

-- rows 5, 2 and 1 say too old only of a snapshot that is not ahead
not_ahead : (S : State) (s : ℕ) (f : List Scan) → (verdict_answer (refusal_or S s f committed)).number ≡ 2 → s ≤ S.p
unfolding refusal_or
not_ahead S s f e = go (ltb S.p s) (ltb S.Z (S.p - s)) (conflicts_at S s f) refl e
  where
    go : (a b c : Bool) → ltb S.p s ≡ a → (verdict_answer (if a then ahead else if b then too_old else if c then conflict else committed)).number ≡ 2 → s ≤ S.p
    go true b c q h = absurd (omega arith)
    go false b c q h = ltb-false S.p s q

-- THE LISTS

-- an answer with the rules' verdict, looks and reason
as_ruled : (S : State) (r : Rec) (v : Verdict) (a : Answer) (n : ℕ) (x : Reason) → verdict S (some r) ≡ v → a ≡ verdict_answer v → n ≡ looks_of S (some r) → ReasonFor S r x v
    → ExplainsAs S (some r) (record { answer = a; looks = n; reason = x })
as_ruled S r v a n x is answer_is looks_is reason =
    record { as_melded = rw (is, answer_is, looks_is); true_reason = subst (ReasonFor S r x) (sym is) reason }

module _ {m : List ℕ} {s : ℕ} {kinds ks ls hs : List ℕ} (pre : Explainable m s kinds ks ls hs) where
  pub is_fit : Fit m
  is_fit = record { arrangement = pre.arrangement; image = pre.image }

  pub are_sorted : Sorted ks ls hs
  are_sorted = let n = pre.names in rw (n.keys_are, n.lows_are, n.highs_are) (sorted_valid n.valid)

  -- a position is left in whatever arrangement the pool is the image of
  more : (A : Arrangement) → Image m A → A.p < last_position
  more A i = omega (arith, pre.left, ap (λ (h : Header). h.position) (sym i.header ∙ pre.image.header))

  touch_lists : (r : Rec) (xs : List ℕ) → Names s kinds ks xs ls hs r → TouchLists ks hs r
  touch_lists r xs n = record { valid = n.valid; keys_are = n.keys_are; highs_are = n.highs_are }

  print_is : (r : Rec) (xs : List ℕ) → Names s kinds ks xs ls hs r → footprint ks ls hs ≡ reach r
  print_is r xs n = rw (n.keys_are, n.lows_are, n.highs_are) (footprint_reach r)

  module _ (x : Named) (ex : (A : Arrangement) → Image m A → x ≡ named_in A s (footprint ks ls hs)) where
    -- for a record of the lists
    as_named : (A : Arrangement) → Image m A → (r : Rec) (xs : List ℕ) → Names s kinds ks xs ls hs r → x ≡ named_in A r.snapshot (reach r)
    as_named A i r xs n = ex A i ∙ ap (λ (q : ℕ). named_in A q (footprint ks ls hs)) n.snapshot_is ∙ ap (named_in A r.snapshot) (print_is r xs n)

    -- rows 5, 2 and 1 have decided, or row 3 is left
    way : (A : Arrangement) → Image m A → (r : Rec) (xs : List ℕ) → Names s kinds ks xs ls hs r → Decided (state_of A) r x.judged ⊎ Open (state_of A) r x.judged
    unfolding named_in
    way A i r xs n = decided (state_of A) r (more A i) x.judged (ap (λ (y : Named). y.judged) (as_named A i r xs n))

    -- a leaf is named only with answer 1
    leaf_one : (leaf : ℕ) → x.leaf ≡ Some leaf → x.judged.answer.number ≡ 1
    leaf_one leaf e = named_conflict m s (footprint ks ls hs) x ex leaf e pre.arrangement pre.image

    -- and with answer 1 a leaf is named
    not_one : x.leaf ≡ None → x.judged.answer.number ≡ 1 → ⊥
    not_one e one = let w = named_smallest m s (footprint ks ls hs) x ex one pre.arrangement pre.image in none-some w.0 (sym e ∙ w.1)

    -- the search's leaf, for a record of the lists
    leaf_named : (leaf : ℕ) → x.leaf ≡ Some leaf → (A : Arrangement) → Image m A → (r : Rec) (xs : List ℕ) → Names s kinds ks xs ls hs r → NamedLeaf m A r.snapshot (reach r) leaf
    leaf_named leaf e A i r xs n =
        let w = named_smallest m s (footprint ks ls hs) x ex (leaf_one leaf e) A i in
        subst (λ (q : ℕ). NamedLeaf m A q (reach r) leaf) n.snapshot_is
        (subst (λ (f : List Scan). NamedLeaf m A s f leaf) (print_is r xs n) (subst (NamedLeaf m A s (footprint ks ls hs)) (same_Some w.0 leaf (sym w.1 ∙ e)) w.2))

    -- CONFLICT

    pub is_blamable : (leaf : ℕ) → x.leaf ≡ Some leaf → Blamable m leaf ks hs
    is_blamable leaf e = record {
      arrangement = pre.arrangement;
      image = pre.image;
      r = pre.r;
      lists = touch_lists pre.r pre.xs pre.names;
      named = leaf_named leaf e pre.arrangement pre.image pre.r pre.xs pre.names;
    }

    -- what has stopped with a number is the verdict of that number
    stopped : (A : Arrangement) → Image m A → (r : Rec) (xs : List ℕ) → Names s kinds ks xs ls hs r → (x.judged.answer.number ≡ 0 → ⊥) → Decided (state_of A) r x.judged
    stopped A i r xs n d = ⊎_elim (λ z. z) (λ (z : Open (state_of A) r x.judged). absurd (d (ap (λ (a : Answer). a.number) z.answer_is))) (way A i r xs n)

    number_of : (S : State) (r : Rec) (z : Decided S r x.judged) → (verdict_answer z.v).number ≡ x.judged.answer.number
    number_of S r z = sym (ap (λ (a : Answer). a.number) z.answer_is)

    pub conflict_explained : (leaf : ℕ) → x.leaf ≡ Some leaf → (y : Reason) → BlameIs m leaf ks hs y
        → ExplainsLists m s kinds ks ls hs (record { answer = x.judged.answer; looks = x.judged.looks; reason = y })
    conflict_explained leaf e y b A i r xs n =
        let one = leaf_one leaf e in
        let z = stopped A i r xs n (λ e. omega arith) in
        let v = one_is_conflict z.v (number_of (state_of A) r z ∙ one) in
        as_ruled (state_of A) r conflict x.judged.answer x.judged.looks y (z.is ∙ v) (z.answer_is ∙ ap verdict_answer v) z.looks_is
        (b A i r (touch_lists r xs n) (leaf_named leaf e A i r xs n))

    -- TOO OLD

    module _ (h : Header) (eh : h ≡ header_at m) where
      position_is : (A : Arrangement) → Image m A → h.position ≡ A.p
      position_is A i = ap (λ (z : Header). z.position) (eh ∙ i.header)

      pub lag_fits : x.judged.answer.number ≡ 2 → s ≤ h.position
      unfolding named_in judged_of
      lag_fits two =
          let A = pre.arrangement in
          omega (arith, position_is A pre.image, not_ahead (state_of A) s (footprint ks ls hs) (sym (ap (λ (z : Named). z.judged.answer.number) (ex A pre.image)) ∙ two))

      pub old_explained : x.judged.answer.number ≡ 2
          → ExplainsLists m s kinds ks ls hs (record { answer = x.judged.answer; looks = x.judged.looks; reason = TooOld (h.position - s) })
      old_explained two A i r xs n =
          let z = stopped A i r xs n (λ e. omega arith) in
          let v = two_is_too_old z.v (number_of (state_of A) r z ∙ two) in
          let lag : h.position - s ≡ A.p - r.snapshot = omega (arith, position_is A i, n.snapshot_is) in
          as_ruled (state_of A) r too_old x.judged.answer x.judged.looks (TooOld (h.position - s)) (z.is ∙ v) (z.answer_is ∙ ap verdict_answer v) z.looks_is
          (ap (λ (q : ℕ). reason_told (TooOld q)) lag)

    -- AHEAD

    pub ahead_explained : x.leaf ≡ None → (x.judged.answer.number ≡ 2 → ⊥) → (x.judged.answer.number ≡ 0 → ⊥)
        → ExplainsLists m s kinds ks ls hs (plainly x.judged.answer x.judged.looks)
    ahead_explained none d2 d0 A i r xs n =
        let z = stopped A i r xs n d0 in
        let v = only_ahead z.v z.stops (λ e. not_one none (sym (number_of (state_of A) r z) ∙ e)) (λ e. d2 (sym (number_of (state_of A) r z) ∙ e)) in
        as_ruled (state_of A) r ahead x.judged.answer x.judged.looks Nothing (z.is ∙ v) (z.answer_is ∙ ap verdict_answer v) z.looks_is refl
      where
        only_ahead : (v : Verdict) → Stops v → ((verdict_answer v).number ≡ 1 → ⊥) → ((verdict_answer v).number ≡ 2 → ⊥) → v ≡ ahead
        only_ahead committed x4 a b = elim x4 [ ]
        only_ahead malformed x6 a b = elim x6 [ ]
        only_ahead no_room x5 a b = elim x5 [ ]
        only_ahead positions_used_up x7 a b = elim x7 [ ]
        only_ahead ahead at_ahead a b = refl
        only_ahead too_old at_too_old a b = absurd (b refl)
        only_ahead conflict at_conflict a b = absurd (a refl)

    -- ROW 3

    module _ (zero : x.judged.answer.number ≡ 0) (a : Room) (ea : RoomIs m kinds ks a) where
      open_way : (A : Arrangement) → Image m A → (r : Rec) (xs : List ℕ) → Names s kinds ks xs ls hs r → Open (state_of A) r x.judged
      open_way A i r xs n = ⊎_elim (λ (z : Decided (state_of A) r x.judged). absurd (not_zero z.v z.stops (number_of (state_of A) r z ∙ zero))) (λ z. z) (way A i r xs n)
        where
          not_zero : (v : Verdict) → Stops v → (verdict_answer v).number ≡ 0 → ⊥
          not_zero committed x3 e = elim x3 [ ]
          not_zero malformed x5 e = elim x5 [ ]
          not_zero no_room x4 e = elim x4 [ ]
          not_zero positions_used_up x6 e = elim x6 [ ]
          not_zero ahead at_ahead e = omega arith
          not_zero too_old at_too_old e = omega arith
          not_zero conflict at_conflict e = omega arith

      room_is : (A : Arrangement) → Image m A → (r : Rec) (xs : List ℕ) → Names s kinds ks xs ls hs r → (b : Room) → a ≡ b → said_by b ≡ room_in (state_of A) r.points
      room_is A i r xs n b e = ap said_by (sym e) ∙ ea A i r n.valid n.kinds_are n.keys_are

      pub crowded_explained : (k : ℕ) → a ≡ TooLittle k → ExplainsLists m s kinds ks ls hs (record { answer = Numbers.no_room; looks = x.judged.looks; reason = NoRoom k })
      crowded_explained k e A i r xs n =
          let z = open_way A i r xs n in
          let t = too_little (state_of A) r k (room_is A i r xs n (TooLittle k) e) in
          as_ruled (state_of A) r no_room Numbers.no_room x.judged.looks (NoRoom k) (z.is ∙ rw t.over) refl z.looks_is (ap (λ (q : ℕ). reason_told (NoRoom q)) t.counted)

      committed_explained : (A : Arrangement) (i : Image m A) (r : Rec) (xs : List ℕ) (n : Names s kinds ks xs ls hs r) → ltb A.N (count (state_of A) r.points) ≡ false
          → ExplainsAs (state_of A) (some r) (plainly x.judged.answer x.judged.looks)
      committed_explained A i r xs n t =
          let z = open_way A i r xs n in
          as_ruled (state_of A) r committed x.judged.answer x.judged.looks Nothing (z.is ∙ rw t) z.answer_is z.looks_is refl

      pub lean_explained : a ≡ AfterDrop → ExplainsLists m s kinds ks ls hs (plainly x.judged.answer x.judged.looks)
      lean_explained e A i r xs n = committed_explained A i r xs n (after_drop (state_of A) r (room_is A i r xs n AfterDrop e)).tested

      pub whole_explained : a ≡ Enough → ExplainsLists m s kinds ks ls hs (plainly x.judged.answer x.judged.looks)
      whole_explained e A i r xs n = committed_explained A i r xs n (enough (state_of A) r i.arranged.lawful n.valid (room_is A i r xs n Enough e)).tested
