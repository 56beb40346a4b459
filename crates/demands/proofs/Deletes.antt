-- Deleting nothing is nothing, on bytes (R22): a delete of a key under which a lookup finds nothing does what a read of it does.
-- The idea: what a record names is the same for both, and neither writes; the verdict, the looks and the arrangement go by what is named, scanned and
-- written.
-- Assumes nothing.
use Prim.Native.Nat.{ℕ, ◌+◌, ◌-◌}
use native.Mathlib.Omega.{arith}
use mathlib.Core.Path.{◌≡◌, refl, sym, ap, ◌∙◌, subst}
use mathlib.Core.Bool.{Bool, true, false}
use mathlib.Core.Option.{Option, none, some}
use mathlib.Core.List.{List, [], ◌∷◌, ◌++◌, map, Memᴰ as Mem}
use lib.Dec.{ltb, leb}
use Rattle.words.specs.Word.{Bytes}
use Rattle.std.specs.Prelude.{if◌then◌else◌}
use Rattle.record.specs.declared.answer.Answer.{Answer}
use Rattle.record.specs.declared.point.Point.{Point}
use Rattle.record.specs.declared.point.Point.TheVariants.{Read, Put, Delete}
use Rattle.record.specs.declared.point.Scan.{Scan}
use Rattle.record.specs.Answer as Names
use Rattle.record.specs.Record.{Rec}
use Rattle.record.specs.Parse.{parse, head_ok, first_point}
use Rattle.rules.specs.Lists.{keep}
use Rattle.rules.specs.State.{last_position}
use Rattle.rules.specs.Footprint.{named, reach, stored_at, live_at, writes, writes_of}
use Rattle.rules.specs.Lookup.{Seen, absent, found, find, lookup}
use Rattle.rules.specs.Verdict.{Verdict, committed, conflict, too_old, no_room, malformed, ahead, positions_used_up, verdict_answer, conflicts, drops, count, refusal_or, judge, verdict}
use Rattle.rules.proofs.Tests.{no_lt}
use Rattle.rules.proofs.Deleting.{drops_by, verdict_by, looks_by, absent_dead, nothing_written, room_for_nothing, nothing_dropped}
use Rattle.pool.specs.Image.{Arrangement, Image, Fit, state_of}
use Rattle.pool.proofs.Fixed.{one_image}
use Rattle.fit.proofs.Decided.{fit_or_not}
use Rattle.drop.specs.Drop.{drop_in}
use Rattle.advance.specs.Moved.{moved_on}
use Rattle.commit.specs.Applied.{store_in}
use Rattle.commit.specs.Commit.{old_at}
use Rattle.meld.specs.declared.melding.Melded.{Melded}
use Rattle.meld.specs.declared.kept.Lookup.TheVariants.{Absent}
use Rattle.meld.specs.After.{committed_in, left_in, after_in}
use Rattle.meld.specs.Lookups.{LookupTold, lookup_told, lookup_of, LooksUp}
use Rattle.meld.specs.Melds.{Melds, melded_of}
use Rattle.demands.specs.Deletes.{as_it_was, read_it, ReadsInstead, DeletesRead, DeletesNothing}

-- a key under which a lookup finds nothing is not live
not_live : (m : List ℕ) (k : ℕ) → LooksUp m k Absent → (A : Arrangement) → Image m A → live_at (find k (state_of A).kept) ≡ false
not_live m k l A i = absent_dead (state_of A) k (go (lookup k (state_of A)) (l.fit A i))
  where
    go : (s : Seen) → lookup_told Absent ≡ lookup_told (lookup_of s) → s ≡ absent
    go absent h = refl
    go (found x w) h = let d : ◌≡◌ {A = Option ℕ} none (some x) = ap (λ (t : LookupTold). t.payload) h in let z : ◌≡◌ {A = ℕ} 0 1 = cc in absurd (omega arith)

module _ (m : List ℕ) (A : Arrangement) (i : Image m A) where
  -- they name the same
  same_names : {ps ps' : List Point} → ReadsInstead m ps ps' → map named ps' ≡ map named ps
  same_names ReadsInstead.none_left = refl
  same_names (ReadsInstead.one_more (as_it_was {q = q}) h) = ap (λ (cs : List Scan). named q ∷ cs) (same_names h)
  same_names (ReadsInstead.one_more (read_it {k = k} l) h) = ap (λ (cs : List Scan). named (Read k) ∷ cs) (same_names h)

  -- and write the same
  same_writers : {ps ps' : List Point} → ReadsInstead m ps ps' → keep (writes (state_of A)) ps' ≡ keep (writes (state_of A)) ps
  same_writers ReadsInstead.none_left = refl
  same_writers (ReadsInstead.one_more (as_it_was {q = q}) h) = rw (same_writers h)
  same_writers (ReadsInstead.one_more (read_it {k = k} l) h) = rw (not_live m k l A i) (same_writers h)

  same_writes : {ps ps' : List Point} → ReadsInstead m ps ps' → writes_of (state_of A) ps' ≡ writes_of (state_of A) ps
  unfolding writes_of
  same_writes h = ap (stored_at (A.p + 1)) (same_writers h)

-- a record leaves what its verdict and its writes leave
same_left : (A : Arrangement) (ps ps' : List Point) (v : Verdict) → writes_of (state_of A) ps' ≡ writes_of (state_of A) ps → left_in A ps' v ≡ left_in A ps v
unfolding committed_in
same_left A ps ps' committed e =
    ap (λ (b : Bool). store_in (if b then drop_in (old_at A) (moved_on A) else moved_on A) (writes_of (state_of A) ps')) (drops_by (state_of A) ps ps' e)
    ∙ ap (store_in (if drops (state_of A) ps then drop_in (old_at A) (moved_on A) else moved_on A)) e
same_left A ps ps' conflict e = refl
same_left A ps ps' too_old e = refl
same_left A ps ps' no_room e = refl
same_left A ps ps' malformed e = refl
same_left A ps ps' ahead e = refl
same_left A ps ps' positions_used_up e = refl

-- R22: with reads in place of deletes of keys under which a lookup finds nothing, melding gives the same answer, the same looks and the same bytes, in
-- any pool
pub deleting_nothing : (m bytes bytes' m₁ m₂ : List ℕ) (a b : Melded) → Bytes m → DeletesRead m bytes bytes' → Melds m bytes m₁ a → Melds m bytes' m₂ b → (a ≡ b) × (m₁ ≡ m₂)
unfolding after_in reach
deleting_nothing m bytes bytes' m₁ m₂ a b lent d p q = go (fit_or_not m lent)
  where
    go : Dec (Fit m) → (a ≡ b) × (m₁ ≡ m₂)
    go (no n) = ((p.unfit n).unfit_is ∙ sym (q.unfit n).unfit_is, (p.unfit n).unchanged ∙ sym (q.unfit n).unchanged)
    go (yes f) =
        let A = f.arrangement in
        let S = state_of A in
        let x = p.fit A f.image in
        let y = q.fit A f.image in
        let reaches : reach d.r' ≡ reach d.r = ap (λ (cs : List Scan). cs ++ d.r'.scans) (same_names m A f.image d.points) ∙ ap (λ (cs : List Scan). map named d.r.points ++ cs) d.same_scans in
        let ws = same_writes m A f.image d.points in
        let v = verdict_by S d.r d.r' d.same_snapshot reaches ws in
        let n = looks_by S d.r d.r' d.same_snapshot reaches ws in
        let told : melded_of S (some d.r') ≡ melded_of S (some d.r) = rw (v, n) in
        let leaves : after_in A (some d.r') ≡ after_in A (some d.r) = ap (left_in A d.r'.points) v ∙ same_left A d.r.points d.r'.points (verdict S (some d.r)) ws in
        let one : Image m₁ (after_in A (some d.r)) = subst (λ (o : Option Rec). Image m₁ (after_in A o)) d.first x.leaves in
        let two : Image m₂ (after_in A (some d.r)) = subst (Image m₂) leaves (subst (λ (o : Option Rec). Image m₂ (after_in A o)) d.second y.leaves) in (
          x.verdict_is ∙ ap (melded_of S) d.first ∙ sym (y.verdict_is ∙ ap (melded_of S) d.second ∙ told),
          one_image m₁ m₂ (after_in A (some d.r)) one two,
        )

-- A RECORD THAT ONLY DELETES NOTHING

module _ (A : Arrangement) (ps : List Point) (nothing : writes_of (state_of A) ps ≡ []) (kept : drops (state_of A) ps ≡ false) where
  -- whatever it is answered, but for 6, only the position moves
  only_moves : (a b c d : Bool) → left_in A ps (if a then ahead else (if b then too_old else (if c then conflict else (if d then no_room else committed)))) ≡ moved_on A
  unfolding committed_in store_in
  only_moves true b c d = refl
  only_moves false true c d = refl
  only_moves false false true d = refl
  only_moves false false false true = refl
  only_moves false false false false = rw (kept, nothing)

-- with room there is no 3
never_three : (u a b c : Bool) → (verdict_answer (if u then positions_used_up else (if a then ahead else (if b then too_old else (if c then conflict else committed))))).number ≡ 3 → ⊥
never_three true a b c e = omega arith
never_three false true b c e = omega arith
never_three false false true c e = omega arith
never_three false false false true e = omega arith
never_three false false false false e = omega arith

-- R22: a record that puts nothing and deletes only keys under which a lookup finds nothing is never answered 3, and leaves the bytes that a malformed record
-- leaves, no bytes at all
pub cleaning_leaves_all : (m bytes m₁ m₂ : List ℕ) (a b : Melded) → Bytes m → DeletesNothing m bytes → Melds m bytes m₁ a → Melds m [] m₂ b → (a.answer ≡ Names.no_room → ⊥) × (m₁ ≡ m₂)
unfolding after_in verdict judge refusal_or parse head_ok first_point
cleaning_leaves_all m bytes m₁ m₂ a b lent d p q = go (fit_or_not m lent)
  where
    go : Dec (Fit m) → (a.answer ≡ Names.no_room → ⊥) × (m₁ ≡ m₂)
    go (no n) = (
      λ e. omega (arith, ap (λ (x : Answer). x.number) (sym (ap (λ (x : Melded). x.answer) (p.unfit n).unfit_is) ∙ e)),
      (p.unfit n).unchanged ∙ sym (q.unfit n).unchanged,
    )
    go (yes f) =
        let A = f.arrangement in
        let S = state_of A in
        let r = d.r in
        let x = p.fit A f.image in
        let y = q.fit A f.image in
        let l = f.image.arranged.lawful in
        let silent : (z : Point) → Mem z r.points → writes S z ≡ false = elim [
          | Read k ↦ λ i. refl
          | Put k w ↦ λ i. absurd (d.no_put k w i)
          | Delete k ↦ λ i. not_live m k (d.no_live k i) A f.image
        ] in
        let nothing = nothing_written S r.points silent in
        let room : ltb S.N (count S r.points) ≡ false = no_lt {a = S.N} {b = count S r.points} (room_for_nothing r.points l nothing) in
        let said : a.answer ≡ verdict_answer (verdict S (some r)) = ap (λ (z : Melded). z.answer) (x.verdict_is ∙ ap (melded_of S) d.is) in
        let one : Image m₁ (after_in A (some r)) = subst (λ (o : Option Rec). Image m₁ (after_in A o)) d.is x.leaves in
        let left : (u : Bool) → left_in A r.points (if u then positions_used_up else judge S r) ≡ left_in A [] (if u then positions_used_up else malformed) = elim [
          | true ↦ refl
          | false ↦ only_moves A r.points nothing (nothing_dropped r.points l nothing) (ltb S.p r.snapshot) (ltb S.Z (S.p - r.snapshot)) (conflicts S r) (ltb S.N (count S r.points))
        ] in (
          λ e. never_three (leb last_position S.p) (ltb S.p r.snapshot) (ltb S.Z (S.p - r.snapshot)) (conflicts S r) (rw room at (ap (λ (z : Answer). z.number) (sym said ∙ e))),
          one_image m₁ m₂ (after_in A none) (subst (Image m₁) (left (leb last_position S.p)) one) y.leaves,
        )
