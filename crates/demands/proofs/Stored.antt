-- Stored logs keep their verdicts (R54, R55), on bytes: over a log that led to "end" by the rule of before, none of whose records has version byte 2 or
-- deletes nothing where it commits, a card of today has the parts, the answers, the looks and the pool of a card of before.
-- The idea: a record that deletes only keys that are live writes what it wrote then (`writes_as_before`), and the verdict and what is left go by that.
-- Assumes nothing.
use Prim.Native.Nat.{ℕ, ◌+◌, ◌-◌, ◌<◌}
use mathlib.Core.Path.{◌≡◌, refl, sym, ap, ◌∙◌, subst}
use mathlib.Core.Bool.{Bool, true, false}
use mathlib.Core.Option.{Option, none, some}
use mathlib.Core.List.{List, [], ◌++◌, map}
use native.Mathlib.Omega.{arith}
use lib.Dec.{ltb, leb}
use lib.ListN.{length, take}
use lib.Seq.{take_all}
use borrow.Author.Tests.{lt-ltb, ltb-true}
use Rattle.words.specs.Word.{Bytes}
use Rattle.std.specs.Prelude.{if◌then◌else◌}
use Rattle.record.specs.Record.{Rec}
use Rattle.record.specs.Answer as Names
use Rattle.record.specs.Parse.{parse}
use Rattle.record.specs.Before.{parse_before}
use Rattle.record.proofs.Before.{parse_as_before}
use Rattle.record_log.specs.declared.found.Cut.{Cut}
use Rattle.record_log.specs.declared.found.Cut.TheVariants.{End}
use Rattle.record_log.specs.Walk.{Walks}
use Rattle.record_log.proofs.Before.{ends_as_before}
use Rattle.rules.specs.Lists.{keep, distinct}
use Rattle.rules.specs.State.{Entry, State, key_in, last_position}
use Rattle.rules.specs.Footprint.{writes_of}
use Rattle.rules.specs.Verdict.{Verdict, committed, conflict, too_old, no_room, malformed, ahead, positions_used_up, verdict_answer, conflicts, young, drops, count, refusal_or, judge, verdict}
use Rattle.rules.specs.Before.{writes_before, count_before, verdict_before}
use Rattle.rules.specs.Tree.{walk_of, looks_for, looks_of}
use Rattle.rules.proofs.Deleting.{writes_as_before, room_as_before}
use Rattle.pool.specs.Image.{Arrangement, Image, state_of}
use Rattle.pool.proofs.Fixed.{one_image}
use Rattle.create.specs.Fresh.{Created, fresh_plan}
use Rattle.drop.specs.Drop.{drop_in}
use Rattle.advance.specs.Moved.{moved_on}
use Rattle.commit.specs.Applied.{store_in}
use Rattle.commit.specs.Commit.{old_at}
use Rattle.meld.specs.declared.melding.Melded.{Melded}
use Rattle.meld.specs.After.{committed_in, left_in, after_in}
use Rattle.meld.specs.Melds.{MeldsAs, Melds}
use Rattle.demands.specs.Runs as Runs
use Rattle.demands.specs.Runs.{verdicts, Melding, Whole}
use Rattle.demands.specs.Before.{committed_before, left_before, MeldsAsBefore, MeldsBefore, DeletesLive, MeldingBefore, none_left, one_more, StoredLog, StoredLarge, NoVersion2, Kept}
use Rattle.demands.proofs.Following.{arranged, Followed, melding_follows}
use Rattle.demands.proofs.Reading.{parts_bytes}
use Rattle.demands.proofs.Cards.{created_fresh, card_followed, whole_front}

-- ONE RECORD

-- R23's answer to a record, by the tests of its rows
abbrev verdict_at : Bool → Bool → Bool → Bool → Bool → Verdict
verdict_at u a b c d = if u then positions_used_up else (if a then ahead else (if b then too_old else (if c then conflict else (if d then no_room else committed))))

module _ (A : Arrangement) (r : Rec) where
  abbrev S : State
  S = state_of A

  -- it wrote then what it writes today
  abbrev Alike : Type 0
  Alike = writes_of S r.points ≡ writes_before S r.points

  counts_alike : Alike → ltb S.N (count S r.points) ≡ ltb S.N (count_before S r.points)
  unfolding count
  counts_alike e = ap (λ (ws : List Entry). ltb A.N (length (distinct (map key_in (keep (young A.Z (A.p + 1)) (state_of A).kept) ++ map key_in ws)))) e

  leaves_alike : Alike → committed_before A r.points ≡ committed_in A r.points
  unfolding drops committed_in
  leaves_alike e =
      ap (λ (ws : List Entry). store_in (if ltb A.N (length (distinct (map key_in (state_of A).kept ++ map key_in ws))) then drop_in (old_at A) (moved_on A) else moved_on A) ws) (sym e)

  -- the answer and what is left, by the tests of R23: what commits today wrote then what it writes today; what finds no room today found none then
  by_tests : (u a b c d d' : Bool) → ltb S.N (count_before S r.points) ≡ d → ltb S.N (count S r.points) ≡ d' → (verdict_at u a b c d' ≡ committed → Alike)
      → (verdict_at u a b c d ≡ verdict_at u a b c d') × (left_before A r.points (verdict_at u a b c d) ≡ left_in A r.points (verdict_at u a b c d'))
  by_tests true a b c d d' p q h = (refl, refl)
  by_tests false true b c d d' p q h = (refl, refl)
  by_tests false false true c d d' p q h = (refl, refl)
  by_tests false false false true d d' p q h = (refl, refl)
  by_tests false false false false d true p q h =
      let more : S.N < count_before S r.points = omega (arith, ltb-true S.N (count S r.points) q, room_as_before S r.points) in
      let e : d ≡ true = sym p ∙ lt-ltb S.N (count_before S r.points) more in
      rw e (refl, refl)
  by_tests false false false false d false p q h =
      let w = h refl in
      let e : d ≡ false = sym p ∙ sym (counts_alike w) ∙ q in
      rw e (refl, leaves_alike w)

  -- where it wrote what it writes today if it commits today, it is answered as today and leaves what it leaves today
  record_alike : (verdict S (some r) ≡ committed → Alike)
      → (verdict_before S (some r) ≡ verdict S (some r)) × (left_before A r.points (verdict_before S (some r)) ≡ left_in A r.points (verdict S (some r)))
  unfolding verdict_before verdict judge refusal_or
  record_alike h =
      by_tests (leb last_position S.p) (ltb S.p r.snapshot) (ltb S.Z (S.p - r.snapshot)) (conflicts S r)
      (ltb S.N (count_before S r.points)) (ltb S.N (count S r.points)) refl refl h

-- malformed bytes leave what they leave today
none_alike : (A : Arrangement) (u : Bool) → left_before A [] (if u then positions_used_up else malformed) ≡ left_in A [] (if u then positions_used_up else malformed)
none_alike A true = refl
none_alike A false = refl

-- what meld promised of bytes that are read as today, in a pool where they delete no key that is not live, it promises today
melds_today : {read : List ℕ → Option Rec} {m bytes m' : List ℕ} {a : Melded} → parse bytes ≡ read bytes → MeldsBefore read m bytes m' a → DeletesLive read m bytes → Melds m bytes m' a
unfolding verdict_before verdict looks_of after_in
melds_today {read} {m} {bytes} {m'} {a} e h d = record { fit = λ A i. subst (λ (o : Option Rec). MeldsAs A o m' a) (sym e) (go A i (read bytes) refl (h.fit A i)); unfit = h.unfit }
  where
    go : (A : Arrangement) → Image m A → (o : Option Rec) → read bytes ≡ o → MeldsAsBefore A o m' a → MeldsAs A o m' a
    go A i none q x = record { verdict_is = x.verdict_is; leaves = subst (Image m') (none_alike A (leb last_position A.p)) x.leaves }
    go A i (some r) q x =
        let (v, l) = record_alike A r (λ c. writes_as_before (state_of A) r.points (d (state_of A) (record { arrangement = A; image = i; state = refl }) (ap (verdict (state_of A)) q ∙ c) r q)) in
        record {
          verdict_is = x.verdict_is ∙ ap (λ (u : Verdict). record { answer = verdict_answer u; looks = looks_for (walk_of (state_of A) (some r)).looks u }) v;
          leaves = subst (Image m') l x.leaves;
        }

-- A LOG

-- so of one after the other, before version 2
melding_today : {m m' : List ℕ} {parts : List (List ℕ)} {xs : List Melded} → NoVersion2 parts → MeldingBefore parse_before m parts xs m' → Melding m parts xs m'
melding_today n none_left = Runs.none_left
melding_today n (one_more {bytes = bytes} h d t) = Melding.one_more (melds_today (parse_as_before bytes n.0) h d) (melding_today n.1 t)

-- and with it
melding_large : {m m' : List ℕ} {parts : List (List ℕ)} {xs : List Melded} → MeldingBefore parse m parts xs m' → Melding m parts xs m'
melding_large none_left = Runs.none_left
melding_large (one_more h d t) = Melding.one_more (melds_today refl h d) (melding_large t)

module _ (N Z : ℕ) (log : List ℕ) (parts : List (List ℕ)) (xs ys : List Melded) (last : Cut) (m m' : List ℕ) (b : Bytes log) where
  -- what was melded as today, over a log that leads to "end" today, is what a card has today
  kept_by : (lent new : List ℕ) → Created lent N Z Names.committed new → Walks log 0 parts End → Melding new parts xs m → Whole N Z log ys last m' → Kept log parts xs ys last m m'
  kept_by lent new made w melded k =
      let (long, end) = whole_front k w in
      let before : Followed (fresh_plan N Z) parts xs m = melding_follows (fresh_plan N Z) (created_fresh lent N Z new made) (parts_bytes b w) melded in
      let all : take (length ys) parts ≡ parts = take_all (length ys) parts (omega arith) in
      let today = card_followed b w k.card in
      record {
        walks = w;
        ends = end;
        verdicts = today.answers ∙ ap (verdicts (state_of (fresh_plan N Z))) all ∙ sym before.answers;
        pool = one_image m' m (arranged (fresh_plan N Z) parts) (subst (λ (l : List (List ℕ)). Image m' (arranged (fresh_plan N Z) l)) all today.image) before.image;
      }

  -- "Stored logs that walk to their end and hold no record with version byte 2 keep their verdicts", where no record commits today and deletes nothing
  pub stored_logs_keep : StoredLog N Z log parts xs m → NoVersion2 parts → Whole N Z log ys last m' → Kept log parts xs ys last m m'
  stored_logs_keep s n k = kept_by s.lent s.new s.created (ends_as_before s.ended) (melding_today n s.melded) k

  -- and so do those of cards that knew version 2
  pub stored_large_logs_keep : StoredLarge N Z log parts xs m → Whole N Z log ys last m' → Kept log parts xs ys last m m'
  stored_large_logs_keep s k = kept_by s.lent s.new s.created s.ended (melding_large s.melded) k
