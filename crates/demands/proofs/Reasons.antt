-- R50 and R51 on bytes: what `explain` tells at the pool of a card after some records of a log, and that it answers as `meld` does.
-- The idea: the pool means the rules' state after the log. What is kept there is the last committed write of its key (`kept_last`), and no write
-- of s + 1 to p has been lost (`HoldsWrites`); so the smallest kept key in conflict is the smallest that was written.
-- Assumes nothing.
use Prim.Native.Nat.{ℕ, ◌-◌, ◌≤◌, ◌<◌}
use mathlib.Core.Path.{◌≡◌, refl, sym, ap, ◌∙◌, subst}
use mathlib.Core.Logic.{inl, inr}
use mathlib.Core.List.{List, map}
use mathlib.Core.Option.{Option, none, some}
use native.Mathlib.Omega.{arith}
use lib.ListN.{take}
use Rattle.words.specs.Word.{Bytes}
use Rattle.record.specs.declared.answer.Answer.{Answer}
use Rattle.record.specs.Answer as Names
use Rattle.record.specs.Record.{Rec}
use Rattle.record.specs.Parse.{parse}
use Rattle.record_log.specs.declared.found.Cut.{Cut}
use Rattle.record_log.specs.Walk.{Walks}
use Rattle.rules.specs.State.{Entry, State, fresh, last_position}
use Rattle.rules.specs.Verdict.{Verdict, committed, conflict, too_old, no_room, malformed, ahead, positions_used_up, verdict_answer, count, verdict}
use Rattle.rules.specs.Log.{Log, WellFormed, after, commits}
use Rattle.rules.specs.Demands.{Reaches}
use Rattle.rules.proofs.LastWrite.{kept_last}
use Rattle.rules.proofs.Positions.{after_N, after_Z}
use Rattle.rules.proofs.RowOne.{HoldsWrites, holds_fresh, holds_after}
use Rattle.pool.specs.Image.{Fit, state_of}
use Rattle.fit.proofs.Decided.{fit_or_not}
use Rattle.meld.specs.declared.melding.Melded.{Melded}
use Rattle.meld.specs.Melds.{Melds}
use Rattle.reason.specs.declared.told.Reason.{Reason}
use Rattle.reason.specs.declared.told.Reason.TheVariants.{Nothing, Conflict, TooOld, NoRoom}
use Rattle.reason.specs.declared.told.Explained.{Explained}
use Rattle.reason.specs.Reason.{TellsAs, Smallest, ReasonFor, TrueReason, ExplainsAs, Explains}
use Rattle.reason.proofs.Apart.{reason_told_apart}
use Rattle.demands.specs.Runs.{Means, PoolAt}
use Rattle.demands.specs.Reasons.{BeatenBy, Blamed, Lagging, Crowded, HasReason}
use Rattle.demands.proofs.Reading.{parts_bytes, first_bytes}
use Rattle.demands.proofs.Verdicts.{parsed_well_formed}
use Rattle.demands.proofs.Rows.{verdict_of_lem}
use Rattle.demands.proofs.Exactly.{RowOf, row_applies}
use Rattle.demands.proofs.Conflicts.{one_state, pool_at_means, row_beaten}

-- AT THE STATE AFTER A LOG

-- the smallest kept key in conflict with a record that is not too old is what has beaten it
beaten_by : (N Z : ℕ) (log : Log) → WellFormed log → (r : Rec) → (after (fresh N Z) log).p - r.snapshot ≤ Z
    → {e : Entry} → Smallest (after (fresh N Z) log) r e → BeatenBy N Z log r e.key e.position
beaten_by N Z log formed r near {e} h = record {
  write = e;
  last = kept_last N Z log formed e h.in_conflict.kept;
  of_key = refl;
  at_position = refl;
  above = h.in_conflict.above;
  within = held.bound e (held.written e h.in_conflict.kept);
  no_smaller = λ c written reached above within.
      let (k, kept, same, newer) = held.covered c written (omega (arith, near, above, after_Z (fresh N Z) log)) in
      omega (arith, same, h.least k (record { kept = kept; above = omega (arith, above, newer); reached = subst (Reaches r) (sym same) reached }));
}
  where
    held : HoldsWrites (after (fresh N Z) log) (commits (fresh N Z) log)
    held = holds_after (holds_fresh N Z) log

-- ON BYTES

-- the pool after q records of a log whose walk hands out these parts, and any bytes explained to it
module _ (N Z : ℕ) (log : List ℕ) (lent : Bytes log) (parts : List (List ℕ)) (last : Cut) (w : Walks log 0 parts last) (q : ℕ) (m : List ℕ) (at-q : PoolAt N Z log q m)
    (bytes : List ℕ) (x : Explained) (h : Explains m bytes x) where
  -- the records melded so far, as they parse
  abbrev past : Log
  past = map parse (take q parts)

  -- the state after them
  abbrev S : State
  S = after (fresh N Z) past

  means : Means m S
  means = pool_at_means lent w at-q

  explained : ExplainsAs S (parse bytes) x
  explained = subst (λ (T : State). ExplainsAs T (parse bytes) x) means.state (h.fit means.arrangement means.image)

  -- an answer says which verdict it is
  decided : (v : Verdict) → x.answer ≡ verdict_answer v → verdict S (parse bytes) ≡ v
  decided v e = verdict_of_lem (sym (ap (λ (y : Melded). y.answer) explained.as_melded) ∙ e)

  -- so its row applies
  row : (v : Verdict) → x.answer ≡ verdict_answer v → RowOf m bytes v
  row v e = subst (RowOf m bytes) (decided v e) (row_applies m bytes S means (subst (λ (T : State). T.p ≤ last_position) means.state means.image.arranged.lawful.last))

  -- and its reason is told
  reason : (v : Verdict) → x.answer ≡ verdict_answer v → (r : Rec) → parse bytes ≡ some r → ReasonFor S r x.reason v
  reason v e r is = subst (ReasonFor S r x.reason) (ap (verdict S) (sym is) ∙ decided v e) (subst (λ (o : Option Rec). TrueReason S o x.reason) is explained.true_reason)

  -- R51: 1 names the last writer of the smallest key that was written since the snapshot
  pub blames_the_writer : x.answer ≡ Names.conflict → Blamed N Z (map parse (take q parts)) (parse bytes) x.reason
  blames_the_writer e =
      let c = (row_beaten N Z past m bytes means).0 (row conflict e) in
      let g = reason conflict e c.r c.well_formed in
      record {
        r = c.r;
        well_formed = c.well_formed;
        k = g.e.key;
        w = g.e.position;
        touch = g.touch;
        is = reason_told_apart x.reason (Conflict g.e.key g.e.position g.touch) g.tells;
        beaten_by = beaten_by N Z past (parsed_well_formed (first_bytes q (parts_bytes lent w))) c.r c.not_too_old g.smallest;
        touched = g.touched;
      }

  -- R50: 2 tells how far the snapshot lies back
  pub tells_the_lag : x.answer ≡ Names.too_old → Lagging N Z (map parse (take q parts)) (parse bytes) x.reason
  tells_the_lag e =
      let z = row too_old e in
      let same : z.S ≡ S = one_state z.above.above.means means in
      record {
        r = z.r;
        well_formed = z.above.well_formed;
        not_ahead = subst (λ (T : State). z.r.snapshot ≤ T.p) same z.not_ahead;
        too_old = subst (λ (n : ℕ). n < S.p - z.r.snapshot) (after_Z (fresh N Z) past) (subst (λ (T : State). T.Z < T.p - z.r.snapshot) same z.too_old);
        is = reason_told_apart x.reason (TooOld (S.p - z.r.snapshot)) (reason too_old e z.r z.above.well_formed);
      }

  -- R50: 3 tells how many keys have to find room
  pub tells_the_keys : x.answer ≡ Names.no_room → Crowded N Z (map parse (take q parts)) (parse bytes) x.reason
  tells_the_keys e =
      let z = row no_room e in
      let same : z.S ≡ S = one_state z.above.above.above.means means in
      record {
        r = z.r;
        well_formed = z.above.above.well_formed;
        no_room = subst (λ (n : ℕ). n < count S z.r.points) (after_N (fresh N Z) past) (subst (λ (T : State). T.N < count T z.r.points) same z.no_room);
        is = reason_told_apart x.reason (NoRoom (count S z.r.points)) (reason no_room e z.r z.above.above.well_formed);
      }

-- ON ANY BYTES

-- only 1, 2 and 3 have a reason
nothing_else : (S : State) (o : Option Rec) (x : Reason) → (HasReason (verdict_answer (verdict S o)) → ⊥) → TrueReason S o x → TellsAs x Nothing
nothing_else S none x n t = t
nothing_else S (some r) x n t = go (verdict S (some r)) n t
  where
    go : (v : Verdict) → (HasReason (verdict_answer v) → ⊥) → ReasonFor S r x v → TellsAs x Nothing
    go committed n t = t
    go conflict n t = absurd (n (inl refl))
    go too_old n t = absurd (n (inr (inl refl)))
    go no_room n t = absurd (n (inr (inr refl)))
    go malformed n t = t
    go ahead n t = t
    go positions_used_up n t = t

module _ (m bytes : List ℕ) (x : Explained) (lent : Bytes m) (h : Explains m bytes x) where
  -- R50: every other answer has none, on any bytes as pool and record
  pub no_reason_else : (HasReason x.answer → ⊥) → x.reason ≡ Nothing
  no_reason_else n = go (fit_or_not m lent)
    where
      go : Dec (Fit m) → x.reason ≡ Nothing
      go (yes f) =
          let S = state_of f.arrangement in
          let g = h.fit f.arrangement f.image in
          let e : x.answer ≡ verdict_answer (verdict S (parse bytes)) = ap (λ (y : Melded). y.answer) g.as_melded in
          reason_told_apart x.reason Nothing (nothing_else S (parse bytes) x.reason (subst (λ (a : Answer). HasReason a → ⊥) e n) g.true_reason)
      go (no u) = ap (λ (y : Explained). y.reason) (h.unfit u)

  -- R50: answer and looks are those that melding these bytes gives, on any bytes as pool and record
  pub explain_as_meld : (m' : List ℕ) (y : Melded) → Melds m bytes m' y → (x.answer ≡ y.answer) × (x.looks ≡ y.looks)
  explain_as_meld m' y k = go (fit_or_not m lent)
    where
      both : {a b : Melded} → a ≡ b → (a.answer ≡ b.answer) × (a.looks ≡ b.looks)
      both e = (ap (λ (z : Melded). z.answer) e, ap (λ (z : Melded). z.looks) e)

      go : Dec (Fit m) → (x.answer ≡ y.answer) × (x.looks ≡ y.looks)
      go (yes f) = both ((h.fit f.arrangement f.image).as_melded ∙ sym (k.fit f.arrangement f.image).verdict_is)
      go (no u) = both (ap (λ (z : Explained). record { answer = z.answer; looks = z.looks }) (h.unfit u) ∙ sym (k.unfit u).unfit_is)
