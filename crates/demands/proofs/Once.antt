-- One refresh on bytes, and the record in force after it, as the rules say it.
-- The idea: answer 0 leaves the refreshed record at the front of the buffer; its length field makes the log rule find exactly it.
-- Assumes nothing.
use Prim.Native.Nat.{ℕ, ◌-◌, ◌≤◌}
use mathlib.Core.Path.{◌≡◌, refl, sym, ap, ◌∙◌, subst}
use mathlib.Core.Option.{Option, some}
use mathlib.Core.List.{List, [], ◌++◌}
use native.Mathlib.Omega.{arith}
use lib.ListN.{length, take, drop, take-append-drop}
use lib.Seq.{take-append_seam}
use Rattle.words.specs.Word.{Bytes}
use Rattle.record.specs.declared.answer.Answer.{Answer}
use Rattle.record.specs.Answer.{committed}
use Rattle.record.specs.Record.{Rec, Valid, bytes_of}
use Rattle.record.specs.Parse.{parse}
use Rattle.record.proofs.RoundTrip.{valid_size}
use Rattle.record_log.specs.declared.found.Cut.{Cut}
use Rattle.record_log.specs.declared.found.Cut.TheVariants.{Record}
use Rattle.record_log.specs.Log.{cut_at, part_of}
use Rattle.record_log.specs.PartSized.{PartSized}
use Rattle.record_log.proofs.Same.{cut_here}
use Rattle.rules.specs.State.{State, last_position}
use Rattle.rules.specs.Verdict.{Verdict, verdict_answer}
use Rattle.rules.specs.Refresh.{with_snapshot, Refreshed, done, refused, refresh, Refreshes}
use Rattle.rules.proofs.Refreshing.{refresh_exactly, refreshed_valid}
use Rattle.refresh.specs.Refreshed.{RefreshOutcome, refresh_outcome, left_by, refreshed_of}
use Rattle.refresh.proofs.Output.{FrontIs, Refreshable, after_zero, zero_exactly}
use Rattle.in_force.specs.InForce.{source_of, if_cut, bytes_from}
use Rattle.demands.specs.Runs.{Means}
use Rattle.demands.specs.Chains.{RefreshedTo}

-- a valid record's bytes are as the log rule hands them out
pub record_sized : (r : Rec) → Valid r → PartSized (bytes_of r)
record_sized r v = let s = valid_size r v in record { size = sym s.field; least = s.field_least; most = s.field_most }

-- the record in force after 0, where a valid record stands at the front of the buffer
pub front_in_force : (r : Rec) → Valid r → (original after rest : List ℕ) → after ≡ bytes_of r ++ rest → bytes_from (source_of committed after) original after ≡ bytes_of r
unfolding source_of
front_in_force r v original after rest e =
    let k : length (bytes_of r) - 0 ≡ length (bytes_of r) = omega arith in
    ap (λ (c : Cut). bytes_from (if_cut c) original after) found ∙ ap (λ (c : Cut). part_of c after 0) found ∙ ap (λ (n : ℕ). take n after) k
    ∙ ap (take (length (bytes_of r))) e ∙ take-append_seam (bytes_of r) rest
  where
    found : cut_at after 0 ≡ Record (length (bytes_of r))
    found = ap (λ (l : List ℕ). cut_at l 0) e ∙ cut_here [] (bytes_of r) rest (record_sized r v) ∙ ap Record (omega arith)

-- what one refresh comes to: the rules' record, which is then in force, or the rules' refusal
pub data Once (S : State) (r : Rec) (a : Answer) (result : List ℕ) : Type 0 where
  went : (r' : Rec) → refresh S (some r) ≡ done r' → a ≡ committed → Valid r' → result ≡ bytes_of r' → Once S r a result
  said : (v : Verdict) → refresh S (some r) ≡ refused v → a ≡ verdict_answer v → (a ≡ committed → ⊥) → Once S r a result

some_same : {x y : Rec} → some x ≡ some y → x ≡ y
some_same e = cc

module _ (S : State) (m original : List ℕ) (b : Bytes original) (r : Rec) (is : parse original ≡ some r) (a : Answer) (result : List ℕ)
    (means : Means m S) (h : RefreshedTo m original a result) where
  -- positions end where they end
  last : S.p ≤ last_position
  last = subst (λ (T : State). T.p ≤ last_position) means.state means.image.arranged.lawful.last

  -- what the promise says, for this state
  promised : refresh_outcome a h.after ≡ refreshed_of S (parse original) h.before
  promised = subst (λ (T : State). refresh_outcome a h.after ≡ refreshed_of T (parse original) h.before) means.state (h.refreshed.fit means.arrangement means.image)

  -- a refreshed record is the original with snapshot p
  passes : (r' : Rec) → refresh S (some r) ≡ done r' → Refreshes S r (with_snapshot S.p r)
  passes r' e = let w = (refresh_exactly S r r').0 e in record {
    not_ahead = w.not_ahead;
    not_too_old = w.not_too_old;
    no_conflict = w.no_conflict;
    snapshot_p = refl;
    same_points = refl;
    same_scans = refl;
  }

  -- it is in force
  once_done : (r' : Rec) → refresh S (some r) ≡ done r' → Once S r a result
  once_done r' e =
      let w = passes r' e in
      let d : refresh S (some r) ≡ done (with_snapshot S.p r) = (refresh_exactly S r (with_snapshot S.p r)).1 w in
      let z : a.number ≡ 0 = (zero_exactly S last original h.before b a h.after promised).1 (record { r = r; is = is; passes = w; room = h.room }) in
      let zero : a ≡ committed = ap (λ (n : ℕ). record { number = n }) z in
      let f = after_zero S last original h.before b a h.after promised z in
      let v : Valid (with_snapshot S.p r) = refreshed_valid S last (valid f) d in
      let bytes : take (length original) h.after ≡ bytes_of (with_snapshot S.p r) = f.bytes ∙ ap (λ (x : Rec). bytes_of (with_snapshot S.p x)) (some_same (sym f.was ∙ is)) in
      let whole : h.after ≡ bytes_of (with_snapshot S.p r) ++ drop (length original) h.after =
      sym (take-append-drop (length original) h.after) ∙ ap (λ (l : List ℕ). l ++ drop (length original) h.after) bytes in
      went (with_snapshot S.p r) d zero v
      (sym h.part_is ∙ h.in_force.bytes
      ∙ ap (λ (x : Answer). bytes_from (source_of x h.buffer.now) h.lent.now h.buffer.now) zero
      ∙ ap (λ (l : List ℕ). bytes_from (source_of committed l) h.lent.now l) h.buffer_is
      ∙ front_in_force (with_snapshot S.p r) v h.lent.now h.after (drop (length original) h.after) whole)
    where
      valid : FrontIs S.p original h.before h.after → Valid r
      valid f = subst Valid (some_same (sym f.was ∙ is)) f.valid

  -- a refusal is told
  once_refused : (v : Verdict) → refresh S (some r) ≡ refused v → Once S r a result
  unfolding left_by
  once_refused v e = said v e (ap (λ (o : RefreshOutcome). o.answer) (promised ∙ ap (λ (x : Option Rec). left_by (refresh S x) h.before) is ∙ ap (λ (x : Refreshed). left_by x h.before) e)) never
    where
      done_not : (x : Rec) → done x ≡ refused v → ⊥
      done_not x d = let z : ◌≡◌ {A = ℕ} 0 1 = cc in omega arith

      never : a ≡ committed → ⊥
      never z =
          let w : Refreshable S original h.before = (zero_exactly S last original h.before b a h.after promised).0 (ap (λ (x : Answer). x.number) z) in
          let same : w.r ≡ r = some_same (sym w.is ∙ is) in
          done_not (with_snapshot S.p w.r) (sym ((refresh_exactly S w.r (with_snapshot S.p w.r)).1 w.passes) ∙ ap (λ (x : Rec). refresh S (some x)) same ∙ e)

  pub once : Once S r a result
  once = go (refresh S (some r)) refl
    where
      go : (x : Refreshed) → refresh S (some r) ≡ x → Once S r a result
      go (done r') e = once_done r' e
      go (refused v) e = once_refused v e
