-- Demand 1 in one place: for every public function that is lent something to change, which of it can differ at exit, by the answer.
-- Assumes nothing.
use Prim.Native.Nat.{ℕ, ◌+◌, ◌-◌, ◌*◌, ◌≤◌, ◌<◌}
use mathlib.Core.Path.{◌≡◌, refl, sym, ap, ◌∙◌, subst}
use mathlib.Core.Logic.{◌⊎◌, inl, inr, ⊎_elim}
use mathlib.Core.Bool.{Bool, true, false, cond}
use mathlib.Core.Option.{Option, none, some}
use mathlib.Core.List.{List, map}
use native.Mathlib.Omega.{arith}
use native.Mathlib.Decide.{ℕ_discrete}
use lib.ListN.{length, get_or, take, drop, length-append, length-drop, length-map, get_or-append}
use lib.Seq.{get_or-append-add, get_or-drop, get_or-take, take-take, take_at, length-take-le}
use lib.Dec.{leb, eqb}
use borrow.Author.Tests.{leb-true, eqb-true}
use Rattle.words.specs.Word.{Bytes}
use Rattle.std.specs.Prelude.{if◌then◌else◌, Result, Ok, Err}
use Rattle.record.specs.declared.answer.Answer.{Answer}
use Rattle.record.specs.declared.reader.Reading.{Reading}
use Rattle.record.specs.Answer as Names
use Rattle.record.specs.Record.{Rec, bytes_of, kind_of, key_of, payload_of}
use Rattle.record.specs.Parse.{parse}
use Rattle.record.specs.Answer.{given}
use Rattle.record.specs.Reader.{Lists, points_read, scans_read, front, low_of, high_of, roomy, read_of}
use Rattle.record.specs.Reader as Reader
use Rattle.record.proofs.Cases.{by_case, and_split}
use Rattle.record.proofs.Results.{ok_is_no_err}
use Rattle.writer.specs.Writer.{record_of, write_of}
use Rattle.writer.specs.Writer as Writer
use Rattle.joiner.specs.Joined.{joined_if}
use Rattle.joiner.specs.Joiner.{JoinOutcome, join_outcome, joined_to, join_of, JoinsAs}
use Rattle.record_log.specs.Log.{past_at}
use Rattle.rules.specs.State.{State}
use Rattle.rules.specs.Verdict.{Verdict, committed, conflict, too_old, no_room, malformed, ahead, positions_used_up, verdict_answer, verdict, points_of, next, left}
use Rattle.pool.specs.Image.{Arrangement, Image, Fit, state_of}
use Rattle.pool.proofs.Fixed.{one_image}
use Rattle.fit.proofs.Decided.{fit_or_not}
use Rattle.create.specs.Fresh.{Created, limits_ok}
use Rattle.meld.specs.declared.melding.Melded.{Melded}
use Rattle.meld.specs.After.{after_in, left_in}
use Rattle.meld.specs.Melds.{Melds}
use Rattle.meld.proofs.AfterState.{after_state}
use Rattle.refresh.specs.Refreshed.{RefreshOutcome, RefreshIs}
use Rattle.refresh.proofs.Only.{untouched}
use Rattle.refresh.proofs.Output.{FrontIs, after_zero}
use Rattle.pages.specs.declared.told.Happened.{Happened}
use Rattle.pages.specs.declared.told.Happened.TheVariants.{Decided, Refused, More, End}
use Rattle.pages.specs.declared.told.Fed.{Fed}
use Rattle.pages.specs.Pages.{bytes_in, cannot_be, whole_in, record_in, feed_row, is_unfit}
use Rattle.pages.specs.Pages.{FeedRow, wrong_carry, stuck, cannot_go_on, record_whole, goes_on, at_end, torn, FeedsAs, Feeds}
use Rattle.pages.proofs.Rows.{row_facts, cannot_tells}
use Rattle.pages.proofs.Fronts.{Such, such_lent, held, length_in, new_length, record_goes_on, record_size, record_fits, begun_fits}
use Rattle.pages.proofs.Decided.{happened_is, taken_is, unfit_said, verdict_said, verdict_taken, verdict_carry}
use Rattle.pages.proofs.CarryBytes.{in_bytes, record_bytes}
use Rattle.pages.proofs.Refusals.{said_else}
use Rattle.demands.specs.Touches.{Within, position_from, position_to, CreateTouches, MeldTouches, FeedTouches, RefreshTouches, WriteTouches, JoinTouches, ReadTouches}
use Rattle.demands.proofs.Following.{parsed_valid}
use Rattle.demands.proofs.Position.{position_alone}

-- nothing differs
pub within_nothing : (from to : ℕ) (before after : List ℕ) → after ≡ before → Within from to before after
within_nothing from to before after e = record { size = ap (length {A = ℕ}) e; others = λ i _. ap (λ (s : List ℕ). get_or s i 0) e }

-- new elements at the front, the rest as before
pub within_front : (vs l : List ℕ) → length vs ≤ length l → Within 0 (length vs) l (front vs l)
within_front vs l h = record {
  size = omega (arith, length-append vs (drop (length vs) l), length-drop (length vs) l);
  others = λ i a.
      let g : length vs ≤ i = ⊎_elim (λ (x : i < 0). omega arith) (λ (x : length vs ≤ i). x) a in
      let k : length vs + (i - length vs) ≡ i = omega arith in
      ap (λ (j : ℕ). get_or (front vs l) j 0) (sym k) ∙ get_or-append-add vs (drop (length vs) l) (i - length vs) 0 ∙ get_or-drop (length vs) l (i - length vs) 0
      ∙ ap (λ (j : ℕ). get_or l j 0) k;
}

-- CREATE

pub create_touches : (m : List ℕ) (n z : ℕ) (a : Answer) (m' : List ℕ) → Created m n z a m' → CreateTouches m a m'
unfolding limits_ok
create_touches m n z a m' c = go (limits_ok n z (length m)) refl
  where
    fits : limits_ok n z (length m) ≡ true → length m ≡ 64 + 64 * n
    fits e =
        and_split (leb 1 n) _ e (λ _ e₁. and_split (leb n 65536) _ e₁ (λ _ e₂. and_split (leb 1 z) _ e₂ (λ _ e₃. and_split (leb z 4096) _ e₃ (λ _ e₄. eqb-true (length m) (64 + 64 * n) e₄))))

    go : (b : Bool) → limits_ok n z (length m) ≡ b → CreateTouches m a m'
    go true e = record {
      answers = inl (c.made e).0;
      refusal = λ x. absurd (omega (arith, ap (λ (y : Answer). y.number) (sym (c.made e).0 ∙ x)));
      commit = (c.made e).1.size ∙ sym (fits e);
    }
    go false e = record { answers = inr (c.refused e).0; refusal = λ _. (c.refused e).1; commit = ap (length {A = ℕ}) (c.refused e).1 }

-- MELD

-- no record changes the limit N
next_N : (S : State) (ps : List _) (v : Verdict) → (left S ps v).N ≡ S.N
next_N S ps committed = refl
next_N S ps conflict = refl
next_N S ps too_old = refl
next_N S ps no_room = refl
next_N S ps malformed = refl
next_N S ps ahead = refl
next_N S ps positions_used_up = refl

module _ (m bytes : List ℕ) (lent : Bytes m) (b : Bytes bytes) (m' : List ℕ) (x : Melded) (h : Melds m bytes m' x) where
  -- an unfit pool
  refused : (Fit m → ⊥) → MeldTouches m x.answer m'
  refused u = let e = (h.unfit u).unchanged in record { refusal = λ _. e; abort = λ _. within_nothing position_from position_to m m' e; commit = ap (length {A = ℕ}) e }

  module _ (A : Arrangement) (i : Image m A) where
    -- the pool afterwards is as large
    same_size : length m' ≡ length m
    unfolding next
    same_size =
        let e : (after_in A (parse bytes)).N ≡ A.N =
        ap (λ (S : State). S.N) (after_state A i.arranged (parse bytes) (parsed_valid bytes b)) ∙ next_N (state_of A) (points_of (parse bytes)) (verdict (state_of A) (parse bytes)) in
        (h.fit A i).leaves.size ∙ ap (λ (n : ℕ). 64 + 64 * n) e ∙ sym i.size

    -- by the verdict
    by_verdict : (v : Verdict) → verdict (state_of A) (parse bytes) ≡ v → MeldTouches m x.answer m'
    unfolding after_in
    by_verdict v e = go v (ap (λ (y : Melded). y.answer) (h.fit A i).verdict_is ∙ ap verdict_answer e) (subst (λ (w : Verdict). Image m' (left_in A (points_of (parse bytes)) w)) e (h.fit A i).leaves)
      where
        number : {y z : Answer} → y ≡ z → y.number ≡ z.number
        number d = ap (λ (y : Answer). y.number) d

        -- neither 7 nor 6
        onward_only : (k : ℕ) → x.answer.number ≡ k → (k ≡ 7 → ⊥) → (k ≡ 6 → ⊥) → Within position_from position_to m m' → MeldTouches m x.answer m'
        onward_only k d n₇ n₆ w = record {
          refusal = λ r. absurd (⊎_elim (λ (y : x.answer ≡ Names.unfit_pool). n₇ (sym d ∙ number y)) (λ (y : x.answer ≡ Names.positions_used_up). n₆ (sym d ∙ number y)) r);
          abort = λ _. w;
          commit = same_size;
        }

        go : (v : Verdict) → x.answer ≡ verdict_answer v → Image m' (left_in A (points_of (parse bytes)) v) → MeldTouches m x.answer m'
        go committed d j = record {
          refusal = λ r. absurd (⊎_elim (λ (y : x.answer ≡ Names.unfit_pool). omega (arith, number d, number y)) (λ (y : x.answer ≡ Names.positions_used_up). omega (arith, number d, number y)) r);
          abort = λ n. absurd (n d);
          commit = same_size;
        }
        go conflict d j = onward_only 1 (number d) (λ e. omega arith) (λ e. omega arith) (position_alone m m' A i j)
        go too_old d j = onward_only 2 (number d) (λ e. omega arith) (λ e. omega arith) (position_alone m m' A i j)
        go no_room d j = onward_only 3 (number d) (λ e. omega arith) (λ e. omega arith) (position_alone m m' A i j)
        go malformed d j = onward_only 4 (number d) (λ e. omega arith) (λ e. omega arith) (position_alone m m' A i j)
        go ahead d j = onward_only 5 (number d) (λ e. omega arith) (λ e. omega arith) (position_alone m m' A i j)
        go positions_used_up d j = let e = one_image m' m A j i in record { refusal = λ _. e; abort = λ _. within_nothing position_from position_to m m' e; commit = same_size }

  pub meld_touches : MeldTouches m x.answer m'
  meld_touches = go (fit_or_not m lent)
    where
      go : Dec (Fit m) → MeldTouches m x.answer m'
      go (yes f) = by_verdict f.arrangement f.image (verdict (state_of f.arrangement) (parse bytes)) refl
      go (no u) = refused u

-- WRITE

pub write_touches : (snapshot : ℕ) (l : Lists) (before : List ℕ) (w : Result ℕ Answer) (after : List ℕ) → Writer.write_outcome w after ≡ write_of (record_of snapshot l) before → WriteTouches before w after
unfolding write_of
write_touches snapshot l before w after h = go (record_of snapshot l) h
  where
    answer : (x : Writer.WriteOutcome) → Writer.write_outcome w after ≡ x → (w ≡ x.written) × (after ≡ x.left)
    answer x e = (ap (λ (o : Writer.WriteOutcome). o.written) e, ap (λ (o : Writer.WriteOutcome). o.left) e)

    refusal : after ≡ before → WriteTouches before w after
    refusal e = record { refusal = λ _ _. e; commit = within_nothing 0 (given w) before after e }

    by_room : (r : Rec) (b : Bool) → leb (length (bytes_of r)) (length before) ≡ b
        → Writer.write_outcome w after ≡ cond b (Writer.write_outcome (Ok (length (bytes_of r))) (front (bytes_of r) before)) (Writer.write_outcome (Err Names.output_short) before)
        → WriteTouches before w after
    by_room r false t e = refusal (answer _ e).1
    by_room r true t e =
        let (x, y) = answer _ e in
        record {
          refusal = λ a n. ok_is_no_err (sym x ∙ n);
          commit = subst (λ (s : List ℕ). Within 0 (given w) before s) (sym y)
              (subst (λ (n : ℕ). Within 0 n before (front (bytes_of r) before)) (sym (ap given x)) (within_front (bytes_of r) before (leb-true (length (bytes_of r)) (length before) t)));
        }

    go : (o : Option Rec) → Writer.write_outcome w after ≡ write_of o before → WriteTouches before w after
    go none e = refusal (answer _ e).1
    go (some r) e = by_room r (leb (length (bytes_of r)) (length before)) refl e

-- JOIN

pub join_touches : (a b before : List ℕ) (j : Result ℕ Answer) (after : List ℕ) → JoinsAs a b before j after → JoinTouches before j after
unfolding join_of
join_touches a b before j after h = go (joined_if (parse a) (parse b)) h
  where
    answer : (x : JoinOutcome) → join_outcome j after ≡ x → (j ≡ x.joined) × (after ≡ x.left)
    answer x e = (ap (λ (o : JoinOutcome). o.joined) e, ap (λ (o : JoinOutcome). o.left) e)

    refusal : after ≡ before → JoinTouches before j after
    refusal e = record { refusal = λ _ _. e; commit = within_nothing 0 (given j) before after e }

    by_room : (r : Rec) (b : Bool) → leb (length (bytes_of r)) (length before) ≡ b
        → join_outcome j after ≡ cond b (join_outcome (joined_to (bytes_of r)) (front (bytes_of r) before)) (join_outcome (Err Names.output_short) before)
        → JoinTouches before j after
    by_room r false t e = refusal (answer _ e).1
    by_room r true t e =
        let (x, y) = answer _ e in
        record {
          refusal = λ a n. ok_is_no_err (sym x ∙ n);
          commit = subst (λ (s : List ℕ). Within 0 (given j) before s) (sym y)
              (subst (λ (n : ℕ). Within 0 n before (front (bytes_of r) before)) (sym (ap given x)) (within_front (bytes_of r) before (leb-true (length (bytes_of r)) (length before) t)));
        }

    go : (o : Option Rec) → join_outcome j after ≡ join_of o before → JoinTouches before j after
    go none e = refusal (answer _ e).1
    go (some r) e = by_room r (leb (length (bytes_of r)) (length before)) refl e

-- READ

pub read_touches : (bytes : List ℕ) (before : Lists) (r : Result Reading Answer) (after : Lists) → Reader.read_outcome r after ≡ read_of (parse bytes) before → ReadTouches before r after
unfolding read_of
read_touches bytes before r after h = go (parse bytes) h
  where
    answer : (x : Reader.ReadOutcome) → Reader.read_outcome r after ≡ x → (r ≡ x.reading) × (after ≡ x.left)
    answer x e = (ap (λ (o : Reader.ReadOutcome). o.reading) e, ap (λ (o : Reader.ReadOutcome). o.left) e)

    refusal : after ≡ before → ReadTouches before r after
    refusal e = record {
      refusal = λ _ _. e;
      kinds = within_nothing 0 (points_read r) before.kinds after.kinds (ap (λ (l : Lists). l.kinds) e);
      keys = within_nothing 0 (points_read r) before.keys after.keys (ap (λ (l : Lists). l.keys) e);
      payloads = within_nothing 0 (points_read r) before.payloads after.payloads (ap (λ (l : Lists). l.payloads) e);
      lows = within_nothing 0 (scans_read r) before.lows after.lows (ap (λ (l : Lists). l.lows) e);
      highs = within_nothing 0 (scans_read r) before.highs after.highs (ap (λ (l : Lists). l.highs) e);
    }

    -- a list with what a function makes of the points or scans at its front
    filled_within : {A : Type 0} (f : A → ℕ) (es : List A) (l l' : List ℕ) (k : ℕ) → k ≡ length es → length es ≤ length l → l' ≡ front (map f es) l → Within 0 k l l'
    filled_within f es l l' k n room e =
        let size : length (map f es) ≡ k = length-map es f ∙ sym n in
        subst (λ (s : List ℕ). Within 0 k l s) (sym e) (subst (λ (j : ℕ). Within 0 j l (front (map f es) l)) size (within_front (map f es) l (omega (arith, length-map es f))))

    by_room : (q : Rec) (b : Bool) → roomy q before ≡ b
        → Reader.read_outcome r after ≡ cond b (Reader.read_outcome (Ok (Reader.reading_of q)) (Reader.filled q before)) (Reader.read_outcome (Err Names.output_short) before)
        → ReadTouches before r after
    by_room q false t e = refusal (answer _ e).1
    by_room q true t e =
        let (x, y) = answer _ e in
        and_split (leb (length q.points) (length before.kinds)) _ t (λ k₁ t₁.
        and_split (leb (length q.points) (length before.keys)) _ t₁ (λ k₂ t₂.
        and_split (leb (length q.points) (length before.payloads)) _ t₂ (λ k₃ t₃.
        and_split (leb (length q.scans) (length before.lows)) _ t₃ (λ k₄ k₅.
        record {
          refusal = λ a n. ok_is_no_err (sym x ∙ n);
          kinds = filled_within kind_of q.points before.kinds after.kinds (points_read r) (ap points_read x) (leb-true _ _ k₁) (ap (λ (l : Lists). l.kinds) y);
          keys = filled_within key_of q.points before.keys after.keys (points_read r) (ap points_read x) (leb-true _ _ k₂) (ap (λ (l : Lists). l.keys) y);
          payloads = filled_within payload_of q.points before.payloads after.payloads (points_read r) (ap points_read x) (leb-true _ _ k₃) (ap (λ (l : Lists). l.payloads) y);
          lows = filled_within low_of q.scans before.lows after.lows (scans_read r) (ap scans_read x) (leb-true _ _ k₄) (ap (λ (l : Lists). l.lows) y);
          highs = filled_within high_of q.scans before.highs after.highs (scans_read r) (ap scans_read x) (leb-true _ _ k₅) (ap (λ (l : Lists). l.highs) y);
        }))))

    go : (o : Option Rec) → Reader.read_outcome r after ≡ read_of o before → ReadTouches before r after
    go none e = refusal (answer _ e).1
    go (some q) e = by_room q (roomy q before) refl e

-- REFRESH

module _ (m original before : List ℕ) (lent : Bytes m) (b : Bytes original) (a : Answer) (after : List ℕ) (h : RefreshIs m original before a after) where
  -- on 0 the rest of the output is as before
  front_within : (p : ℕ) → FrontIs p original before after → Within 0 (length original) before after
  front_within p f = record {
    size = f.size;
    others = λ i x.
        let g : length original ≤ i = ⊎_elim (λ (y : i < 0). omega arith) (λ (y : length original ≤ i). y) x in
        let k : length original + (i - length original) ≡ i = omega arith in
        ap (λ (j : ℕ). get_or after j 0) (sym k) ∙ sym (get_or-drop (length original) after (i - length original) 0)
        ∙ ap (λ (s : List ℕ). get_or s (i - length original) 0) f.rest
        ∙ get_or-drop (length original) before (i - length original) 0 ∙ ap (λ (j : ℕ). get_or before j 0) k;
  }

  pub refresh_touches : RefreshTouches original before a after
  refresh_touches = record { refusal = refusal; commit = go (fit_or_not m lent) (ℕ_discrete a.number 0) }
    where
      refusal : (a ≡ Names.committed → ⊥) → after ≡ before
      refusal n = untouched m original before a after h (λ z. n (ap (λ (k : ℕ). record { number = k }) z))

      go : Dec (Fit m) → Dec (a.number ≡ 0) → Within 0 (length original) before after
      go (yes f) (yes z) =
          let A = f.arrangement in
          front_within A.p (after_zero (state_of A) f.image.arranged.lawful.last original before b a after (h.fit A f.image) z)
      go (yes f) (no n) = within_nothing 0 (length original) before after (untouched m original before a after h n)
      go (no u) d = within_nothing 0 (length original) before after (ap (λ (o : RefreshOutcome). o.output) (h.unfit u))

-- FEED

-- a number for what happened that tells decided from the rest
abbrev decision : Happened → ℕ
decision (Decided a) = 1
decision (Refused a) = 0
decision More = 0
decision End = 0

decided_same : {a b : Answer} → Decided a ≡ Decided b → a ≡ b
decided_same e = cc

-- bytes at a carry's front that begin with those carried
front_behind : (carry vs : List ℕ) (carried : ℕ) → carried ≤ length vs → length vs ≤ length carry → take carried vs ≡ take carried carry
    → Within carried (length vs) carry (front vs carry)
front_behind carry vs carried few room same = let w = within_front vs carry room in record {
  size = w.size;
  others = λ i x. ⊎_elim
      (λ (l : i < carried). get_or-append vs (drop (length vs) carry) 0 i (omega arith) ∙ sym (get_or-take carried vs i 0 l)
      ∙ ap (λ (s : List ℕ). get_or s i 0) same ∙ get_or-take carried carry i 0 l)
      (λ (g : length vs ≤ i). w.others i (inr g)) x;
}

module _ (m carry : List ℕ) (carried : ℕ) (part : List ℕ) (over : Bool) (lent : Bytes m) (b : Bytes carry) (d : Bytes part) (r : Fed) (m' carry' : List ℕ) where
  -- the first of what is in are the bytes carried
  begins : Such carry carried → (n : ℕ) → carried ≤ n → take carried (take n (bytes_in carry carried part)) ≡ take carried carry
  begins s n h = take-take carried n (bytes_in carry carried part) h ∙ take_at (take carried carry) part carried (held s)

  -- no record was decided: the pool is as it was
  no_record : (x : Fed) → r ≡ x → decision x.happened ≡ 0 → m' ≡ m → Within carried (carried + x.taken) carry carry'
      → ((r.happened ≡ Refused Names.output_short) ⊎ (r.happened ≡ Refused Names.unfit_pool) → carry' ≡ carry) → FeedTouches m carry carried r m' carry'
  no_record x e none-decided same w refused = record {
    decided = λ a y. absurd (omega (arith, none-decided, ap decision (sym (happened_is e) ∙ y)));
    undecided = λ _. same;
    taken = subst (λ (n : ℕ). Within carried (carried + n) carry carry') (sym (taken_is e)) w;
    refusal = λ y. (same, refused y);
  }

  -- nothing has changed at all
  no_byte : (x : Fed) → r ≡ x → decision x.happened ≡ 0 → m' ≡ m → carry' ≡ carry → FeedTouches m carry carried r m' carry'
  no_byte x e none-decided same kept = no_record x e none-decided same (within_nothing carried (carried + x.taken) carry carry' kept) (λ _. kept)

  -- bytes that are in are at the carry's front
  put_front : Such carry carried → (vs : List ℕ) (taken : ℕ) → length vs ≡ carried + taken → length vs ≤ length carry → take carried vs ≡ take carried carry
      → carry' ≡ front vs carry → Within carried (carried + taken) carry carry'
  put_front s vs taken size room same e =
      subst (λ (c : List ℕ). Within carried (carried + taken) carry c) (sym e)
      (subst (λ (n : ℕ). Within carried n carry (front vs carry)) size (front_behind carry vs carried (omega (arith, size)) room same))

  pub feed_touches : Feeds m carry carried part over r m' carry' → FeedTouches m carry carried r m' carry'
  feed_touches f = go (feed_row carry carried part over) refl f.as_said
    where
      bytes : List ℕ
      bytes = bytes_in carry carried part

      go : (row : FeedRow) → feed_row carry carried part over ≡ row → FeedsAs row m carry carried part r m' carry' → FeedTouches m carry carried r m' carry'
      go wrong_carry e l = no_byte _ l.said refl l.pool l.carry_is
      go stuck e l = no_byte _ l.said refl l.pool l.carry_is
      go cannot_go_on e l =
          let t = row_facts cannot_go_on carry carried part over e in
          let s = such_lent carry carried t.0 in
          let new : carried < 2 = new_length s part t.1 t.2 in
          let size : length (take 2 bytes) ≡ 2 = length-take-le 2 bytes (cannot_tells bytes t.2).0 in
          no_record _ l.said refl l.pool (put_front s (take 2 bytes) (2 - carried) (omega (arith, size)) (omega (arith, size, s.sized)) (begins s 2 (omega arith)) l.carry_is)
          (λ y. absurd (⊎_elim (said_else Names.output_short l.said refl (λ n. omega arith)) (said_else Names.unfit_pool l.said refl (λ n. omega arith)) y))
      go record_whole e x = let t = row_facts record_whole carry carried part over e in by_answer (such_lent carry carried t.0) t.1 t.2 t.3
        where
          past : Such carry carried → cannot_be (take carried carry) ≡ false → cannot_be bytes ≡ false → whole_in bytes ≡ true
              → carry' ≡ (if eqb carried 0 then carry else front (record_in bytes) carry) → carried + r.taken ≡ past_at bytes 0 → Within carried (carried + r.taken) carry carry'
          past s t₁ t₂ t₃ k up_to_lem =
              by_case (eqb carried 0) (λ z. within_nothing carried (carried + r.taken) carry carry' (simp z at k)) λ z.
              put_front s (record_in bytes) r.taken (record_size bytes t₂ t₃ ∙ sym up_to_lem) (omega (arith, record_size bytes t₂ t₃, record_fits bytes t₂ t₃, s.sized))
              (begins s (past_at bytes 0) (omega (arith, up_to_lem))) (simp z at k)

          by_answer : Such carry carried → cannot_be (take carried carry) ≡ false → cannot_be bytes ≡ false → whole_in bytes ≡ true → FeedTouches m carry carried r m' carry'
          by_answer s t₁ t₂ t₃ =
              by_case (is_unfit x.melded) (λ u. let y = unfit_said x u in no_byte _ y.0 refl y.1 y.2) λ u.
              let v = verdict_said x u in
              let touches = meld_touches m (record_in bytes) lent (record_bytes bytes (in_bytes carry carried part b d)) m' x.melded x.melds in
              record {
                decided = λ a y. subst (λ (k : Answer). MeldTouches m k m') (decided_same (sym (happened_is v) ∙ y)) touches;
                undecided = λ n. absurd (n x.melded.answer (happened_is v));
                taken = past s t₁ t₂ t₃ (verdict_carry x u) (verdict_taken x u (omega (arith, record_goes_on s part t₁)));
                refusal = λ y. absurd (⊎_elim (said_else Names.output_short v refl (λ n. omega arith)) (said_else Names.unfit_pool v refl (λ n. omega arith)) y);
              }
      go goes_on e l =
          let t = row_facts goes_on carry carried part over e in
          let s = such_lent carry carried t.0 in
          let size : length bytes ≡ carried + length part = length_in s part in
          no_record _ l.said refl l.pool
          (put_front s bytes (length part) size (omega (arith, begun_fits bytes t.2 t.3, s.sized)) (take_at (take carried carry) part carried (held s)) l.carry_is)
          (λ y. absurd (⊎_elim (said_else Names.output_short l.said refl (λ n. omega arith)) (said_else Names.unfit_pool l.said refl (λ n. omega arith)) y))
      go at_end e l = no_byte _ l.said refl l.pool l.carry_is
      go torn e l = no_byte _ l.said refl l.pool l.carry_is
