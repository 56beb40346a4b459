-- R23 on bytes, row by row.
-- The idea: a row fixes the rules' verdict (Rows.antt), and some row always applies; so the verdict's row is the one that applies. What is
-- left is the image one position on, which differs in one word.
-- Assumes nothing.
use Prim.Native.Nat.{ℕ, ◌+◌, ◌-◌, ◌*◌, ◌≤◌, ◌<◌}
use mathlib.Core.Path.{◌≡◌, refl, sym, ap, ◌∙◌, subst}
use mathlib.Core.Logic.{◌⊎◌, inl, inr, ⊎_elim, ◌↔◌}
use mathlib.Core.Bool.{not}
use mathlib.Core.Option.{Option, none, some}
use mathlib.Core.List.{List}
use native.Mathlib.Omega.{arith}
use native.Mathlib.Decide.{ℕ_discrete, dec_lt}
use lib.Dec.{T}
use Rattle.words.specs.Word.{Bytes, word, put_word}
use Rattle.words.specs.Laws.{word_same, word_apart, word_put, same_words, bytes_put, length_put}
use Rattle.nodes.specs.declared.header.Header.{Header}
use Rattle.nodes.specs.Nodes.{header_at}
use Rattle.record.specs.declared.answer.Answer.{Answer}
use Rattle.record.specs.Answer as Names
use Rattle.record.specs.Record.{Rec}
use Rattle.record.specs.Parse.{parse}
use Rattle.rules.specs.State.{State, last_position}
use Rattle.rules.specs.Verdict.{Verdict, committed, conflict, too_old, no_room, malformed, ahead, positions_used_up, verdict_answer, verdict, conflicts, count, points_of}
use Rattle.rules.proofs.Tests.{test, le_or_lt}
use Rattle.rules.proofs.Near.{verdict_last}
use Rattle.pool.specs.Image.{Arrangement, Image, Fit, state_of}
use Rattle.fit.proofs.Decided.{fit_or_not}
use Rattle.advance.specs.Moved.{moved_on}
use Rattle.meld.specs.declared.melding.Melded.{Melded}
use Rattle.meld.specs.After.{after_in, left_in}
use Rattle.meld.specs.Melds.{Melds}
use Rattle.pages.proofs.Decided.{below_seven}
use Rattle.demands.specs.Runs.{Means}
use Rattle.demands.specs.Touches.{Within, position_from, position_to}
use Rattle.demands.specs.Exactly.{Row7, Row6, PositionLeft, Row4, Formed, Row5, Row2, InZone, Row1, Row3, Row0, UsesPosition, MeldExactly}
use Rattle.demands.proofs.Following.{meld_means}
use Rattle.demands.proofs.Position.{position_alone}
use Rattle.demands.proofs.Touches.{meld_touches}
use Rattle.demands.proofs.Rows.{verdict_of_lem, verdict_malformed, verdict_ahead, verdict_too_old, verdict_conflict, verdict_no_room, verdict_committed}

-- THE POSITION'S WORD

-- the image one position on is the image with that word replaced
pub position_put : (m m' : List ℕ) (A : Arrangement) → Image m A → Image m' (moved_on A) → m' ≡ put_word 4 m position_from (A.p + 1)
unfolding header_at
position_put m m' A i j =
    same_words 4 (16 + 16 * A.N) m' (put_word 4 m position_from (A.p + 1)) j.bytes (bytes_put 4 m position_from (A.p + 1) i.bytes)
    (j.size ∙ omega arith) (length_put 4 m position_from (A.p + 1) ∙ i.size ∙ omega arith) words
  where
    alone : Within position_from position_to m m'
    alone = position_alone m m' A i j

    here : word 4 m' 12 ≡ word 4 (put_word 4 m position_from (A.p + 1)) 12
    here = ap (λ (h : Header). h.position) j.header ∙ sym (word_put 4 m 12 (A.p + 1) (omega (arith, i.size)) (omega (arith, j.arranged.lawful.last)))

    words : (q : ℕ) → q < 16 + 16 * A.N → word 4 m' (q * 4) ≡ word 4 (put_word 4 m position_from (A.p + 1)) (q * 4)
    words q l = elim (ℕ_discrete q 3) [
      | yes e ↦ let k : q * 4 ≡ 12 = omega arith in rw k here
      | no n ↦ elsewhere q (elim (dec_lt q 3) [ yes g ↦ inl (omega arith) | no g ↦ inr (omega arith) ])
    ]
      where
        elsewhere : (q : ℕ) → (q * 4 + 4 ≤ 12) ⊎ (16 ≤ q * 4) → word 4 m' (q * 4) ≡ word 4 (put_word 4 m position_from (A.p + 1)) (q * 4)
        elsewhere q apart =
            word_same 4 m' m (q * 4) (q * 4) (λ k s. alone.others (q * 4 + k) (⊎_elim (λ g. inl (omega arith)) (λ g. inr (omega arith)) apart))
            ∙ sym (word_apart 4 4 m 12 (A.p + 1) (q * 4) apart)

-- EACH ANSWER EXACTLY WHEN

-- the row of a verdict
abbrev pub RowOf : List ℕ → List ℕ → Verdict → Type 0
RowOf m bytes committed = Row0 m bytes
RowOf m bytes conflict = Row1 m bytes
RowOf m bytes too_old = Row2 m bytes
RowOf m bytes no_room = Row3 m bytes
RowOf m bytes malformed = Row4 m bytes
RowOf m bytes ahead = Row5 m bytes
RowOf m bytes positions_used_up = Row6 m

-- some row applies, and it is the verdict's
pub row_applies : (m bytes : List ℕ) (S : State) → Means m S → S.p ≤ last_position → RowOf m bytes (verdict S (parse bytes))
row_applies m bytes S means last = ⊎_elim
    (λ (l : last_position ≤ S.p). subst (RowOf m bytes) (sym (verdict_last S (parse bytes) l)) (record { S = S; means = means; used_up = omega arith }))
    (λ (l : S.p < last_position). formed (record { means = means; left = l }) (parse bytes) refl)
    (le_or_lt last_position S.p)
  where
    applies : (o : Option Rec) → parse bytes ≡ o → (v : Verdict) → verdict S o ≡ v → RowOf m bytes v → RowOf m bytes (verdict S (parse bytes))
    applies o is v e row = subst (RowOf m bytes) (sym (ap (verdict S) is ∙ e)) row

    zoned : (r : Rec) → parse bytes ≡ some r → InZone m bytes S r → RowOf m bytes (verdict S (parse bytes))
    zoned r is z =
        let l = z.above.above.left in
        ⊎_elim
        (λ (c : T (conflicts S r)). applies (some r) is conflict (verdict_conflict S r l z.not_ahead z.not_too_old c) (record { S = S; r = r; above = z; conflict = c }))
        (λ (c : T (not (conflicts S r))). ⊎_elim
        (λ (k : count S r.points ≤ S.N).
        applies (some r) is committed (verdict_committed S r l z.not_ahead z.not_too_old c k) (record { S = S; r = r; above = z; no_conflict = c; room = k }))
        (λ (k : S.N < count S r.points).
        applies (some r) is no_room (verdict_no_room S r l z.not_ahead z.not_too_old c k) (record { S = S; r = r; above = z; no_conflict = c; no_room = k }))
        (le_or_lt (count S r.points) S.N))
        (test (conflicts S r))

    formed : PositionLeft m S → (o : Option Rec) → parse bytes ≡ o → RowOf m bytes (verdict S (parse bytes))
    formed p none is = applies none is malformed (verdict_malformed S p.left) (record { S = S; above = p; malformed = is })
    formed p (some r) is =
        let f : Formed m bytes S r = record { above = p; well_formed = is } in
        ⊎_elim
        (λ (a : r.snapshot ≤ S.p). ⊎_elim
        (λ (n : S.p - r.snapshot ≤ S.Z). zoned r is (record { above = f; not_ahead = a; not_too_old = n }))
        (λ (n : S.Z < S.p - r.snapshot). applies (some r) is too_old (verdict_too_old S r p.left a n) (record { S = S; r = r; above = f; not_ahead = a; too_old = omega arith }))
        (le_or_lt (S.p - r.snapshot) S.Z))
        (λ (a : S.p < r.snapshot). applies (some r) is ahead (verdict_ahead S r p.left a) (record { S = S; r = r; above = f; ahead = a }))
        (le_or_lt r.snapshot S.p)

-- a row that applies fixes the verdict, at the state that the pool means
record Fixes (m bytes : List ℕ) (v : Verdict) : Type 0 where
  S : State
  means : Means m S
  fixed : verdict S (parse bytes) ≡ v

row_fixes : (m bytes : List ℕ) (v : Verdict) → RowOf m bytes v → Fixes m bytes v
row_fixes m bytes positions_used_up w = record { S = w.S; means = w.means; fixed = verdict_last w.S (parse bytes) (omega (arith, w.used_up)) }
row_fixes m bytes malformed w = record { S = w.S; means = w.above.means; fixed = ap (verdict w.S) w.malformed ∙ verdict_malformed w.S w.above.left }
row_fixes m bytes ahead w = let f = w.above in record {
  S = w.S;
  means = f.above.means;
  fixed = ap (verdict w.S) f.well_formed ∙ verdict_ahead w.S w.r f.above.left w.ahead;
}
row_fixes m bytes too_old w = let f = w.above in record {
  S = w.S;
  means = f.above.means;
  fixed = ap (verdict w.S) f.well_formed ∙ verdict_too_old w.S w.r f.above.left w.not_ahead (omega (arith, w.too_old));
}
row_fixes m bytes conflict w = let z = w.above in record {
  S = w.S;
  means = z.above.above.means;
  fixed = ap (verdict w.S) z.above.well_formed ∙ verdict_conflict w.S w.r z.above.above.left z.not_ahead z.not_too_old w.conflict;
}
row_fixes m bytes no_room w = let z = w.above in record {
  S = w.S;
  means = z.above.above.means;
  fixed = ap (verdict w.S) z.above.well_formed ∙ verdict_no_room w.S w.r z.above.above.left z.not_ahead z.not_too_old w.no_conflict w.no_room;
}
row_fixes m bytes committed w = let z = w.above in record {
  S = w.S;
  means = z.above.above.means;
  fixed = ap (verdict w.S) z.above.well_formed ∙ verdict_committed w.S w.r z.above.above.left z.not_ahead z.not_too_old w.no_conflict w.room;
}

-- but for 6 and 0 the arrangement moves on
moves_on : (A : Arrangement) (o : Option Rec) (v : Verdict) → verdict (state_of A) o ≡ v
    → ((verdict_answer v).number ≡ 6 → ⊥) → ((verdict_answer v).number ≡ 0 → ⊥) → after_in A o ≡ moved_on A
unfolding after_in
moves_on A o v e n₆ n₀ = ap (left_in A (points_of o)) e ∙ go v n₆ n₀
  where
    go : (v : Verdict) → ((verdict_answer v).number ≡ 6 → ⊥) → ((verdict_answer v).number ≡ 0 → ⊥) → left_in A (points_of o) v ≡ moved_on A
    go committed n₆ n₀ = absurd (n₀ refl)
    go conflict n₆ n₀ = refl
    go too_old n₆ n₀ = refl
    go no_room n₆ n₀ = refl
    go malformed n₆ n₀ = refl
    go ahead n₆ n₀ = refl
    go positions_used_up n₆ n₀ = absurd (n₆ refl)

module _ (m bytes m' : List ℕ) (x : Melded) (lent : Bytes m) (b : Bytes bytes) (h : Melds m bytes m' x) where
  number : {y z : Answer} → y ≡ z → y.number ≡ z.number
  number e = ap (λ (y : Answer). y.number) e

  -- a pool that means a state is answered by the rules
  answered : (S : State) → Means m S → x.answer ≡ verdict_answer (verdict S (parse bytes))
  answered S means = ap (λ (y : Melded). y.answer) (meld_means S means b h).0

  fit_means : (f : Fit m) → Means m (state_of f.arrangement)
  fit_means f = record { arrangement = f.arrangement; image = f.image; state = refl }

  -- one row
  row_tells : (v : Verdict) → (x.answer ≡ verdict_answer v) ↔ RowOf m bytes v
  row_tells v = (λ e. go e (fit_or_not m lent), λ row. let f = row_fixes m bytes v row in answered f.S f.means ∙ ap verdict_answer f.fixed)
    where
      go : x.answer ≡ verdict_answer v → Dec (Fit m) → RowOf m bytes v
      go e (yes f) =
          let S = state_of f.arrangement in
          let same : verdict S (parse bytes) ≡ v = verdict_of_lem (sym (answered S (fit_means f)) ∙ e) in
          subst (RowOf m bytes) same (row_applies m bytes S (fit_means f) f.image.arranged.lawful.last)
      go e (no u) = absurd (omega (arith, below_seven v, number e, number (ap (λ (y : Melded). y.answer) (h.unfit u).unfit_is)))

  -- 7
  unfit_tells : (x.answer ≡ Names.unfit_pool) ↔ Row7 m
  unfit_tells = (
    λ e f. omega (arith, below_seven (verdict (state_of f.arrangement) (parse bytes)), number e, number (answered (state_of f.arrangement) (fit_means f))),
    λ u. ap (λ (y : Melded). y.answer) (h.unfit u).unfit_is,
  )

  -- the position
  moved : (x.answer.number ≡ 6 → ⊥) → (x.answer.number ≡ 0 → ⊥) → (S : State) → Means m S → m' ≡ put_word 4 m position_from (S.p + 1)
  moved n₆ n₀ S means =
      let A = means.arrangement in
      let v = verdict (state_of A) (parse bytes) in
      let e : x.answer.number ≡ (verdict_answer v).number = number (ap (λ (y : Melded). y.answer) (h.fit A means.image).verdict_is) in
      let on : after_in A (parse bytes) ≡ moved_on A = moves_on A (parse bytes) v refl (λ z. n₆ (e ∙ z)) (λ z. n₀ (e ∙ z)) in
      position_put m m' A means.image (subst (Image m') on (h.fit A means.image).leaves)
      ∙ ap (λ (S : State). put_word 4 m position_from (S.p + 1)) means.state

  position_moved : UsesPosition x.answer → (S : State) → Means m S → m' ≡ put_word 4 m position_from (S.p + 1)
  position_moved (inl e) = moved (λ z. omega (arith, number e)) (λ z. omega (arith, number e))
  position_moved (inr (inl e)) = moved (λ z. omega (arith, number e)) (λ z. omega (arith, number e))
  position_moved (inr (inr (inl e))) = moved (λ z. omega (arith, number e)) (λ z. omega (arith, number e))
  position_moved (inr (inr (inr (inl e)))) = moved (λ z. omega (arith, number e)) (λ z. omega (arith, number e))
  position_moved (inr (inr (inr (inr e)))) = moved (λ z. omega (arith, number e)) (λ z. omega (arith, number e))

  -- the whole table, for any bytes as the pool and any bytes as the record
  pub meld_exactly : MeldExactly m bytes m' x.answer
  meld_exactly = let t = meld_touches m bytes lent b m' x h in record {
    unfit_pool = unfit_tells;
    positions_used_up = row_tells positions_used_up;
    malformed = row_tells malformed;
    ahead = row_tells ahead;
    too_old = row_tells too_old;
    conflict = row_tells conflict;
    no_room = row_tells no_room;
    committed = row_tells committed;
    unchanged = t.refusal;
    position_on = position_moved;
    next_state = λ e S means. (meld_means S means b h).1;
    as_long = t.commit;
  }
