-- R48 is exact: every call that is lent a carry that may be leaves one (`leaves_such`), each one that may be is left by some call
-- (`left_by_some`), and any other is refused with 8 (`refused_else`).
-- Assumes nothing.
use Prim.Native.Nat.{ℕ, ◌+◌, ◌-◌, ◌≤◌, ◌<◌}
use mathlib.Core.Path.{◌≡◌, refl, sym, ap, ◌∙◌, subst}
use mathlib.Core.Logic.{◌⊎◌, ⊎_elim}
use mathlib.Core.Bool.{Bool, true, false, ◌&&◌}
use mathlib.Core.List.{List, [], ◌++◌}
use native.Mathlib.Omega.{arith}
use native.Mathlib.Decide.{dec_lt}
use lib.Dec.{eqb}
use lib.ListN.{length, take, drop, take-append-drop}
use lib.Seq.{length-take-le, take_all}
use Rattle.std.specs.Prelude.{if◌then◌else◌}
use Rattle.record.specs.Answer.{output_short, impossible_length}
use Rattle.record.specs.Reader.{front}
use Rattle.record.proofs.Cases.{by_case}
use Rattle.record_log.specs.Log.{length_at, past_at, impossible}
use Rattle.pages.specs.declared.told.Happened.TheVariants.{Refused, More}
use Rattle.pages.specs.declared.told.Fed.{Fed}
use Rattle.pages.specs.Pages.{carry_size, may_carry, bytes_in, cannot_be, whole_in, record_in, feed_row, undecided, refusing, is_unfit}
use Rattle.pages.specs.Pages.{FeedRow, wrong_carry, stuck, cannot_go_on, record_whole, goes_on, at_end, torn, FeedsAs, Feeds}
use Rattle.pages.proofs.Rows.{row_facts, row_is, no_both, cannot_tells, cannot_is, can_tells, can_is, not_whole_tells, not_whole_is, may_tells, may_few, may_stuck, may_amid, may_split, may_join}
use Rattle.pages.proofs.Fronts.{Such, held, length_in, length_take_two, length_append_two, length_front, record_size, record_fits, begun_fits}
use Rattle.pages.proofs.Decided.{carried_is, unfit_said, verdict_said, verdict_carry}

-- WHAT A CALL LEAVES MAY BE CARRIED

module _ (carry : List ℕ) (sized : length carry ≡ carry_size) where
  -- the same carry, and as many
  same_such : {carried k : ℕ} {carry' : List ℕ} → may_carry carry carried ≡ true → carry' ≡ carry → k ≡ carried → Such carry' k
  same_such {k = n} may c k = record { sized = ap (length {A = ℕ}) c ∙ sized; may = ap (λ (s : List ℕ). may_carry s n) c ∙ ap (may_carry carry) k ∙ may }

  -- bytes that are not yet a whole record, at its front
  begun_such : (bytes : List ℕ) → cannot_be bytes ≡ false → whole_in bytes ≡ false → Such (front bytes carry) (length bytes)
  begun_such bytes f w = record {
    sized = length_front bytes carry (omega (arith, begun_fits bytes f w)) ∙ sized;
    may = elim (dec_lt (length bytes) 2) [ yes l ↦ may_few (front bytes carry) (length bytes) l | no g ↦ two (omega arith) ];
  }
    where
      two : 2 ≤ length bytes → may_carry (front bytes carry) (length bytes) ≡ true
      two h =
          let e : length_at (front bytes carry) 0 ≡ length_at bytes 0 = length_append_two bytes (drop (length bytes) carry) h in
          may_amid (front bytes carry) (length bytes) (ap impossible e ∙ can_tells bytes f h) (omega (arith, e, not_whole_tells bytes w h))

  -- two bytes of a length that cannot be
  stuck_such : (bytes : List ℕ) → cannot_be bytes ≡ true → Such (front (take 2 bytes) carry) 2
  stuck_such bytes t =
      let (two, i) = cannot_tells bytes t in
      let size : length (take 2 bytes) ≡ 2 = length-take-le 2 bytes two in
      let e : length_at (front (take 2 bytes) carry) 0 ≡ length_at bytes 0 =
      length_append_two (take 2 bytes) (drop (length (take 2 bytes)) carry) (omega arith) ∙ length_take_two 2 bytes (omega arith) in
      record { sized = length_front (take 2 bytes) carry (omega arith) ∙ sized; may = may_stuck (front (take 2 bytes) carry) (ap impossible e ∙ i) }

  -- nothing is carried, and the record is at the front, or nothing new
  past_such : (carried : ℕ) (bytes : List ℕ) → cannot_be bytes ≡ false → whole_in bytes ≡ true → length (if eqb carried 0 then carry else front (record_in bytes) carry) ≡ carry_size
  past_such carried bytes f w =
      by_case (eqb carried 0) (λ t. simp t sized) λ n.
      simp n (length_front (record_in bytes) carry (omega (arith, record_size bytes f w, record_fits bytes f w)) ∙ sized)

pub such_left : {m carry : List ℕ} {carried : ℕ} {part : List ℕ} {over : Bool} {r : Fed} {m' carry' : List ℕ}
    → Such carry carried → Feeds m carry carried part over r m' carry' → Such carry' r.carried
such_left {m} {carry} {carried} {part} {over} {r} {m'} {carry'} s f = go (feed_row carry carried part over) refl f.as_said
  where
    sized : length carry ≡ carry_size
    sized = s.sized

    go : (row : FeedRow) → feed_row carry carried part over ≡ row → FeedsAs row m carry carried part r m' carry' → Such carry' r.carried
    go wrong_carry e l = no_both (may_join carry carried sized s.may) (row_facts wrong_carry carry carried part over e)
    go stuck e l = same_such carry sized s.may l.carry_is (carried_is l.said)
    go cannot_go_on e l =
        let x = stuck_such carry sized (bytes_in carry carried part) (row_facts cannot_go_on carry carried part over e).2 in
        subst (λ (n : ℕ). Such carry' n) (sym (carried_is l.said)) (subst (λ (c : List ℕ). Such c 2) (sym l.carry_is) x)
    go record_whole e d =
        let t = row_facts record_whole carry carried part over e in
        by_case (is_unfit d.melded)
        (λ u. let (x, y, z) = unfit_said d u in same_such carry sized s.may z (carried_is x)) λ u.
        let size = past_such carry sized carried (bytes_in carry carried part) t.2 t.3 in
        record {
          sized = ap (length {A = ℕ}) (verdict_carry d u) ∙ size;
          may = may_few carry' r.carried (omega (arith, carried_is (verdict_said d u)));
        }
    go goes_on e l =
        let t = row_facts goes_on carry carried part over e in
        let x = begun_such carry sized (bytes_in carry carried part) t.2 t.3 in
        let k : length (bytes_in carry carried part) ≡ r.carried = length_in s part ∙ sym (carried_is l.said) in
        subst (λ (n : ℕ). Such carry' n) k (subst (λ (c : List ℕ). Such c (length (bytes_in carry carried part))) (sym l.carry_is) x)
    go at_end e l = same_such carry sized (may_few carry 0 (omega arith)) l.carry_is (carried_is l.said)
    go torn e l = same_such carry sized s.may l.carry_is (carried_is l.said)

-- every call leaves such a carry
pub leaves_such : {m carry : List ℕ} {carried : ℕ} {part : List ℕ} {over : Bool} {r : Fed} {m' carry' : List ℕ}
    → length carry ≡ carry_size → may_carry carry carried ≡ true → Feeds m carry carried part over r m' carry'
    → (length carry' ≡ carry_size) × (may_carry carry' r.carried ≡ true)
leaves_such sized may f = let s = such_left (record { sized = sized; may = may }) f in (s.sized, s.may)

-- AND EACH THAT MAY BE IS LEFT

-- one call, from nothing carried, with the bytes as its part
pub left_by_some : (m carry : List ℕ) (carried : ℕ) (before : List ℕ) → length carry ≡ carry_size → may_carry carry carried ≡ true
    → length before ≡ carry_size → drop carried before ≡ drop carried carry
    → (r : Fed) × Feeds m before 0 (take carried carry) false r m carry × (r.carried ≡ carried)
left_by_some m carry carried before sized may room rest =
    elim (dec_lt carried 2) [
      | yes l ↦ begun (can_is xs (λ two. absurd (omega (arith, size)))) (not_whole_is xs (λ two. absurd (omega (arith, size))))
      | no g ↦ longer (omega arith)
    ]
  where
    s : Such carry carried
    s = record { sized = sized; may = may }

    xs : List ℕ
    xs = take carried carry

    size : length xs ≡ carried
    size = held s

    -- with the bytes at its front the carry is the one wanted
    becomes : (vs : List ℕ) → vs ≡ xs → front vs before ≡ carry
    becomes vs e =
        ap (λ (l : List ℕ). front l before) e ∙ ap (λ (n : ℕ). xs ++ drop n before) size ∙ ap (λ (l : List ℕ). xs ++ l) rest ∙ take-append-drop carried carry

    passes : (eqb (length before) carry_size && may_carry before 0) ≡ true
    passes = may_join before 0 room (may_few before 0 (omega arith))

    none_yet_lem : cannot_be (take 0 before) ≡ false
    none_yet_lem = can_is [] (λ two. absurd (omega arith))

    begun : cannot_be xs ≡ false → whole_in xs ≡ false → (r : Fed) × Feeds m before 0 xs false r m carry × (r.carried ≡ carried)
    begun f w =
        let row : feed_row before 0 xs false ≡ goes_on = row_is goes_on before 0 xs false (passes, none_yet_lem, f, w, refl) in (
          undecided More (length xs) (0 + length xs),
          record {
            as_said = subst (λ (x : FeedRow). FeedsAs x m before 0 xs (undecided More (length xs) (0 + length xs)) m carry) (sym row)
                (record { said = refl; pool = refl; carry_is = sym (becomes xs refl) });
          },
          omega (arith, size),
        )

    stops : cannot_be xs ≡ true → carried ≡ 2 → (r : Fed) × Feeds m before 0 xs false r m carry × (r.carried ≡ carried)
    stops t two =
        let row : feed_row before 0 xs false ≡ cannot_go_on = row_is cannot_go_on before 0 xs false (passes, none_yet_lem, t) in (
          undecided (Refused impossible_length) (2 - 0) 2,
          record {
            as_said = subst (λ (x : FeedRow). FeedsAs x m before 0 xs (undecided (Refused impossible_length) (2 - 0) 2) m carry) (sym row)
                (record { said = refl; pool = refl; carry_is = sym (becomes (take 2 xs) (take_all 2 xs (omega (arith, size)))) });
          },
          sym two,
        )

    longer : 2 ≤ carried → (r : Fed) × Feeds m before 0 xs false r m carry × (r.carried ≡ carried)
    longer two =
        let e : length_at xs 0 ≡ length_at carry 0 = length_take_two carried carry two in
        ⊎_elim (λ (x : (impossible (length_at carry 0) ≡ true) × (carried ≡ 2)). stops (cannot_is xs (omega (arith, size)) (ap impossible e ∙ x.0)) x.1)
        (λ (x : (impossible (length_at carry 0) ≡ false) × (carried < past_at carry 0)).
        begun (can_is xs (λ _. ap impossible e ∙ x.0)) (not_whole_is xs (λ _. omega (arith, size, e, x.1))))
        (may_tells carry carried may two)

-- ANY OTHER IS REFUSED

-- with 8, and nothing has changed
pub refused_else : {m carry : List ℕ} {carried : ℕ} {part : List ℕ} {over : Bool} {r : Fed} {m' carry' : List ℕ}
    → (length carry ≡ carry_size → ⊥) ⊎ (may_carry carry carried ≡ false) → Feeds m carry carried part over r m' carry'
    → (r ≡ refusing output_short carried) × (m' ≡ m) × (carry' ≡ carry)
refused_else {m} {carry} {carried} {part} {over} {r} {m'} {carry'} wrong f =
    let row : feed_row carry carried part over ≡ wrong_carry = row_is wrong_carry carry carried part over test in
    let l : FeedsAs wrong_carry m carry carried part r m' carry' = subst (λ (x : FeedRow). FeedsAs x m carry carried part r m' carry') row f.as_said in
    (l.said, l.pool, l.carry_is)
  where
    test : (eqb (length carry) carry_size && may_carry carry carried) ≡ false
    test =
        by_case (eqb (length carry) carry_size && may_carry carry carried)
        (λ t. let (a, b) = may_split carry carried t in
        absurd (⊎_elim (λ (n : length carry ≡ carry_size → ⊥). n a) (λ (n : may_carry carry carried ≡ false). no_both b n) wrong)) λ n. n
