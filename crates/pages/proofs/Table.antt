-- From what the steps of `feed` have found out to the row of R47 that applies: a law for each call and each return of `feed`.
-- Assumes nothing.
use Prim.Native.Nat.{ℕ, ◌+◌, ◌-◌, ◌≤◌, ◌<◌}
use mathlib.Core.Path.{◌≡◌, refl, sym, ap, ◌∙◌, subst}
use mathlib.Core.Logic.{⊎_elim}
use mathlib.Core.Bool.{Bool, true, false, not}
use mathlib.Core.List.{List, ◌++◌}
use native.Mathlib.Omega.{arith}
use native.Mathlib.Decide.{dec_lt}
use borrow.Author.Tests.{ltb-true, ltb-false, not-true, not-false}
use lib.Dec.{ltb, eqb}
use lib.ListN.{length, take, drop, take-append-drop}
use lib.Seq.{length-take-le, take-append-le, take-take}
use Rattle.record.specs.Answer.{output_short, impossible_length}
use Rattle.record.specs.Reader.{front}
use Rattle.record.proofs.Cases.{by_case}
use Rattle.record_log.specs.Log.{length_at, past_at, impossible}
use Rattle.record_log.proofs.Lengths.{possible_tells}
use Rattle.pages.specs.declared.carry.Begun.{Begun}
use Rattle.pages.specs.declared.carry.Begun.TheVariants.{Short, Impossible, Sized}
use Rattle.pages.specs.declared.told.Happened.TheVariants.{Refused}
use Rattle.pages.specs.declared.told.Fed.{Fed}
use Rattle.pages.specs.Pages.{bytes_in, cannot_be, whole_in, FeedRow, wrong_carry, stuck, cannot_go_on, record_whole, goes_on, at_end, torn, feed_row}
use Rattle.pages.specs.Pages.{undecided, refusing, RecordDecided, FeedsAs, Feeds}
use Rattle.pages.specs.Steps.{begun_in, wait_row, LengthIn, KeepsLength, Complete}
use Rattle.pages.proofs.Rows.{row_is, cannot_is, can_is, whole_is, not_whole_is, may_split, may_tells, no_both}
use Rattle.pages.proofs.Fronts.{Such, held, length_in, said_in, length_take_two}
use Rattle.pages.proofs.Lengths.{allowed}

-- HOW FAR THE RECORD IS

module _ (bytes : List ℕ) (r : Begun) (e : r ≡ begun_in bytes) where
  is_short : r ≡ Short → length bytes < 2
  is_short q =
      by_case (ltb (length bytes) 2) (ltb-true (length bytes) 2) λ p.
      by_case (impossible (length_at bytes 0)) (λ i. let f = simp (p, i) at e in cc) λ i. let f = simp (p, i) at e in cc

  is_impossible : r ≡ Impossible → (2 ≤ length bytes) × (impossible (length_at bytes 0) ≡ true)
  is_impossible q =
      by_case (ltb (length bytes) 2) (λ p. let f = simp p at e in absurd (cc)) λ p.
      by_case (impossible (length_at bytes 0)) (λ i. (ltb-false (length bytes) 2 p, i)) λ i. let f = simp (p, i) at e in absurd (cc)

  is_sized : (size : ℕ) → r ≡ Sized size → (2 ≤ length bytes) × (impossible (length_at bytes 0) ≡ false) × (size ≡ past_at bytes 0)
  is_sized size q =
      by_case (ltb (length bytes) 2) (λ p. let f = simp p at e in absurd (cc)) λ p.
      by_case (impossible (length_at bytes 0)) (λ i. let f = simp (p, i) at e in absurd (cc)) λ i.
      let f = simp (p, i) at e in (ltb-false (length bytes) 2 p, i, cc)

-- THE ROWS

module _ (carry : List ℕ) (carried : ℕ) (part : List ℕ) (over : Bool) where
  abbrev bytes : List ℕ
  bytes = bytes_in carry carried part

  -- what the promise says, once the row is known
  by_row : (x : FeedRow) → feed_row carry carried part over ≡ x → (m m' carry' : List ℕ) (r : Fed) → FeedsAs x m carry carried part r m' carry'
      → Feeds m carry carried part over r m' carry'
  by_row x e m m' carry' r f = record { as_said = subst (λ (y : FeedRow). FeedsAs y m carry carried part r m' carry') (sym e) f }

  -- the last three rows
  row_waits : allowed carry carried ≡ true → cannot_be (take carried carry) ≡ false → cannot_be bytes ≡ false → whole_in bytes ≡ false
      → feed_row carry carried part over ≡ wait_row over (carried + length part)
  row_waits a b c d =
      by_case over
      (λ o. by_case (eqb (carried + length part) 0) (λ z. row_is at_end carry carried part over (a, b, c, d, o, z) ∙ simp (o, z))
      λ z. row_is torn carry carried part over (a, b, c, d, o, z) ∙ simp (o, z)) λ o.
      row_is goes_on carry carried part over (a, b, c, d, o) ∙ simp o

  module _ (b : Bool) (d : b ≡ allowed carry carried) where
    -- the carry is not allowed
    pub refuses_carry : not b ≡ true → (m : List ℕ) (r : Fed) → r ≡ refusing output_short carried → Feeds m carry carried part over r m carry
    refuses_carry t m r e =
        by_row wrong_carry (row_is wrong_carry carry carried part over (sym d ∙ not-true b t)) m m carry r (record { said = e; pool = refl; carry_is = refl })

    module _ (t : not b ≡ false) where
      is_allowed : allowed carry carried ≡ true
      is_allowed = sym d ∙ not-false b t

      such : Such carry carried
      such = let p = may_split carry carried is_allowed in record { sized = p.0; may = p.1 }

      -- where a length is in that can be, or none, no other is carried
      not_stuck : (2 ≤ carried → impossible (length_at bytes 0) ≡ false) → cannot_be (take carried carry) ≡ false
      not_stuck f = can_is (take carried carry)
          (λ h. let two : 2 ≤ carried = omega (arith, held such) in ap impossible (length_take_two carried carry two ∙ sym (said_in such part two)) ∙ f two)

      module _ (r : Begun) (e : r ≡ begun_in bytes) where
        pub short_waits : r ≡ Short → (x : Fed) (carry' : List ℕ)
            → ((m : List ℕ) → FeedsAs (wait_row over (carried + length part)) m carry carried part x m carry') → (m : List ℕ) → Feeds m carry carried part over x m carry'
        short_waits q x carry' f m =
            let h : length bytes < 2 = is_short bytes r e q in
            by_row (wait_row over (carried + length part))
            (row_waits is_allowed (not_stuck (λ k. absurd (omega (arith, length_in such part)))) (can_is bytes (λ k. absurd (omega arith)))
            (not_whole_is bytes (λ k. absurd (omega arith)))) m m carry' x (f m)

        -- a length is in that cannot be: no more than its two bytes are carried
        two_at_most : r ≡ Impossible → carried ≤ 2
        two_at_most q = elim (dec_lt carried 2) [ yes k ↦ omega arith | no k ↦ two (omega arith) ]
          where
            two : 2 ≤ carried → carried ≤ 2
            two h = ⊎_elim (λ x. omega (arith, x.1))
                (λ x. no_both (is_impossible bytes r e q).1 (ap impossible (said_in such part h) ∙ x.0)) (may_tells carry carried such.may h)

        pub length_is_in : r ≡ Impossible → LengthIn carry carried part
        length_is_in q =
            record { no_more = two_at_most q; both = omega (arith, (is_impossible bytes r e q).0, length_in such part); room = omega (arith, such.sized) }

        -- where both were carried, storing them changes nothing
        both_carried : carried ≡ 2 → front (take 2 bytes) carry ≡ carry
        both_carried two =
            let f : take 2 bytes ≡ take 2 carry =
            take-append-le 2 (take carried carry) part (omega (arith, held such)) ∙ ap (λ (n : ℕ). take 2 (take n carry)) two ∙ take-take 2 2 carry (omega arith) in
            ap (λ (l : List ℕ). front l carry) f
            ∙ ap (λ (n : ℕ). take 2 carry ++ drop n carry) (length-take-le 2 carry (omega (arith, such.sized))) ∙ take-append-drop 2 carry

        pub length_kept : r ≡ Impossible → (x : Fed) (carry' : List ℕ) → KeepsLength carry carried part x carry' → (m : List ℕ) → Feeds m carry carried part over x m carry'
        length_kept q x carry' k m = elim (dec_lt carried 2) [ yes l ↦ new l | no l ↦ old (omega (arith, two_at_most q)) ]
          where
            h : 2 ≤ length bytes
            h = (is_impossible bytes r e q).0

            i : impossible (length_at bytes 0) ≡ true
            i = (is_impossible bytes r e q).1

            new : carried < 2 → Feeds m carry carried part over x m carry'
            new l =
                by_row cannot_go_on (row_is cannot_go_on carry carried part over (is_allowed, not_stuck (λ j. absurd (omega arith)), cannot_is bytes h i))
                m m carry' x (record { said = k.said; pool = refl; carry_is = k.carry_is })

            old : carried ≡ 2 → Feeds m carry carried part over x m carry'
            old two =
                let nothing : 2 - carried ≡ 0 = omega arith in
                by_row stuck
                (row_is stuck carry carried part over (
                  is_allowed,
                  cannot_is (take carried carry) (omega (arith, held such)) (ap impossible (length_take_two carried carry (omega arith) ∙ sym (said_in such part (omega arith))) ∙ i),
                ))
                m m carry' x (record {
                  said = k.said ∙ ap (λ (n : ℕ). undecided (Refused impossible_length) n 2) nothing ∙ ap (λ (n : ℕ). refusing impossible_length n) (sym two);
                  pool = refl;
                  carry_is = k.carry_is ∙ both_carried two;
                })

        -- a length is in that can be
        module _ (size : ℕ) (q : r ≡ Sized size) where
          two_in : 2 ≤ length bytes
          two_in = (is_sized bytes r e size q).0

          can_be : impossible (length_at bytes 0) ≡ false
          can_be = (is_sized bytes r e size q).1

          sized_size : size ≡ past_at bytes 0
          sized_size = (is_sized bytes r e size q).2

          pub begun_before : carried ≤ size
          begun_before = elim (dec_lt carried 2) [ yes h ↦ omega (arith, sized_size) | no h ↦ two (omega arith) ]
            where
              two : 2 ≤ carried → carried ≤ size
              two h = ⊎_elim (λ x. no_both x.0 (ap impossible (sym (said_in such part h)) ∙ can_be))
                  (λ x. omega (arith, x.1, said_in such part h, sized_size)) (may_tells carry carried such.may h)

          sized_most : size ≤ 13835
          sized_most = omega (arith, (possible_tells (length_at bytes 0) can_be).1, sized_size)

          pub sized_waits : length part < size - carried → (x : Fed) (carry' : List ℕ)
              → ((m : List ℕ) → FeedsAs (wait_row over (carried + length part)) m carry carried part x m carry') → (m : List ℕ) → Feeds m carry carried part over x m carry'
          sized_waits h x carry' f m =
              by_row (wait_row over (carried + length part))
              (row_waits is_allowed (not_stuck (λ k. can_be)) (can_is bytes (λ k. can_be)) (not_whole_is bytes (λ k. omega (arith, length_in such part, sized_size))))
              m m carry' x (f m)

          pub is_complete : size - carried ≤ length part → Complete carry carried part size
          is_complete h = record { size_is = sized_size; begun = begun_before; ends = omega (arith, begun_before); room = omega (arith, sized_most, such.sized) }

          pub is_decided : size - carried ≤ length part → (x : Fed) (m m' carry' : List ℕ) → RecordDecided m carry carried bytes x m' carry'
              → Feeds m carry carried part over x m' carry'
          is_decided h x m m' carry' f =
              by_row record_whole
              (row_is record_whole carry carried part over (
                is_allowed,
                not_stuck (λ k. can_be),
                can_is bytes (λ k. can_be),
                whole_is bytes (omega (arith, length_in such part, sized_size)),
              )) m m' carry' x f
