-- One call of `feed` on a card that has come so far (`FedSoFar`): it moves the card over one record or leaves it where it is (`fed_on`), and where it
-- says how the log ends, that is so (`ended_so`).
-- The idea: what is in is always the log's bytes from the card's place on, up to somewhere (`in_front`). So a record that is whole in is the one
-- that stands there, and a length that cannot be is the log's.
-- Assumes nothing.
use Prim.Native.Nat.{ℕ, ◌+◌, ◌-◌, ◌≤◌, ◌<◌}
use mathlib.Core.Path.{◌≡◌, refl, sym, ap, ◌∙◌, subst}
use mathlib.Core.Bool.{Bool, true, false}
use mathlib.Core.Option.{Option, none, some}
use mathlib.Core.List.{List, [], ◌∷◌, ◌++◌, append-nil, append_assoc}
use native.Mathlib.Omega.{arith}
use lib.ListN.{length, take, drop, length-take, length-drop}
use lib.Seq.{take-add, drop-drop, length-take-le, take_at, take-take, take-length}
use borrow.Author.Tests.{eqb-true, eqb-false}
use Rattle.record.proofs.Cases.{no_some}
use Rattle.record_log.specs.declared.found.Cut.{Cut}
use Rattle.record_log.specs.declared.found.Cut.TheVariants as Cuts
use Rattle.record_log.specs.Log.{past_at, cut_at, part_of, CutIs}
use Rattle.record_log.proofs.Stands.{end_found}
use Rattle.pool.specs.Image.{Fit}
use Rattle.create.specs.Fresh.{fresh_plan}
use Rattle.meld.specs.declared.melding.Melded.{Melded}
use Rattle.meld.specs.Melds.{Melds}
use Rattle.pages.specs.declared.told.Fed.{Fed}
use Rattle.pages.specs.Pages.{bytes_in, cannot_be, whole_in, record_in, feed_row}
use Rattle.pages.specs.Pages.{FeedRow, wrong_carry, stuck, cannot_go_on, record_whole, goes_on, at_end, torn, RecordDecided, FeedsAs, Feeds}
use Rattle.pages.proofs.Rows.{row_facts, may_join, cannot_tells, no_both}
use Rattle.pages.proofs.Fronts.{Such, length_in, new_length, record_goes_on}
use Rattle.pages.proofs.Decided.{taken_is, carried_is, fit_answers, verdict_said, verdict_taken}
use Rattle.pages.proofs.Carries.{such_left}
use Rattle.demands.specs.Runs.{ReadingOn, Card, is_over, Whole}
use Rattle.demands.specs.Feeding.{verdict_in, verdicts_in, ending_in, FedSoFar}
use Rattle.demands.proofs.Reading.{cut_is, read_last, read_inside, read_fit}
use Rattle.demands.proofs.Cards.{created_fresh}
use Rattle.demands.proofs.LogFronts.{record_stands, record_past, record_handed, cannot_stand, torn_stands}

-- WHAT CALLS TELL

-- the verdicts of calls, and of more
pub verdicts_append : (rs qs : List Fed) → verdicts_in (rs ++ qs) ≡ verdicts_in rs ++ verdicts_in qs
verdicts_append [] qs = refl
verdicts_append (r ∷ rs) qs =
    ap (λ (l : List Melded). verdict_in r.happened r.looks ++ l) (verdicts_append rs qs)
    ∙ sym (append_assoc (verdict_in r.happened r.looks) (verdicts_in rs) (verdicts_in qs))

-- and of one more
verdicts_more : (rs : List Fed) (r x : Fed) → r ≡ x → verdicts_in (rs ++ (r ∷ [])) ≡ verdicts_in rs ++ verdict_in x.happened x.looks
verdicts_more rs r x e =
    verdicts_append rs (r ∷ []) ∙ ap (λ (l : List Melded). verdicts_in rs ++ l) (append-nil (verdict_in r.happened r.looks) ∙ ap (λ (y : Fed). verdict_in y.happened y.looks) e)

-- where that gives none
silent : (rs : List Fed) (r x : Fed) → r ≡ x → verdict_in x.happened x.looks ≡ [] → verdicts_in (rs ++ (r ∷ [])) ≡ verdicts_in rs
silent rs r x e n = verdicts_more rs r x e ∙ ap (λ (l : List Melded). verdicts_in rs ++ l) n ∙ append-nil (verdicts_in rs)

some_same : {x y : Cut} → ◌≡◌ {A = Option Cut} (some x) (some y) → x ≡ y
some_same e = cc

-- ONE CALL

-- a card's pool is fit
pub card_fit : {N Z : ℕ} {log : List ℕ} {xs : List Melded} {place : ℕ} {m : List ℕ} → Card N Z log xs place m → Fit m
card_fit {N} {Z} c = read_fit c.read (record { arrangement = fresh_plan N Z; image = created_fresh c.lent N Z c.new c.created })

-- the first of a list's first are the list's first, as many as they are
take_first : (n : ℕ) (l : List ℕ) → take (length (take n l)) l ≡ take n l
take_first n l = sym (take-take (length (take n l)) n l (omega (arith, length-take n l))) ∙ take-length (take n l)

module _ {N Z : ℕ} {log : List ℕ} {rs : List Fed} {taken : ℕ} {m carry : List ℕ} {carried : ℕ} (c : FedSoFar N Z log rs taken m carry carried) where
  -- the carry may be
  pub fed_such : Such carry carried
  fed_such = record { sized = c.sized; may = c.may }

  -- what is in is the log's bytes from the place on
  in_front : (n : ℕ) → bytes_in carry carried (take n (drop taken log)) ≡ take (carried + n) (drop c.place log)
  in_front n =
      ap (λ (l : List ℕ). l ++ take n (drop taken log)) c.carried_are
      ∙ ap (λ (i : ℕ). take carried (drop c.place log) ++ take n (drop i log)) (sym c.taken_is)
      ∙ ap (λ (l : List ℕ). take carried (drop c.place log) ++ take n l) (sym (drop-drop carried c.place log))
      ∙ sym (take-add carried n (drop c.place log))

  module _ {r : Fed} {m' carry' : List ℕ} (n : ℕ) (over : Bool) (f : Feeds m carry carried (take n (drop taken log)) over r m' carry') where
    abbrev part : List ℕ
    part = take n (drop taken log)

    -- the card stays where it is: no verdict, the same pool, and so many of the bytes from its place on carried
    stays : (x : Fed) → r ≡ x → verdict_in x.happened x.looks ≡ [] → m' ≡ m → c.place + x.carried ≡ taken + x.taken → taken + x.taken ≤ length log
        → take x.carried carry' ≡ take x.carried (drop c.place log) → FedSoFar N Z log (rs ++ (r ∷ [])) (taken + r.taken) m' carry' r.carried
    stays x e none_given same place inside bytes = let s = such_left fed_such f in record {
      place = c.place;
      card = subst (λ (xs : List Melded). Card N Z log xs c.place m') (sym (silent rs r x e none_given)) (subst (λ (k : List ℕ). Card N Z log (verdicts_in rs) c.place k) (sym same) c.card);
      taken_is = omega (arith, taken_is e, carried_is e, place);
      inside = omega (arith, taken_is e, inside);
      carried_are = subst (λ (k : ℕ). take k carry' ≡ take k (drop c.place log)) (sym (carried_is e)) bytes;
      sized = s.sized;
      may = s.may;
    }

    -- nothing was taken, and the carry is the same
    unmoved : (x : Fed) → r ≡ x → verdict_in x.happened x.looks ≡ [] → m' ≡ m → carry' ≡ carry → x.taken ≡ 0 → x.carried ≡ carried
        → FedSoFar N Z log (rs ++ (r ∷ [])) (taken + r.taken) m' carry' r.carried
    unmoved x e none_given same kept none_taken as_lent =
        stays x e none_given same (omega (arith, c.taken_is, none_taken, as_lent)) (omega (arith, c.inside, none_taken))
        (subst (λ (k : ℕ). take k carry' ≡ take k (drop c.place log)) (sym as_lent) (ap (take carried) kept ∙ c.carried_are))

    -- the record's last byte is in: the card moves past it
    moves : RecordDecided m carry carried (bytes_in carry carried part) r m' carry' → cannot_be (take carried carry) ≡ false → cannot_be (bytes_in carry carried part) ≡ false
        → whole_in (bytes_in carry carried part) ≡ true → FedSoFar N Z log (rs ++ (r ∷ [])) (taken + r.taken) m' carry' r.carried
    moves d none_stuck can whole =
        let k : ℕ = carried + n in
        let e = in_front n in
        let f' : cannot_be (take k (drop c.place log)) ≡ false = ap cannot_be (sym e) ∙ can in
        let w' : whole_in (take k (drop c.place log)) ≡ true = ap whole_in (sym e) ∙ whole in
        let u = fit_answers d.melds (card_fit c.card) in
        let x = verdict_said d u in
        let up_to_lem = verdict_taken d u (omega (arith, record_goes_on fed_such part none_stuck)) in
        let melds : Melds m (part_of (Cuts.Record (past_at log c.place)) log c.place) m' d.melded =
        subst (λ (b : List ℕ). Melds m b m' d.melded) (ap record_in e ∙ record_handed log c.place k f' w') d.melds in
        let read = read_last c.card.read (record_stands log c.place k f' w') melds in
        let past : past_at log c.place ≡ c.place + past_at (bytes_in carry carried part) 0 =
        record_past log c.place k f' w' ∙ ap (λ (b : List ℕ). c.place + past_at b 0) (sym e) in
        let on : past_at log c.place + r.carried ≡ taken + r.taken = omega (arith, past, up_to_lem, carried_is x, c.taken_is) in
        let s = such_left fed_such f in
        record {
          place = past_at log c.place;
          card = record {
            lent = c.card.lent;
            new = c.card.new;
            created = c.card.created;
            read = subst (λ (xs : List Melded). ReadingOn log 0 c.card.new xs (past_at log c.place) m') (sym (verdicts_more rs r _ x)) read;
          };
          taken_is = on;
          inside = omega (arith, read_inside read (omega arith), on, carried_is x);
          carried_are = subst (λ (i : ℕ). take i carry' ≡ take i (drop (past_at log c.place) log)) (sym (carried_is x)) refl;
          sized = s.sized;
          may = s.may;
        }

    -- after the call the card is where it was, or past one record more
    pub fed_on : FedSoFar N Z log (rs ++ (r ∷ [])) (taken + r.taken) m' carry' r.carried
    fed_on = go (feed_row carry carried part over) refl f.as_said
      where
        bytes : List ℕ
        bytes = bytes_in carry carried part

        size : length bytes ≡ carried + length part
        size = length_in fed_such part

        go : (row : FeedRow) → feed_row carry carried part over ≡ row → FeedsAs row m carry carried part r m' carry'
            → FedSoFar N Z log (rs ++ (r ∷ [])) (taken + r.taken) m' carry' r.carried
        go wrong_carry e l = no_both (may_join carry carried c.sized c.may) (row_facts wrong_carry carry carried part over e)
        go stuck e l = unmoved _ l.said refl l.pool l.carry_is refl refl
        go cannot_go_on e l =
            let t = row_facts cannot_go_on carry carried part over e in
            let new : carried < 2 = new_length fed_such part t.1 t.2 in
            let two : 2 ≤ length bytes = (cannot_tells bytes t.2).0 in
            let few : length part ≤ length log - taken = omega (arith, length-take n (drop taken log), length-drop taken log) in
            let enough : 2 ≤ carried + n = omega (arith, two, size, length-take n (drop taken log)) in
            stays _ l.said refl l.pool (omega (arith, c.taken_is)) (omega (arith, c.inside, few, two, size))
            (ap (take 2) l.carry_is ∙ take_at (take 2 bytes) (drop (length (take 2 bytes)) carry) 2 (length-take-le 2 bytes two)
            ∙ ap (take 2) (in_front n) ∙ take-take 2 (carried + n) (drop c.place log) enough)
        go record_whole e d = let t = row_facts record_whole carry carried part over e in moves d t.1 t.2 t.3
        go goes_on e l =
            let few : length part ≤ length log - taken = omega (arith, length-take n (drop taken log), length-drop taken log) in
            stays _ l.said refl l.pool (omega (arith, c.taken_is)) (omega (arith, c.inside, few))
            (ap (take (carried + length part)) l.carry_is ∙ take_at bytes (drop (length bytes) carry) (carried + length part) size
            ∙ in_front n ∙ sym (take_first (carried + n) (drop c.place log)) ∙ ap (λ (k : ℕ). take k (drop c.place log)) (ap (length {A = ℕ}) (sym (in_front n)) ∙ size))
        go at_end e l = unmoved _ l.said refl l.pool l.carry_is refl (omega (arith, eqb-true (carried + length part) 0 (row_facts at_end carry carried part over e).5))
        go torn e l = unmoved _ l.said refl l.pool l.carry_is refl refl

    -- where the call says how the log ends, that stands at the card's place; pool and verdicts are as before
    pub ended_so : (over ≡ true → length log ≤ taken + n) → (last : Cut) → ending_in r.happened ≡ some last
        → Whole N Z log (verdicts_in rs) last m × (m' ≡ m) × (verdicts_in (rs ++ (r ∷ [])) ≡ verdicts_in rs)
    ended_so all last ending = go (feed_row carry carried part over) refl f.as_said
      where
        bytes : List ℕ
        bytes = bytes_in carry carried part

        size : length bytes ≡ carried + length part
        size = length_in fed_such part

        -- an ending that was said, and stands there
        ends : (x : Fed) (cut : Cut) → r ≡ x → verdict_in x.happened x.looks ≡ [] → ending_in x.happened ≡ some cut → is_over cut → m' ≡ m
            → cut_at log c.place ≡ cut → Whole N Z log (verdicts_in rs) last m × (m' ≡ m) × (verdicts_in (rs ++ (r ∷ [])) ≡ verdicts_in rs)
        ends x cut e none_given said no_record same stands =
            let is : cut ≡ last = some_same (sym said ∙ ap (λ (y : Fed). ending_in y.happened) (sym e) ∙ ending) in (
              record {
                place = c.place;
                card = c.card;
                found = subst (CutIs log c.place) (stands ∙ is) (cut_is log c.place);
                over = subst is_over is no_record;
              },
              same,
              silent rs r x e none_given,
            )

        -- none was said
        none_said : (x : Fed) → r ≡ x → ending_in x.happened ≡ none → Whole N Z log (verdicts_in rs) last m × (m' ≡ m) × (verdicts_in (rs ++ (r ∷ [])) ≡ verdicts_in rs)
        none_said x e n = no_some (sym n ∙ ap (λ (y : Fed). ending_in y.happened) (sym e) ∙ ending)

        go : (row : FeedRow) → feed_row carry carried part over ≡ row → FeedsAs row m carry carried part r m' carry'
            → Whole N Z log (verdicts_in rs) last m × (m' ≡ m) × (verdicts_in (rs ++ (r ∷ [])) ≡ verdicts_in rs)
        go wrong_carry e l = none_said _ l.said refl
        go stuck e l =
            let t = row_facts stuck carry carried part over e in
            ends _ Cuts.Impossible l.said refl refl tt l.pool (cannot_stand log c.place carried (ap cannot_be (sym c.carried_are) ∙ t.1))
        go cannot_go_on e l =
            let t = row_facts cannot_go_on carry carried part over e in
            ends _ Cuts.Impossible l.said refl refl tt l.pool (cannot_stand log c.place (carried + n) (ap cannot_be (sym (in_front n)) ∙ t.2))
        go record_whole e d = none_said _ (verdict_said d (fit_answers d.melds (card_fit c.card))) refl
        go goes_on e l = none_said _ l.said refl
        go at_end e l =
            let t = row_facts at_end carry carried part over e in
            let z : carried + length part ≡ 0 = eqb-true (carried + length part) 0 t.5 in
            ends _ Cuts.End l.said refl refl tt l.pool
            (end_found log c.place (omega (arith, z, c.taken_is, c.inside, all t.4, length-take n (drop taken log), length-drop taken log)))
        go torn e l =
            let t = row_facts torn carry carried part over e in
            let some : length (take (carried + n) (drop c.place log)) ≡ 0 → ⊥ =
            λ z. eqb-false (carried + length part) 0 t.5 (sym size ∙ ap (length {A = ℕ}) (in_front n) ∙ z) in
            ends _ Cuts.Torn l.said refl refl tt l.pool
            (torn_stands log c.place (carried + n) (omega (arith, c.taken_is, all t.4)) (omega (arith, c.taken_is, c.inside)) some (ap cannot_be (sym (in_front n)) ∙ t.2) (ap whole_in (sym (in_front n)) ∙ t.3))
