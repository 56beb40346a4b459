-- From the calls that the programs make to the runs of the theorems (R49): a part fed, then more parts, then the log over.
-- The idea: lent a fit pool and a carry that may be, a call behind which the log does not go on says 11.
-- Assumes nothing.
use Rattle.std.proofs.Common.{◌≡◌, ℕ, Bool, true, false, eqb, List, [], ◌∷◌, ◌++◌, length, drop, sym, refl, ap, ◌∙◌, subst, true≢false, append_assoc, append-nil, arith, drop_of_length-le, drop-drop, ne_eqb, eqb-true}
use mathlib.Core.Option.{none, some}
use Rattle.record.specs.Answer.{committed, torn_log, impossible_length}
use Rattle.record.proofs.Cases.{by_case, no_some}
use Rattle.record_log.specs.declared.found.Cut.{Cut}
use Rattle.record_log.specs.declared.found.Cut.TheVariants as Cuts
use Rattle.pool.specs.Image.{Fit}
use Rattle.create.specs.Fresh.{Created}
use Rattle.pages.specs.declared.told.Happened.{Happened}
use Rattle.pages.specs.declared.told.Happened.TheVariants.{Decided, Refused, More, End}
use Rattle.pages.specs.declared.told.Fed.{Fed}
use Rattle.pages.specs.Pages.{carry_size, feed_row, FeedRow, wrong_carry, stuck, cannot_go_on, record_whole, goes_on, at_end, torn, FeedsAs, Feeds}
use Rattle.pages.proofs.Rows.{row_facts, may_join, may_few, no_both}
use Rattle.pages.proofs.Fronts.{Such}
use Rattle.pages.proofs.Decided.{happened_is, fit_answers, verdict_said}
use Rattle.pages.proofs.Carries.{such_left}
use Rattle.pages.proofs.Refusals.{feed_stays_fit}
use Rattle.demands.specs.Runs.{Whole}
use Rattle.demands.specs.Calls.{none_more}
use Rattle.demands.specs.Feeding.{verdicts_in, ending_in, PartsFed, next_part, breaks_off, is_over}
use Rattle.demands.proofs.Calls.{stays_fit}
use Rattle.demands.proofs.Parts.{parts_whole}
use Rattle.demands.proofs.SomeFeeding.{over_ends}
use Rattle.lines.specs.declared.parts.Going.{Going}
use Rattle.lines.specs.Parts.{goes_on_by, CallsOver, none_yet, one_more, PartCalls, all_taken, stops, PartFed, closed_by, Finishes, LogMelded}

-- WHAT A CALL SAYS

-- where the log goes on, nothing is said of its ending
goes_none : (h : Happened) → goes_on_by h ≡ true → ending_in h ≡ none
goes_none (Decided a) t = refl
goes_none (Refused a) t = absurd (true≢false (sym t))
goes_none More t = refl
goes_none End t = absurd (true≢false (sym t))

-- what a call says of the ending, where it says something, is how the log is closed
ending_closed : (h : Happened) (last : Cut) → ending_in h ≡ some last → ending_in h ≡ some (closed_by h)
ending_closed (Decided a) last e = absurd (no_some e)
ending_closed (Refused a) last e =
    by_case (eqb a.number torn_log.number)
    (λ t.
    let other : eqb a.number impossible_length.number ≡ false =
    ne_eqb _ _ (λ (s : a.number ≡ 11). absurd (omega (arith, s, eqb-true a.number 10 t))) in
    simp (t, other)) λ f.
    by_case (eqb a.number impossible_length.number) (λ t. simp (f, t)) λ g. absurd (no_some (simp (f, g) at e))
ending_closed More last e = absurd (no_some e)
ending_closed End last e = refl

module _ {m carry : List ℕ} {carried : ℕ} (fit : Fit m) (s : Such carry carried) where
  -- while the log is not over, a call behind which it does not go on says 11
  stop_impossible : {part : List ℕ} {r : Fed} {m' carry' : List ℕ} → Feeds m carry carried part false r m' carry' → goes_on_by r.happened ≡ false
      → ending_in r.happened ≡ some Cuts.Impossible
  stop_impossible {part} {r} {m'} {carry'} f n = go (feed_row carry carried part false) refl f.as_said
    where
      went : {x : Fed} → r ≡ x → goes_on_by x.happened ≡ true → ending_in r.happened ≡ some Cuts.Impossible
      went e t = absurd (true≢false (sym t ∙ ap goes_on_by (sym (happened_is e)) ∙ n))

      go : (row : FeedRow) → feed_row carry carried part false ≡ row → FeedsAs row m carry carried part r m' carry' → ending_in r.happened ≡ some Cuts.Impossible
      go wrong_carry e l = no_both (may_join carry carried s.sized s.may) (row_facts wrong_carry carry carried part false e)
      go stuck e l = ap ending_in (happened_is l.said)
      go cannot_go_on e l = ap ending_in (happened_is l.said)
      go record_whole e d = went (verdict_said d (fit_answers d.melds fit)) refl
      go goes_on e l = went l.said refl
      go at_end e l = absurd (true≢false (sym (row_facts at_end carry carried part false e).4))
      go torn e l = absurd (true≢false (sym (row_facts torn carry carried part false e).4))

-- CALLS OVER A PART

-- they leave a fit pool and a carry that may be
calls_ready : {part m carry : List ℕ} {carried : ℕ} {rs : List Fed} {n : ℕ} {m' carry' : List ℕ} {carried' : ℕ}
    → CallsOver part m carry carried rs n m' carry' carried' → Fit m → Such carry carried → Fit m' × Such carry' carried'
calls_ready none_yet fit s = (fit, s)
calls_ready (one_more c f g) fit s = let (a, b) = calls_ready c fit s in (feed_stays_fit f a, such_left b f)

-- and are the first of a run
calls_then : {part m carry : List ℕ} {carried : ℕ} {rs : List Fed} {n : ℕ} {m' carry' : List ℕ} {carried' : ℕ}
    → CallsOver part m carry carried rs n m' carry' carried' → (parts : List (List ℕ)) (qs : List Fed) (m'' : List ℕ) (last : Cut)
    → PartsFed (drop n part ∷ parts) m' carry' carried' qs m'' last → PartsFed (part ∷ parts) m carry carried (rs ++ qs) m'' last
calls_then none_yet parts qs m'' last p = p
calls_then {part} {m} {carry} {carried} (one_more {rs = rs} {n = n} {m'' = m₁} {carry'' = carry₁} {r = r} c f g) parts qs m'' last p =
    subst (λ (l : List Fed). PartsFed (part ∷ parts) m carry carried l m'' last) (sym (append_assoc rs (r ∷ []) qs))
    (calls_then c parts (r ∷ qs) m'' last
    (PartsFed.part_goes_on f (goes_none r.happened g) (subst (λ (l : List ℕ). PartsFed (l ∷ parts) m₁ carry₁ r.carried qs m'' last) (sym (drop-drop r.taken n part)) p)))

-- A PART FED

-- it leaves a fit pool and a carry that may be
pub part_ready : {part m carry : List ℕ} {carried : ℕ} {rs : List Fed} {m' carry' : List ℕ} {carried' : ℕ} {b : Bool}
    → PartCalls part m carry carried rs m' carry' carried' b → Fit m → Such carry carried → Fit m' × Such carry' carried'
part_ready (all_taken c h) fit s = calls_ready c fit s
part_ready (stops c f g) fit s = let (a, b) = calls_ready c fit s in (feed_stays_fit f a, such_left b f)

-- all of it is taken: other parts may follow
pub part_then : {part m carry : List ℕ} {carried : ℕ} {rs : List Fed} {m' carry' : List ℕ} {carried' : ℕ}
    → PartCalls part m carry carried rs m' carry' carried' false → (parts : List (List ℕ)) (qs : List Fed) (m'' : List ℕ) (last : Cut)
    → PartsFed parts m' carry' carried' qs m'' last → PartsFed (part ∷ parts) m carry carried (rs ++ qs) m'' last
part_then {part} (all_taken {n = n} {carried' = k} {m' = m₁} {carry' = carry₁} c h) parts qs m'' last p =
    calls_then c parts qs m'' last (subst (λ (l : List ℕ). PartsFed (l ∷ parts) m₁ carry₁ k qs m'' last) (sym (drop_of_length-le part h)) (next_part p))

-- the log does not go on: its length is impossible
pub part_breaks : {part m carry : List ℕ} {carried : ℕ} {rs : List Fed} {m' carry' : List ℕ} {carried' : ℕ}
    → PartCalls part m carry carried rs m' carry' carried' true → Fit m → Such carry carried → (parts : List (List ℕ))
    → PartsFed (part ∷ parts) m carry carried rs m' Cuts.Impossible
part_breaks (stops {m'' = m₁} {r = r} c f g) fit s parts =
    let (a, b) = calls_ready c fit s in
    calls_then c parts (r ∷ []) m₁ Cuts.Impossible (breaks_off f (stop_impossible a b f g))

-- the log is over
pub finished : {m carry : List ℕ} {carried : ℕ} {m' carry' : List ℕ} {found : Cut} → Such carry carried → (f : Finishes m carry carried m' carry' found)
    → PartsFed [] m carry carried (f.call ∷ []) m' found
finished {m} {carry} {carried} {m'} s f =
    subst (λ (c : Cut). PartsFed [] m carry carried (f.call ∷ []) m' c) (sym f.found_is) (is_over f.feeds (let (last, e) = over_ends s f.feeds in ending_closed f.call.happened last e))

-- FROM A NEW POOL

-- nothing is carried at first
pub such_none : {carry : List ℕ} → length carry ≡ carry_size → Such carry 0
such_none {carry} e = record { sized = e; may = may_few carry 0 (omega arith) }

-- a new pool is fit
pub new_fit : {lent : List ℕ} {N Z : ℕ} {m : List ℕ} → Created lent N Z committed m → Fit m
new_fit {lent} {N} {Z} {m} c = stays_fit lent N Z m m c none_more

module _ (log m carry m' carry' : List ℕ) (sized : length carry ≡ carry_size) (r : Going) (p : PartFed log 1 m carry 0 m' carry' r) where
  -- a whole log in one part, with an impossible length in it
  pub log_breaks : r.stopped ≡ true → LogMelded log m m' Cuts.Impossible
  log_breaks b =
      record {
        carry = carry;
        after = m';
        carry' = carry';
        going = r;
        fed = p;
        whole =
            λ N Z lent made. (
              p.calls,
              subst (λ (l : List ℕ). Whole N Z l (verdicts_in p.calls) Cuts.Impossible m') (append-nil log)
                  (parts_whole made sized
                  (part_breaks (subst (λ (x : Bool). PartCalls log m carry 0 p.calls m' carry' r.carried x) b p.made) (new_fit made) (such_none sized) [])),
            );
      }

  -- and over behind it
  pub log_ends : r.stopped ≡ false → (m'' carry'' : List ℕ) (found : Cut) → Finishes m' carry' r.carried m'' carry'' found → LogMelded log m m'' found
  log_ends b m'' carry'' found f =
      record {
        carry = carry;
        after = m';
        carry' = carry';
        going = r;
        fed = p;
        whole =
            λ N Z lent made.
            let (_, such) = part_ready p.made (new_fit made) (such_none sized) in (
              p.calls ++ (f.call ∷ []),
              subst (λ (l : List ℕ). Whole N Z l (verdicts_in (p.calls ++ (f.call ∷ []))) found m'') (append-nil log)
                  (parts_whole made sized
                  (part_then (subst (λ (x : Bool). PartCalls log m carry 0 p.calls m' carry' r.carried x) b p.made) [] (f.call ∷ []) m'' found (finished such f))),
            );
      }
