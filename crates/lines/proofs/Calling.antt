-- The calls over a part: one law for each way in which the loop that makes them goes on or ends.
-- Assumes nothing.
use Rattle.std.proofs.Common.{◌≡◌, ℕ, ◌+◌, ◌-◌, ◌%◌, ◌^◌, ◌<◌, ◌≤◌, true, false, ◌⊎◌, List, [], ◌∷◌, ◌++◌, length, take, drop, sym, refl, ap, ◌∙◌, subst, inl, inr, true≢false, arith, length-append, length-drop, take_all}
use Rattle.record.specs.declared.answer.Answer.{Answer}
use Rattle.pages.specs.declared.told.Happened.{Happened}
use Rattle.pages.specs.declared.told.Happened.TheVariants.{Decided, Refused, More, End}
use Rattle.pages.specs.declared.told.Fed.{Fed}
use Rattle.pages.specs.Pages.{Feeds}
use Rattle.pages.proofs.Progress.{takes_within, gets_on}
use Rattle.meld.specs.declared.melding.Melded.{Melded}
use Rattle.demands.specs.Feeding.{verdict_in, verdicts_in}
use Rattle.demands.proofs.FedOn.{verdicts_append}
use Rattle.lines.specs.Parts.{on_by, goes_on_by, CallsOver, none_yet, one_more, all_taken, stops, PartFed}

-- THE CALLS SO FAR

-- what was called when the loop's test is reached
pub record SoFar (part : List ℕ) (position : ℕ) (m carry : List ℕ) (carried : ℕ) (place : ℕ) (m' carry' : List ℕ) (carried' here : ℕ) : Type 0 where
  pub calls : List Fed
  pub made : CallsOver part m carry carried calls place m' carry' carried'
  pub inside : place ≤ length part
  pub position_is : here ≡ on_by position (length (verdicts_in calls))

-- none at first
pub begins : (part : List ℕ) (position : ℕ) (m carry : List ℕ) (carried : ℕ) → position < 2 ^ 64 → SoFar part position m carry carried 0 m carry carried position
begins part position m carry carried h = record { calls = []; made = none_yet; inside = omega arith; position_is = omega arith }

-- counting on
on_by_lem : (position n k here there : ℕ) → here ≡ on_by position n → there ≡ on_by here k → there ≡ on_by position (n + k)
on_by_lem position n k here there e f = omega arith

-- so many verdicts with one call more
count_more : (rs : List Fed) (r : Fed) → length (verdicts_in (rs ++ (r ∷ []))) ≡ length (verdicts_in rs) + length (verdict_in r.happened r.looks)
count_more rs r =
    ap (λ (l : List Melded). length l) (verdicts_append rs (r ∷ []))
    ∙ length-append (verdicts_in rs) (verdicts_in (r ∷ []))
    ∙ ap (λ (n : ℕ). length (verdicts_in rs) + n) (length-append (verdict_in r.happened r.looks) [] ∙ omega arith)

-- what is lent of a part from a place on
pub rest_lent : (part : List ℕ) (place : ℕ) → take (length part - place) (drop place part) ≡ drop place part
rest_lent part place = take_all (length part - place) (drop place part) (omega (arith, length-drop place part))

module _ {part : List ℕ} {position : ℕ} {m carry : List ℕ} {carried place : ℕ} {m' carry' : List ℕ} {carried' here : ℕ}
    (s : SoFar part position m carry carried place m' carry' carried' here) {r : Fed} {m'' carry'' : List ℕ}
    (fed : Feeds m' carry' carried' (take (length part - place) (drop place part)) false r m'' carry'') where
  -- a call on the rest of the part
  on_rest : Feeds m' carry' carried' (drop place part) false r m'' carry''
  on_rest = subst (λ (l : List ℕ). Feeds m' carry' carried' l false r m'' carry'') (rest_lent part place) fed

  -- it takes no more than there is
  pub within : place + r.taken ≤ length part
  within = omega (arith, takes_within on_rest, length-drop place part, s.inside)

  -- where the log goes on, something is taken
  pub gets_nearer : goes_on_by r.happened ≡ true → place < length part → 1 ≤ r.taken
  gets_nearer g l = elim (gets_on on_rest (omega (arith, length-drop place part))) [
    | inl h ↦ h
    | inr (inl q) ↦ no q
    | inr (inr (inl q)) ↦ no q
    | inr (inr (inr (inl q))) ↦ no q
    | inr (inr (inr (inr q))) ↦ no q
  ]
    where
      no : {a : Answer} → r.happened ≡ Refused a → 1 ≤ r.taken
      no q = absurd (true≢false (sym g ∙ ap goes_on_by q))

  -- the records decided are counted on by those of this call
  counted : (there : ℕ) → there ≡ on_by here (length (verdict_in r.happened r.looks)) → there ≡ on_by position (length (verdicts_in (s.calls ++ (r ∷ []))))
  counted there t =
      on_by_lem position (length (verdicts_in s.calls)) (length (verdict_in r.happened r.looks)) here there s.position_is t
      ∙ ap (on_by position) (sym (count_more s.calls r))

  -- the log goes on behind what was said, with so many records more
  goes_on : (h : Happened) → r.happened ≡ h → goes_on_by h ≡ true → (there : ℕ) → there ≡ on_by here (length (verdict_in h r.looks))
      → SoFar part position m carry carried (place + r.taken) m'' carry'' r.carried there
  goes_on h e g there t =
      record {
        calls = s.calls ++ (r ∷ []);
        made = one_more s.made on_rest (ap goes_on_by e ∙ g);
        inside = within;
        position_is = counted there (t ∙ ap (λ (x : Happened). on_by here (length (verdict_in x r.looks))) (sym e));
      }

  -- a record was decided
  pub decided : (a : Answer) → r.happened ≡ Decided a → SoFar part position m carry carried (place + r.taken) m'' carry'' r.carried ((here + 1) % 2 ^ 64)
  decided a e = goes_on (Decided a) e refl ((here + 1) % 2 ^ 64) refl

  -- more is wanted
  pub waits : here < 2 ^ 64 → r.happened ≡ More → SoFar part position m carry carried (place + r.taken) m'' carry'' r.carried here
  waits small e = goes_on More e refl here (omega arith)

  -- the log does not go on
  pub stopped : here < 2 ^ 64 → ((a : Answer) × (r.happened ≡ Refused a)) ⊎ (r.happened ≡ End)
      → PartFed part position m carry carried m'' carry'' (record { carried = r.carried; position = here; stopped = true })
  stopped small said = elim said [ inl (a, e) ↦ ends_by (Refused a) e refl (omega arith) | inr e ↦ ends_by End e refl (omega arith) ]
    where
      ends_by : (h : Happened) → r.happened ≡ h → goes_on_by h ≡ false → here ≡ on_by here (length (verdict_in h r.looks))
          → PartFed part position m carry carried m'' carry'' (record { carried = r.carried; position = here; stopped = true })
      ends_by h e g t =
          record {
            calls = s.calls ++ (r ∷ []);
            made = stops s.made on_rest (ap goes_on_by e ∙ g);
            position_is = counted here (t ∙ ap (λ (x : Happened). on_by here (length (verdict_in x r.looks))) (sym e));
          }

-- what was said where no record was decided: where the log goes on, that more is wanted
pub wants_more : (h : Happened) → ((a : Answer) → h ≡ Decided a → ⊥) → goes_on_by h ≡ true → h ≡ More
wants_more (Decided a) none g = absurd (none a refl)
wants_more (Refused a) none g = absurd (true≢false (sym g))
wants_more More none g = refl
wants_more End none g = absurd (true≢false (sym g))

-- where it does not, a refusal or that the log is at its end
pub is_over : (h : Happened) → ((a : Answer) → h ≡ Decided a → ⊥) → goes_on_by h ≡ false → ((a : Answer) × (h ≡ Refused a)) ⊎ (h ≡ End)
is_over (Decided a) none g = absurd (none a refl)
is_over (Refused a) none g = inl (a, refl)
is_over More none g = absurd (true≢false g)
is_over End none g = inr refl

-- nothing is left of the part
pub ends : {part : List ℕ} {position : ℕ} {m carry : List ℕ} {carried place : ℕ} {m' carry' : List ℕ} {carried' here : ℕ}
    → SoFar part position m carry carried place m' carry' carried' here → length part ≤ place
    → PartFed part position m carry carried m' carry' (record { carried = carried'; position = here; stopped = false })
ends s h = record { calls = s.calls; made = all_taken s.made h; position_is = s.position_is }
