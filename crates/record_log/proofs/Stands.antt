-- What each case of a cut tells, and what decides it: "end" exactly at the end, a record exactly if one stands there whole, an impossible
-- length exactly if its two bytes are there, torn exactly if too few bytes are. Everything else about a log rests on these.
-- Assumes nothing.
use mathlib.Core.Path.{◌≡◌, refl, sym, ap, ◌∙◌}
use Prim.Native.Nat.{ℕ, ◌+◌, ◌≤◌, ◌<◌}
use mathlib.Core.Logic.{◌⊎◌, inl, inr}
use mathlib.Core.Bool.{true, false, true≢false}
use mathlib.Core.List.{List}
use native.Mathlib.Omega.{arith}
use lib.ListN.{length}
use borrow.Author.Tests.{eqb-true, eqb-false, ltb-true, ltb-false, eq-eqb, ne_eqb, le-ltb}
use Rattle.record.proofs.Cases.{by_case}
use Rattle.record_log.specs.declared.found.Cut.{Cut}
use Rattle.record_log.specs.declared.found.Cut.TheVariants.{End, Torn, Impossible, Record}
use Rattle.record_log.specs.Log.{cut_at, length_at, past_at, ends_at, no_length_at, impossible, runs_past, RecordAt}
use Rattle.record_log.proofs.Lengths.{possible_tells, possible_is}

-- THE CASES EXCLUDE EACH OTHER

-- each case as a number
abbrev rank : Cut → ℕ
rank End = 0
rank Torn = 1
rank Impossible = 2
rank (Record next) = 3

-- cases with other numbers are not the same
pub apart : {P : Type 0} {c d : Cut} → c ≡ d → (rank c ≡ rank d → ⊥) → P
apart e n = absurd (n (ap rank e))

-- the end is no record
pub end_not_record : {P : Type 0} {next : ℕ} → End ≡ Record next → P
end_not_record e = apart e (λ z. omega arith)

-- a torn log is no record
pub torn_not_record : {P : Type 0} {next : ℕ} → Torn ≡ Record next → P
torn_not_record e = apart e (λ z. omega arith)

-- an impossible length is no record
pub impossible_not_record : {P : Type 0} {next : ℕ} → Impossible ≡ Record next → P
impossible_not_record e = apart e (λ z. omega arith)

-- a record has one place past it
pub same_next : {next other : ℕ} → Record next ≡ Record other → next ≡ other
same_next e = cc

-- WHAT A CASE TELLS

module _ (log : List ℕ) (place : ℕ) where
  -- "end" is said only at the end
  pub end_tells : cut_at log place ≡ End → place ≡ length log
  unfolding cut_at
  end_tells e =
      by_case (ends_at log place) (λ a. eqb-true _ _ a) λ a.
      by_case (no_length_at log place) (λ b. apart (simp (a, b) at e) (λ z. omega arith)) λ b.
      by_case (runs_past log place)
      (λ g. by_case (impossible (length_at log place)) (λ d. apart (simp (a, b, g, d) at e) (λ z. omega arith)) λ d. apart (simp (a, b, g, d) at e) (λ z. omega arith)) λ g.
      by_case (impossible (length_at log place)) (λ d. apart (simp (a, b, g, d) at e) (λ z. omega arith)) λ d.
      apart (simp (a, b, g, d) at e) (λ z. omega arith)

  -- 11 is said only where two bytes are left that are no length of a record
  pub impossible_said : cut_at log place ≡ Impossible → (place + 2 ≤ length log) × (impossible (length_at log place) ≡ true)
  unfolding cut_at
  impossible_said e =
      by_case (ends_at log place) (λ a. apart (simp a at e) (λ z. omega arith)) λ a.
      by_case (no_length_at log place) (λ b. apart (simp (a, b) at e) (λ z. omega arith)) λ b.
      by_case (impossible (length_at log place)) (λ d. (ltb-false _ _ b, d)) λ d.
      by_case (runs_past log place) (λ g. apart (simp (a, b, d, g) at e) (λ z. omega arith)) λ g.
      apart (simp (a, b, d, g) at e) (λ z. omega arith)

  -- 10 is said only where there are too few bytes: fewer than two, or fewer than a length that can be asks for
  pub torn_said : cut_at log place ≡ Torn
      → (place ≡ length log → ⊥) × ((length log < place + 2) ⊎ ((impossible (length_at log place) ≡ false) × (length log < past_at log place)))
  unfolding cut_at
  torn_said e =
      by_case (ends_at log place) (λ a. apart (simp a at e) (λ z. omega arith)) λ a.
      by_case (no_length_at log place) (λ b. (eqb-false _ _ a, inl (ltb-true _ _ b))) λ b.
      by_case (runs_past log place)
      (λ g. by_case (impossible (length_at log place)) (λ d. apart (simp (a, b, g, d) at e) (λ z. omega arith)) λ d. (eqb-false _ _ a, inr (d, ltb-true _ _ g))) λ g.
      by_case (impossible (length_at log place)) (λ d. apart (simp (a, b, g, d) at e) (λ z. omega arith)) λ d.
      apart (simp (a, b, g, d) at e) (λ z. omega arith)

  -- a record is said only where one stands whole
  pub record_tells : (next : ℕ) → cut_at log place ≡ Record next → RecordAt log place next
  unfolding cut_at
  record_tells next e =
      by_case (ends_at log place) (λ a. apart (simp a at e) (λ z. omega arith)) λ a.
      by_case (no_length_at log place) (λ b. apart (simp (a, b) at e) (λ z. omega arith)) λ b.
      by_case (runs_past log place)
      (λ g. by_case (impossible (length_at log place)) (λ d. apart (simp (a, b, g, d) at e) (λ z. omega arith)) λ d. apart (simp (a, b, g, d) at e) (λ z. omega arith)) λ g.
      by_case (impossible (length_at log place)) (λ d. apart (simp (a, b, g, d) at e) (λ z. omega arith)) λ d.
      let y : past_at log place ≡ next = same_next (simp (a, b, g, d) at e) in
      let over : past_at log place ≤ length log = ltb-false _ _ g in
      let p = possible_tells (length_at log place) d in
      record { least = p.0; most = p.1; past = sym y; inside = omega arith }

  -- WHAT DECIDES A CASE

  -- at the end it is said
  pub end_found : place ≡ length log → cut_at log place ≡ End
  unfolding cut_at
  end_found e = simp (eq-eqb _ _ e)

  -- where a record stands whole it is said
  pub record_found : (next : ℕ) → RecordAt log place next → cut_at log place ≡ Record next
  unfolding cut_at
  record_found next r =
      let over : past_at log place ≤ length log = omega (arith, r.past, r.inside) in
      let off : place ≡ length log → ⊥ = λ e. omega arith in
      let two : place + 2 ≤ length log = omega arith in
      simp (ne_eqb _ _ off, le-ltb _ _ two, possible_is _ r.least r.most, le-ltb _ _ over) (ap Record (sym r.past))

  -- where two bytes are left that are no length of a record, 11 is said
  pub impossible_found : place + 2 ≤ length log → impossible (length_at log place) ≡ true → cut_at log place ≡ Impossible
  unfolding cut_at
  impossible_found two i =
      let off : place ≡ length log → ⊥ = λ e. omega arith in
      simp (ne_eqb _ _ off, le-ltb _ _ two, i)

  -- anywhere else the log is torn
  pub torn_found : (place ≡ length log → ⊥) → (place + 2 ≤ length log → impossible (length_at log place) ≡ false) → ((next : ℕ) → RecordAt log place next → ⊥)
      → cut_at log place ≡ Torn
  torn_found off can not_whole = by_cut (cut_at log place) refl
    where
      by_cut : (c : Cut) → cut_at log place ≡ c → c ≡ Torn
      by_cut End e = absurd (off (end_tells e))
      by_cut Torn e = refl
      by_cut Impossible e = let (two, i) = impossible_said e in absurd (true≢false (sym i ∙ can two))
      by_cut (Record next) e = absurd (not_whole next (record_tells next e))
