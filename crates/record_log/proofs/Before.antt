-- What 11 and the longer lengths have changed, and what not (R14, R54): but where a length from 904 to 13,833 stands, a cut says what it said before, but
-- for which of two answers stands for "broken"; so a log that led to "end" leads there, and hands out the same parts.
-- Assumes nothing.
use Prim.Native.Nat.{ℕ, ◌+◌, ◌-◌, ◌≤◌, ◌<◌}
use mathlib.Core.Path.{◌≡◌, refl, sym, ap, ◌∙◌}
use mathlib.Core.Bool.{true, false}
use mathlib.Core.Logic.{◌⊎◌, inl, inr}
use mathlib.Core.List.{List}
use native.Mathlib.Omega.{arith}
use lib.ListN.{length, drop, length-drop}
use lib.Seq.{length-take-le}
use lib.Dec.{ltb}
use borrow.Author.Tests.{ltb-false, lt-ltb, le-ltb, eq-eqb}
use Rattle.record.proofs.Cases.{by_case}
use Rattle.record_log.specs.declared.found.Cut.{Cut}
use Rattle.record_log.specs.declared.found.Cut.TheVariants.{End, Torn, Impossible, Record}
use Rattle.record_log.specs.Log.{cut_at, length_at, min_length, max_length, ends_at, no_length_at, runs_past}
use Rattle.record_log.specs.Walk as W
use Rattle.record_log.specs.Walk.{Walks}
use Rattle.record_log.specs.Before.{ended, broken, whole, cut_before, said_before, EndedBefore, ends, hands, SmallBefore}
use Rattle.record_log.proofs.Stands.{end_tells, record_tells}

-- where both rules have the same of the length, it is said what was said before
alike : (log : List ℕ) (place : ℕ) → ltb max_length (length_at log place) ≡ ltb 903 (length_at log place) → said_before (cut_at log place) ≡ cut_before log place
unfolding cut_at cut_before
alike log place same =
    by_case (ends_at log place) (λ a. simp a) λ a.
    by_case (no_length_at log place) (λ b. simp (a, b)) λ b.
    let two : place + 2 ≤ length log = ltb-false _ _ b in
    let in_log : place ≤ length log = omega arith in
    let k : ltb (length log) place ≡ false = le-ltb _ _ in_log in
    by_case (runs_past log place)
    (λ g.
    by_case (ltb (length_at log place) min_length) (λ d. simp (a, b, k, g, d)) λ d.
    by_case (ltb 903 (length_at log place)) (λ f. simp (a, b, k, g, d, f, same ∙ f)) λ f. simp (a, b, k, g, d, f, same ∙ f)) λ g.
    by_case (ltb (length_at log place) min_length) (λ d. simp (a, b, k, g, d)) λ d.
    by_case (ltb 903 (length_at log place)) (λ f. simp (a, b, k, g, d, f, same ∙ f)) λ f.
    simp (a, b, k, g, d, f, same ∙ f)

-- so at every place of every log, but where a length stands that only today's rule has
pub cut_as_before : (log : List ℕ) (place : ℕ) → (length_at log place ≤ 903) ⊎ (max_length < length_at log place) → said_before (cut_at log place) ≡ cut_before log place
cut_as_before log place (inl few) = alike log place (le-ltb max_length (length_at log place) (omega arith) ∙ sym (le-ltb _ _ few))
cut_as_before log place (inr many) = alike log place (lt-ltb _ _ many ∙ sym (lt-ltb 903 (length_at log place) (omega arith)))

-- R54: a length above 903 was called broken, but at the end
pub broken_by : (log : List ℕ) (place : ℕ) → ends_at log place ≡ false → ltb 903 (length_at log place) ≡ true → cut_before log place ≡ broken
unfolding cut_before
broken_by log place a f =
    by_case (ltb (length log) (place + 2)) (λ b. simp (a, b)) λ b.
    by_case (ltb (length log) place) (λ d. simp (a, b, d)) λ d.
    by_case (ltb (length_at log place) 7) (λ e. simp (a, b, d, e)) λ e. simp (a, b, d, e, f)

-- so what was not called broken is said as it was
not_broken : (log : List ℕ) (place : ℕ) → (cut_before log place ≡ broken → ⊥) → said_before (cut_at log place) ≡ cut_before log place
unfolding cut_at cut_before
not_broken log place n =
    by_case (ltb 903 (length_at log place))
    (λ f. by_case (ends_at log place) (λ a. simp a) (λ a. absurd (n (broken_by log place a f))))
    (λ f. cut_as_before log place (inl (ltb-false _ _ f)))

-- what was "end" or a record was not broken
not_ended : ended ≡ broken → ⊥
not_ended e = let z : ◌≡◌ {A = ℕ} 0 1 = cc in omega arith

not_whole : (next : ℕ) → whole next ≡ broken → ⊥
not_whole next e = let z : ◌≡◌ {A = ℕ} 0 1 = cc in omega arith

-- what was "end" is "end"
end_back : (c : Cut) → said_before c ≡ ended → c ≡ End
end_back End e = refl
end_back Torn e = let z : ◌≡◌ {A = ℕ} 0 1 = cc in absurd (omega arith)
end_back Impossible e = let z : ◌≡◌ {A = ℕ} 0 1 = cc in absurd (omega arith)
end_back (Record next) e = let z : ◌≡◌ {A = ℕ} 0 1 = cc in absurd (omega arith)

-- and what was a record is that record
record_back : (c : Cut) (next : ℕ) → said_before c ≡ whole next → c ≡ Record next
record_back End next e = let z : ◌≡◌ {A = ℕ} 0 1 = cc in absurd (omega arith)
record_back Torn next e = let z : ◌≡◌ {A = ℕ} 0 1 = cc in absurd (omega arith)
record_back Impossible next e = let z : ◌≡◌ {A = ℕ} 0 1 = cc in absurd (omega arith)
record_back (Record other) next e = let same : other ≡ next = cc in ap Record same

-- a log that led to "end" leads there, and hands out the same parts
pub ends_as_before : {log : List ℕ} {place : ℕ} {parts : List (List ℕ)} → EndedBefore log place parts → Walks log place parts End
ends_as_before {log} {place} (ends e) = W.ends (end_back (cut_at log place) (not_broken log place (λ b. not_ended (sym e ∙ b)) ∙ e))
ends_as_before {log} {place} (hands {next = next} e w) =
    W.hands (record_back (cut_at log place) next (not_broken log place (λ b. not_whole next (sym e ∙ b)) ∙ e)) (ends_as_before w)

-- at the end of a log the rule of before said so
at_end_lem : (log : List ℕ) (place : ℕ) → place ≡ length log → cut_before log place ≡ ended
unfolding cut_before
at_end_lem log place e = simp (eq-eqb _ _ e)

-- and one that leads there, and hands out no part of more than 905 bytes, led there
pub ended_before : {log : List ℕ} {place : ℕ} {parts : List (List ℕ)} → Walks log place parts End → SmallBefore parts → EndedBefore log place parts
ended_before {log} {place} (W.ends e) s = ends (at_end_lem log place (end_tells log place e))
ended_before {log} {place} (W.hands {next = next} e w) s =
    let r = record_tells log place next e in
    let few : length_at log place ≤ 903 = omega (arith, s.0, r.past, length-take-le (next - place) (drop place log) (omega (arith, length-drop place log, r.past, r.inside))) in
    hands (sym (cut_as_before log place (inl few)) ∙ ap said_before e) (ended_before w s.1)
