-- What is told of a place tells the case: no two cases are told alike. So `cut` answers the case that stands there, and the number told
-- is 10 exactly where the log is torn, and 11 exactly where a length is impossible.
-- Assumes nothing.
use mathlib.Core.Path.{◌≡◌, refl, sym, ap, ◌∙◌}
use Prim.Native.Nat.{ℕ}
use mathlib.Core.Bool.{Bool, true, false, cond}
use mathlib.Core.Option.{Option, none, some}
use mathlib.Core.List.{List}
use lib.Dec.{eqb}
use Rattle.std.specs.Prelude.{if◌then◌else◌}
use Rattle.record.specs.declared.answer.Answer.{Answer}
use Rattle.record.specs.Answer.{torn_log, impossible_length}
use Rattle.record_log.specs.declared.found.Cut.{Cut}
use Rattle.record_log.specs.declared.found.Cut.TheVariants.{End, Torn, Impossible, Record}
use Rattle.record_log.specs.Log.{cut_at, length_at, past_at, ends_at, no_length_at, impossible, runs_past, CutTold, cut_told, CutIs}

-- the case, out of what is told
abbrev of_answer : Option Answer → Cut
of_answer none = End
of_answer (some a) = if eqb a.number torn_log.number then Torn else Impossible

abbrev of_past : Option Answer → Option ℕ → Cut
of_past a none = of_answer a
of_past a (some next) = Record next

back : (c : Cut) → of_past (cut_told c).answer (cut_told c).past ≡ c
back End = refl
back Torn = refl
back Impossible = refl
back (Record next) = refl

-- cases that are told alike are one
pub cut_told_apart : (r q : Cut) → cut_told r ≡ cut_told q → r ≡ q
cut_told_apart r q e = sym (back r) ∙ ap (λ (t : CutTold). of_past t.answer t.past) e ∙ back q

-- what meets the promise is the case that stands at the place
pub cut_case : (log : List ℕ) (place : ℕ) (r : Cut) → CutIs log place r → r ≡ cut_at log place
cut_case log place r h = cut_told_apart r (cut_at log place) h.told

-- the number told is 10 where there are too few bytes, 11 where the length cannot be, and none elsewhere
pub cut_number : (log : List ℕ) (place : ℕ) (r : Cut) → CutIs log place r
    → (cut_told r).answer
    ≡ (if ends_at log place then none else
    if no_length_at log place then some torn_log else
    if impossible (length_at log place) then some impossible_length else
    if runs_past log place then some torn_log else
    none)
unfolding cut_at
cut_number log place r h =
    ap (λ (t : CutTold). t.answer) h.told ∙ of_tests (ends_at log place) (no_length_at log place) (impossible (length_at log place)) (runs_past log place)
  where
    of_tests : (e b i p : Bool)
        → (cut_told (cond e End (cond b Torn (cond i Impossible (cond p Torn (Record (past_at log place))))))).answer
        ≡ cond e none (cond b (some torn_log) (cond i (some impossible_length) (cond p (some torn_log) none)))
    of_tests true b i p = refl
    of_tests false true i p = refl
    of_tests false false true p = refl
    of_tests false false false true = refl
    of_tests false false false false = refl
