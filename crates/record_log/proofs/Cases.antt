-- One law for each case that `cut` may answer: what decides the case (Stands.antt) gives the promise.
-- Assumes nothing.
use mathlib.Core.Path.{◌≡◌, sym, ap, ◌∙◌}
use Prim.Native.Nat.{ℕ, ◌+◌, ◌≤◌, ◌<◌}
use mathlib.Core.Bool.{Bool, true, false}
use mathlib.Core.List.{List}
use native.Mathlib.Omega.{arith}
use lib.ListN.{length}
use Rattle.words.specs.Word.{word}
use Rattle.record_log.specs.declared.found.Cut.{Cut}
use Rattle.record_log.specs.declared.found.Cut.TheVariants.{End, Torn, Impossible, Record}
use Rattle.record_log.specs.Log.{length_at, impossible, cut_at, cut_told, CutIs}
use Rattle.record_log.proofs.Lengths.{possible_tells}
use Rattle.record_log.proofs.Stands.{end_found, torn_found, impossible_found, record_found}

-- the case that stands at the place
stands : (log : List ℕ) (place : ℕ) (r : Cut) → cut_at log place ≡ r → CutIs log place r
stands log place r is = record { told = sym (ap cut_told is) }

module _ (log : List ℕ) (place : ℕ) where
  -- at the end
  pub is_end : place ≡ length log → CutIs log place End
  is_end e = stands log place End (end_found log place e)

  -- where fewer than two bytes are left, or the place is past the end
  pub is_short : (place ≡ length log → ⊥) → length log < place + 2 → CutIs log place Torn
  is_short off few = stands log place Torn (torn_found log place off (λ two. absurd (omega arith)) (λ next r. omega (arith, r.past, r.inside)))

  -- where a length w stands, and b says whether it is impossible
  module _ (two : place + 2 ≤ length log) (w : ℕ) (said : w ≡ word 2 log place) (b : Bool) (tested : b ≡ impossible w) where
    of_length : (x : Bool) → b ≡ x → impossible (length_at log place) ≡ x
    of_length x t = ap impossible (sym said) ∙ sym tested ∙ t

    -- it is
    pub is_impossible : b ≡ true → CutIs log place Impossible
    is_impossible t = stands log place Impossible (impossible_found log place two (of_length true t))

    -- it is not, and the record would run past the end
    pub is_cut_off : b ≡ false → length log < place + 2 + w → CutIs log place Torn
    is_cut_off f over =
        stands log place Torn
        (torn_found log place (λ e. omega arith) (λ _. of_length false f) (λ next r. omega (arith, said, r.past, r.inside)))

    -- it is not, and the record stands whole
    pub is_record_lem : b ≡ false → place + 2 + w ≤ length log → CutIs log place (Record (place + 2 + w))
    is_record_lem f inside =
        let p = possible_tells (length_at log place) (of_length false f) in
        stands log place (Record (place + 2 + w))
        (record_found log place (place + 2 + w) (record { least = p.0; most = p.1; past = omega (arith, said); inside = inside }))
