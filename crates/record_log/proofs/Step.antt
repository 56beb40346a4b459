-- The walk one cut at a time, for a loop that calls `cut` and holds its place: what a cut says decides what is left of the walk.
-- Assumes nothing.
use mathlib.Core.Path.{◌≡◌, sym, ap, subst, ◌∙◌}
use Prim.Native.Nat.{ℕ}
use mathlib.Core.List.{List, ◌∷◌}
use Rattle.record_log.specs.declared.found.Cut.{Cut}
use Rattle.record_log.specs.declared.found.Cut.TheVariants.{Record}
use Rattle.record_log.specs.Log.{cut_at, part_of}
use Rattle.record_log.specs.Walk.{Walks, ends, tears, cannot_be, hands, WalkPast}
use Rattle.record_log.proofs.Stands.{end_not_record, torn_not_record, impossible_not_record, same_next}

-- where a record stands, it is the next part, and the walk goes on past it
pub walk_goes_on : {log : List ℕ} {place : ℕ} {parts : List (List ℕ)} {last : Cut} (next : ℕ) → Walks log place parts last → cut_at log place ≡ Record next
    → WalkPast log place next parts last
walk_goes_on next (ends d) e = end_not_record (sym d ∙ e)
walk_goes_on next (tears d) e = torn_not_record (sym d ∙ e)
walk_goes_on next (cannot_be d) e = impossible_not_record (sym d ∙ e)
walk_goes_on {log = log} {place = place} next (hands {next = other} {parts = rest} {last = last} d w) e =
    let same : other ≡ next = same_next (sym d ∙ e) in
    record {
      rest = rest;
      all = ap (λ (n : ℕ). part_of (Record n) log place ∷ rest) same;
      walks = subst (λ (n : ℕ). Walks log n rest last) same w;
    }
