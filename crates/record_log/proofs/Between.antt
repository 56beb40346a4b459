-- A cut between records, by the records alone: the first of them, back to back, walk to "end" by themselves. And a cut at either end
-- of the log, where CutLog.antt's theorem leaves nothing out and nothing but "end".
-- Assumes nothing.
use mathlib.Core.Path.{◌≡◌, refl, sym, ap, subst, ◌∙◌}
use Prim.Native.Nat.{ℕ}
use mathlib.Core.List.{List, [], ◌∷◌, ◌++◌, append_assoc}
use lib.ListN.{length, take}
use lib.Seq.{take-append_seam, take-length}
use Rattle.record_log.specs.declared.found.Cut.TheVariants.{End}
use Rattle.record_log.specs.Walk.{Walks, ends, joined, CutLog}
use Rattle.record_log.specs.PartSized.{PartsSized, no_part, one_more}
use Rattle.record_log.proofs.Stands.{end_found}
use Rattle.record_log.proofs.Walk.{walks_once, walks_sized, walks_joined, joined_walks}

-- what is before and what is after, back to back
pub joined_append : (before after : List (List ℕ)) → joined (before ++ after) ≡ joined before ++ joined after
joined_append [] after = refl
joined_append (part ∷ before) after =
    ap (λ (l : List ℕ). part ++ l) (joined_append before after) ∙ sym (append_assoc part (joined before) (joined after))

-- what each part is, each of the first of them is
sized_before : (before after : List (List ℕ)) → PartsSized (before ++ after) → PartsSized before
sized_before [] after s = no_part
sized_before (part ∷ before) after (one_more s each) = one_more s (sized_before before after each)

-- a log cut just past some of its records hands those out, then "end"
pub cut_between : (log : List ℕ) (before after : List (List ℕ)) → Walks log 0 (before ++ after) End → Walks (take (length (joined before)) log) 0 before End
cut_between log before after w =
    let front : take (length (joined before)) log ≡ joined before =
    ap (take (length (joined before))) (walks_joined w ∙ joined_append before after) ∙ take-append_seam (joined before) (joined after) in
    subst (λ (l : List ℕ). Walks l 0 before End) (sym front) (joined_walks (sized_before before after (walks_sized w)))

-- cut before its first byte, a log hands out nothing, then "end"
pub cut_at_start : (log : List ℕ) (parts : List (List ℕ)) (c : CutLog log parts 0) → (c.before ≡ []) × (c.last ≡ End)
cut_at_start log parts c = walks_once c.walks [] End (ends (end_found (take 0 log) 0 refl))

-- cut behind its last byte, it hands out all its records, then "end"
pub cut_at_end : (log : List ℕ) (parts : List (List ℕ)) → Walks log 0 parts End → (c : CutLog log parts (length log)) → (c.before ≡ parts) × (c.last ≡ End)
cut_at_end log parts w c = walks_once c.walks parts End (subst (λ (l : List ℕ). Walks l 0 parts End) (sym (take-length log)) w)
