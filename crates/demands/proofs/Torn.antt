-- Torn or impossible, on bytes: cut a log that leads to "end" anywhere, and 11 is never said, neither by a card that walks it (`cut_never_11`) nor to
-- one that is fed it in parts (`fed_never_11`); and over a log that led to "end" by the rule of
-- before a card answers by the rules, part for part (`verdicts_as_before`; Stored.antt says of which they are the answers of then).
-- Assumes nothing.
use Prim.Native.Nat.{ℕ}
use mathlib.Core.Path.{◌≡◌, refl, sym, ap, subst, ◌∙◌}
use mathlib.Core.List.{List, map}
use lib.ListN.{length, take}
use Rattle.words.specs.Word.{Bytes}
use Rattle.record.specs.Answer.{committed, impossible_length}
use Rattle.record.specs.Parse.{parse}
use Rattle.record_log.specs.declared.found.Cut.{Cut}
use Rattle.record_log.specs.declared.found.Cut.TheVariants.{End, Impossible}
use Rattle.record_log.specs.Walk.{Walks}
use Rattle.record_log.specs.Before.{EndedBefore}
use Rattle.record_log.proofs.Walk.{walked, walks_once}
use Rattle.record_log.proofs.CutLog.{cut_never_impossible}
use Rattle.record_log.proofs.Before.{ends_as_before}
use Rattle.rules.specs.State.{fresh}
use Rattle.rules.specs.Log.{after}
use Rattle.create.specs.Fresh.{Created}
use Rattle.meld.specs.declared.melding.Melded.{Melded}
use Rattle.pages.specs.declared.told.Happened.TheVariants.{Refused}
use Rattle.pages.specs.declared.told.Fed.{Fed}
use Rattle.pages.specs.Pages.{carry_size}
use Rattle.demands.specs.Runs.{Means, verdicts, Whole}
use Rattle.demands.specs.Follows.{AsBefore}
use Rattle.demands.specs.Feeding.{ending_in, Feeding, OneMore}
use Rattle.demands.proofs.Cards.{whole_front, pool_after_log}
use Rattle.demands.proofs.Feeding.{fed_ending}

-- 11 IS NEVER SAID OF A CUT LOG

module _ (log : List ℕ) (parts : List (List ℕ)) (n : ℕ) (w : Walks log 0 parts End) where
  -- a card that has melded the first n bytes of the log does not end with it
  pub cut_never_11 : {N Z : ℕ} {ys : List Melded} {last : Cut} {m : List ℕ} → Whole N Z (take n log) ys last m → last ≡ Impossible → ⊥
  cut_never_11 k i =
      let v = walked (take n log) 0 in
      let (_, e) = whole_front k v.walks in
      cut_never_impossible log parts n w v.parts v.last v.walks (sym e ∙ i)

  -- nor is it said to any call of a run that is fed them
  pub fed_never_11 : {N Z : ℕ} {lent new carry : List ℕ} → Created lent N Z committed new → length carry ≡ carry_size
      → {rs : List Fed} {taken : ℕ} {m carry' : List ℕ} {carried : ℕ} → Feeding (take n log) new carry rs taken m carry' carried
      → {r : Fed} {m' carry'' : List ℕ} → OneMore (take n log) taken m carry' carried r m' carry'' → r.happened ≡ Refused impossible_length → ⊥
  fed_never_11 made sized run call h = cut_never_11 (fed_ending made sized run call Impossible (ap ending_in h)).0 refl

-- A LOG THAT LED TO "END" HAS THE SAME VERDICTS

-- the parts are those that the rule of before handed out
pub verdicts_as_before : (N Z : ℕ) (log : List ℕ) (parts : List (List ℕ)) (xs : List Melded) (last : Cut) (m : List ℕ) → Bytes log → EndedBefore log 0 parts
    → Whole N Z log xs last m → AsBefore N Z parts xs last m
verdicts_as_before N Z log parts xs last m b e k =
    let f = pool_after_log N Z log xs last m b k in
    let (same, end) = walks_once f.walks parts End (ends_as_before e) in
    record {
      ends = end;
      answers = f.answers ∙ ap (verdicts (fresh N Z)) same;
      means = subst (λ (l : List (List ℕ)). Means m (after (fresh N Z) (map parse l))) same f.means;
    }
