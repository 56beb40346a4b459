-- What the promise of `refresh` says of a fit pool, in R38's words: m is the pool, A what it is the image of.
-- Assumes nothing.
use Prim.Native.Nat.{ℕ}
use mathlib.Core.Path.{◌≡◌, ap, ◌∙◌}
use mathlib.Core.Logic.{◌↔◌}
use mathlib.Core.List.{List}
use lib.ListN.{length, take}
use Rattle.words.specs.Word.{Bytes}
use Rattle.record.specs.declared.answer.Answer.{Answer}
use Rattle.record.specs.Answer.{committed}
use Rattle.pool.specs.Image.{Arrangement, Image, state_of}
use Rattle.refresh.specs.Refreshed.{RefreshOutcome, refresh_outcome, RefreshIs}
use Rattle.refresh.proofs.Output.{FrontIs, Refreshable, after_zero, zero_exactly}
use Rattle.refresh.proofs.Again.{refreshed_again}

module _ (m : List ℕ) (A : Arrangement) (i : Image m A) (original before : List ℕ) (y : Bytes original) (a : Answer) (after : List ℕ)
    (r : RefreshIs m original before a after) where
  -- after 0 the front of the output is the same record with snapshot p, its other bytes as before, and what follows is as it was
  pub refresh_front : a.number ≡ 0 → FrontIs A.p original before after
  refresh_front = after_zero (state_of A) i.arranged.lawful.last original before y a after (r.fit A i)

  -- 0 is answered exactly if the bytes are a record that is neither ahead nor too old nor in conflict, and there is room for it
  pub refresh_zero : (a.number ≡ 0) ↔ Refreshable (state_of A) original before
  refresh_zero = zero_exactly (state_of A) i.arranged.lawful.last original before y a after (r.fit A i)

  -- a second refresh at the same place, of the front of the output and into the same output, answers 0 and changes nothing
  pub refresh_twice : a.number ≡ 0 → (b : Answer) (again : List ℕ) → RefreshIs m (take (length original) after) after b again → (b ≡ committed) × (again ≡ after)
  refresh_twice z b again s =
      let e : refresh_outcome b again ≡ refresh_outcome committed after = s.fit A i ∙ refreshed_again (state_of A) i.arranged.lawful original before after (refresh_front z) in
      (ap (λ (o : RefreshOutcome). o.answer) e, ap (λ (o : RefreshOutcome). o.output) e)
