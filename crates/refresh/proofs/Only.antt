-- No second answer meets the promise of `refresh`: the answer and every byte of the output are fixed, whatever bytes the pool is.
-- The idea: equal answers and equal bytes can be told from unequal ones, so what holds for fit and for unfit pools holds for all.
-- Assumes nothing.
use Prim.Native.Nat.{ℕ}
use mathlib.Core.Path.{◌≡◌, sym, ap, ◌∙◌}
use mathlib.Core.List.{List, List-discrete}
use native.Mathlib.Decide.{ℕ_discrete, map_dec}
use Rattle.record.specs.declared.answer.Answer.{Answer}
use Rattle.record.specs.Parse.{parse}
use Rattle.rules.specs.Refresh.{refresh}
use Rattle.pool.specs.Image.{Fit, state_of}
use Rattle.refresh.specs.Refreshed.{RefreshOutcome, refresh_outcome, RefreshIs}
use Rattle.refresh.proofs.Output.{left_untouched}

-- what can be told, and holds if the pool is fit and if it is not, holds
by_fitness : {P : Type 0} (m : List ℕ) → Dec P → (Fit m → P) → ((Fit m → ⊥) → P) → P
by_fitness m (yes p) f g = p
by_fitness m (no n) f g = g (λ x. n (f x))

-- equal answers are told by their numbers
answer_decided : (a b : Answer) → Dec (a ≡ b)
answer_decided a b = map_dec (λ (e : a.number ≡ b.number). ap (λ (n : ℕ). record { number = n }) e) (λ (e : a ≡ b). ap (λ (x : Answer). x.number) e) (ℕ_discrete a.number b.number)

-- equal bytes one by one
bytes_decided : (x y : List ℕ) → Dec (x ≡ y)
bytes_decided x y = List-discrete ℕ_discrete x y

module _ (m original before : List ℕ) where
  -- one outcome if the pool is fit
  meets : (a b : Answer) (x y : List ℕ) → RefreshIs m original before a x → RefreshIs m original before b y → Fit m → refresh_outcome a x ≡ refresh_outcome b y
  meets a b x y r s f = r.fit f.arrangement f.image ∙ sym (s.fit f.arrangement f.image)

  -- one outcome if it is not
  misses : (a b : Answer) (x y : List ℕ) → RefreshIs m original before a x → RefreshIs m original before b y → (Fit m → ⊥) → refresh_outcome a x ≡ refresh_outcome b y
  misses a b x y r s n = r.unfit n ∙ sym (s.unfit n)

  -- one answer, and one content of the whole output afterwards
  pub refresh_only : (a b : Answer) (x y : List ℕ) → RefreshIs m original before a x → RefreshIs m original before b y → (a ≡ b) × (x ≡ y)
  refresh_only a b x y r s = (
    by_fitness m (answer_decided a b) (λ f. ap (λ (o : RefreshOutcome). o.answer) (meets a b x y r s f)) (λ n. ap (λ (o : RefreshOutcome). o.answer) (misses a b x y r s n)),
    by_fitness m (bytes_decided x y) (λ f. ap (λ (o : RefreshOutcome). o.output) (meets a b x y r s f)) (λ n. ap (λ (o : RefreshOutcome). o.output) (misses a b x y r s n)),
  )

  -- R38: on a refusal the output is as it was
  pub untouched : (a : Answer) (after : List ℕ) → RefreshIs m original before a after → (a.number ≡ 0 → ⊥) → after ≡ before
  untouched a after r n =
      by_fitness m (bytes_decided after before)
      (λ f. left_untouched before a after (refresh (state_of f.arrangement) (parse original)) (r.fit f.arrangement f.image) n)
      (λ u. ap (λ (o : RefreshOutcome). o.output) (r.unfit u))
