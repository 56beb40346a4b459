-- One law for each return of the steps that keep, wait and decide.
-- Assumes nothing.
use Prim.Native.Nat.{ℕ, ◌+◌, ◌-◌, ◌≤◌}
use mathlib.Core.Path.{◌≡◌, refl, ap, ◌∙◌, subst}
use mathlib.Core.Bool.{Bool, true, false, not}
use mathlib.Core.List.{List}
use native.Mathlib.Omega.{arith}
use borrow.Author.Tests.{ne_eqb}
use lib.ListN.{length, take, drop}
use lib.Seq.{length-take-le, take_at}
use Rattle.record.specs.Answer.{unfit_pool}
use Rattle.record.specs.Reader.{front}
use Rattle.record_log.specs.Log.{past_at}
use Rattle.pool.specs.Image.{Fit}
use Rattle.fit.specs.Whole.{Decides}
use Rattle.meld.specs.declared.melding.Melded.{Melded}
use Rattle.meld.specs.Melds.{MeldsFit, Melds}
use Rattle.meld.proofs.Lookups.{now_fit}
use Rattle.meld.proofs.Whole.{refuses, melds}
use Rattle.pages.specs.declared.told.Fed.{Fed}
use Rattle.pages.specs.Pages.{bytes_in, record_in, refusing, is_unfit, RecordDecided}
use Rattle.pages.specs.Steps.{decided}
use Rattle.pages.proofs.Stored.{length_in}
use Rattle.pages.proofs.Decided.{fit_answers}

module _ (carry : List ℕ) (carried : ℕ) (part : List ℕ) where
  abbrev bytes : List ℕ
  bytes = bytes_in carry carried part

  -- the pool is unfit
  pub decided_unfit : (m : List ℕ) (b : Bool) → Decides (Fit m) b → not b ≡ true → (r : Fed) → r ≡ refusing unfit_pool carried
      → RecordDecided m carry carried bytes r m carry
  decided_unfit m b d e r q =
      record { melded = record { answer = unfit_pool; looks = 0 }; melds = refuses m (record_in bytes) b d e; said = q; carry_is = refl }

  -- it is fit, and the record was completed in the carry, and melded
  pub decided_in_carry : (m m' : List ℕ) (b : Bool) → Decides (Fit m) b → not b ≡ false → (size : ℕ) → size ≡ past_at bytes 0 → (a : Melded) (r : Fed)
      → carried ≤ length carry → size ≤ carried + length part → (carried ≡ 0 → ⊥) → (carry' : List ℕ) → carry' ≡ front (take size bytes) carry
      → MeldsFit m (take size carry') m' a → r ≡ decided a (size - carried) → RecordDecided m carry carried bytes r m' carry'
  decided_in_carry m m' b d t size z a r k f o carry' c h q =
      let n : is_unfit a ≡ false = fit_answers (melds m (take size carry') b d t m' a h) (now_fit m b d t) in
      let s : take size bytes ≡ record_in bytes = ap (λ (j : ℕ). take j bytes) z in
      let l : length (take size bytes) ≡ size = length-take-le size bytes (omega (arith, length_in carry carried part k)) in
      let e : take size carry' ≡ take size bytes = ap (take size) c ∙ take_at (take size bytes) (drop (length (take size bytes)) carry) size l in
      record {
        melded = a;
        melds = subst (λ (l : List ℕ). Melds m l m' a) (e ∙ s) (melds m (take size carry') b d t m' a h);
        said = simp n (q ∙ ap (λ (n : ℕ). decided a (n - carried)) z);
        carry_is = simp (n, ne_eqb carried 0 o) (c ∙ ap (λ (l : List ℕ). front l carry) s);
      }
