-- Where opening an input gives a size, the input asks for a pool that a program makes, and the pool at the front of the bytes lent is new.
-- Assumes nothing.
use Rattle.std.proofs.Common.{◌≡◌, ℕ, List, length, take, Result, Ok, sym, ap, ◌∙◌, subst, eqb, eqb-true}
use native.Mathlib.Decide.{dec_le}
use Rattle.record.specs.declared.answer.Answer.{Answer}
use Rattle.record.specs.Answer.{committed}
use Rattle.record.proofs.Cases.{by_case}
use Rattle.record.proofs.Results.{ok_is_no_err, ok_same}
use Rattle.create.specs.Fresh.{Created}
use Rattle.lines.specs.Opening.{limit_n, limit_z, size_for, size_told, Asks, Opens, New}

-- a size is told of a pool that was created
told_size : (a : Answer) (n size : ℕ) → size_told a n ≡ Ok size → (a ≡ committed) × (n ≡ size)
told_size a n size e =
    by_case (eqb a.number 0)
    (λ t. (ap (λ (k : ℕ). record { number = k }) (eqb-true a.number 0 t), ok_same (simp t at e)))
    (λ f. ok_is_no_err (sym (simp f at e)))

module _ {most : ℕ} {m head : List ℕ} {r : Result ℕ Answer} {m' : List ℕ} (o : Opens most m head r m') {size : ℕ} (is : r ≡ Ok size) where
  -- the input asks for a pool that a program makes
  pub opened_asks : Asks most head (length m)
  opened_asks =
      elim (dec_le 8 (length head)) [
        | yes e ↦
            elim (dec_le (limit_n head) most) [
              | yes f ↦
                  elim (dec_le (size_for (limit_n head)) (length m)) [
                    | yes g ↦ record { eight = e; few = f; fits = g }
                    | no g ↦ nine λ a. g a.fits
                  ]
              | no f ↦ nine λ a. f a.few
            ]
        | no e ↦ nine λ a. e a.eight
      ]
    where
      nine : (Asks most head (length m) → ⊥) → Asks most head (length m)
      nine none = ok_is_no_err (sym is ∙ (o.refused none).0)

  -- and the pool at the front is new
  pub opened_new : New (take size m')
  opened_new =
      let k = o.asked opened_asks in
      let t = told_size k.answer (size_for (limit_n head)) size (sym k.told ∙ is) in
      record {
        N = limit_n head;
        Z = limit_z head;
        lent = take (size_for (limit_n head)) m;
        created =
            subst (λ (n : ℕ). Created (take (size_for (limit_n head)) m) (limit_n head) (limit_z head) committed (take n m')) t.1
            (subst (λ (a : Answer). Created (take (size_for (limit_n head)) m) (limit_n head) (limit_z head) a (take (size_for (limit_n head)) m')) t.0 k.created);
      }
