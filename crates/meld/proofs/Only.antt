-- The promises of meld, lookup and status leave no second answer and no second byte: a pool is fit or not, an arrangement has one image.
-- Assumes nothing.
use Prim.Native.Nat.{ℕ}
use mathlib.Core.Path.{◌≡◌, sym, ◌∙◌}
use mathlib.Core.List.{List}
use Rattle.std.specs.Prelude.{Result}
use Rattle.words.specs.Word.{Bytes}
use Rattle.record.specs.declared.answer.Answer.{Answer}
use Rattle.record.specs.Parse.{parse}
use Rattle.pool.specs.Image.{Fit}
use Rattle.pool.proofs.Fixed.{one_image}
use Rattle.fit.proofs.Decided.{fit_or_not}
use Rattle.meld.specs.declared.kept.Lookup.{Lookup}
use Rattle.meld.specs.declared.kept.Status.{Status}
use Rattle.meld.specs.declared.melding.Melded.{Melded}
use Rattle.meld.specs.After.{after_in}
use Rattle.meld.specs.Melds.{Melds}
use Rattle.meld.specs.Lookups.{LooksUp}
use Rattle.meld.specs.Statuses.{StatusIs}
use Rattle.meld.proofs.Lookups.{lookup_told_apart}

-- no second answer, no second count of looks and no second byte of meld, for any bytes lent as pool and as record
pub only_meld : (m bytes m' m'' : List ℕ) (a b : Melded) → Bytes m → Melds m bytes m' a → Melds m bytes m'' b → (a ≡ b) × (m' ≡ m'')
only_meld m bytes m' m'' a b lent p q = go (fit_or_not m lent)
  where
    go : Dec (Fit m) → (a ≡ b) × (m' ≡ m'')
    go (yes f) =
        let x = p.fit f.arrangement f.image in
        let y = q.fit f.arrangement f.image in
        (x.verdict_is ∙ sym y.verdict_is, one_image m' m'' (after_in f.arrangement (parse bytes)) x.leaves y.leaves)
    go (no n) = ((p.unfit n).unfit_is ∙ sym (q.unfit n).unfit_is, (p.unfit n).unchanged ∙ sym (q.unfit n).unchanged)

-- no second answer of lookup, for any bytes lent as pool
pub only_lookup : (m : List ℕ) (k : ℕ) (r q : Lookup) → Bytes m → LooksUp m k r → LooksUp m k q → r ≡ q
only_lookup m k r q lent a b = go (fit_or_not m lent)
  where
    go : Dec (Fit m) → r ≡ q
    go (yes f) = lookup_told_apart r q (a.fit f.arrangement f.image ∙ sym (b.fit f.arrangement f.image))
    go (no n) = lookup_told_apart r q (a.unfit n ∙ sym (b.unfit n))

-- no second status, for any bytes lent as pool
pub only_status : (m : List ℕ) (r q : Result Status Answer) → Bytes m → StatusIs m r → StatusIs m q → r ≡ q
only_status m r q lent a b = go (fit_or_not m lent)
  where
    go : Dec (Fit m) → r ≡ q
    go (yes f) = a.fit f.arrangement f.image ∙ sym (b.fit f.arrangement f.image)
    go (no n) = a.unfit n ∙ sym (b.unfit n)
