-- Creation's promise leaves no second answer and no second byte; what it makes is fit and means the fresh state.
-- Assumes nothing.
use Prim.Native.Nat.{ℕ}
use mathlib.Core.Path.{◌≡◌, refl, sym, ◌∙◌}
use mathlib.Core.Bool.{Bool, true, false}
use mathlib.Core.List.{List}
use lib.ListN.{length}
use Rattle.record.specs.declared.answer.Answer.{Answer}
use Rattle.rules.specs.State.{fresh}
use Rattle.rules.specs.Tree.{entries}
use Rattle.pool.specs.Image.{state_of, Fit}
use Rattle.pool.proofs.Fixed.{one_image}
use Rattle.create.specs.Fresh.{fresh_plan, limits_ok, Created}

-- no second answer
pub only : (m : List ℕ) (n z : ℕ) (r r' : Answer) (m' m'' : List ℕ) → Created m n z r m' → Created m n z r' m'' → (r ≡ r') × (m' ≡ m'')
only m n z r r' m' m'' a b = go (limits_ok n z (length m)) refl
  where
    go : (t : Bool) → limits_ok n z (length m) ≡ t → (r ≡ r') × (m' ≡ m'')
    go true e = ((a.made e).0 ∙ sym (b.made e).0, one_image m' m'' (fresh_plan n z) (a.made e).1 (b.made e).1)
    go false e = ((a.refused e).0 ∙ sym (b.refused e).0, (a.refused e).1 ∙ sym (b.refused e).1)

-- a new pool is of the fresh state
pub fresh_state : (n z : ℕ) → state_of (fresh_plan n z) ≡ fresh n z
unfolding entries
fresh_state n z = refl

-- a pool whose creation answered 0 is fit
pub created_fit : (m : List ℕ) (n z : ℕ) (r : Answer) (m' : List ℕ) → Created m n z r m' → limits_ok n z (length m) ≡ true → Fit m'
created_fit m n z r m' c e = record { arrangement = fresh_plan n z; image = (c.made e).1 }
