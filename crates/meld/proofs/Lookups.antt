-- What a lookup tells says which case it is; and one law for each return of `lookup`.
-- Assumes nothing.
use Prim.Native.Nat.{ℕ}
use mathlib.Core.Path.{◌≡◌, refl, sym, ap, ◌∙◌}
use mathlib.Core.Bool.{Bool, true, false, not}
use mathlib.Core.List.{List}
use mathlib.Core.Option.{Option, none, some}
use borrow.Author.Tests.{not-true, not-false}
use Rattle.std.proofs.lemmas.Bool.{both_ways}
use Rattle.words.specs.Choice.{value_or}
use Rattle.record.specs.declared.answer.Answer.{Answer}
use Rattle.record.specs.Answer.{unfit_pool}
use Rattle.rules.specs.Lookup.{Seen, absent, found, lookup}
use Rattle.pool.specs.Image.{Arrangement, Image, Fit, state_of}
use Rattle.fit.specs.Whole.{Decides}
use Rattle.find.specs.declared.Found as Found
use Rattle.find.specs.Found.{found_in, seen_as}
use Rattle.find.proofs.Lookup.{found_lookup}
use Rattle.meld.specs.declared.kept.Lookup.{Lookup}
use Rattle.meld.specs.declared.kept.Lookup.TheVariants.{Unfit, Absent, Found}
use Rattle.meld.specs.Lookups.{LookupTold, lookup_told, lookup_of, LooksUp}

-- the check said yes, and so there is a state
pub now_fit : (m : List ℕ) (b : Bool) → Decides (Fit m) b → not b ≡ false → Fit m
now_fit m b d e = d.sound (not-false b e)

-- it said no, and so there is none
pub not_fit : (m : List ℕ) (b : Bool) → Decides (Fit m) b → not b ≡ true → Fit m → ⊥
not_fit m b d e f = both_ways b (not-true b e) (d.complete f)

-- WHAT IS TOLD TELLS THE CASE

-- the case, out of what is told
abbrev of_answer : Option Answer → Lookup
of_answer none = Absent
of_answer (some a) = Unfit

abbrev of_position : Option Answer → ℕ → Option ℕ → Lookup
of_position a x none = of_answer a
of_position a x (some w) = Found x w

abbrev of_told : LookupTold → Lookup
of_told t = of_position t.answer (value_or 0 t.payload) t.position

back : (l : Lookup) → of_told (lookup_told l) ≡ l
back Unfit = refl
back Absent = refl
back (Found x w) = refl

-- cases that are told alike are one
pub lookup_told_apart : (r q : Lookup) → lookup_told r ≡ lookup_told q → r ≡ q
lookup_told_apart r q e = sym (back r) ∙ ap of_told e ∙ back q

-- what meets the promise, for the state that the pool means
pub lookup_case : (m : List ℕ) (k : ℕ) (r : Lookup) → LooksUp m k r → (A : Arrangement) → Image m A → r ≡ lookup_of (lookup k (state_of A))
lookup_case m k r h A i = lookup_told_apart r (lookup_of (lookup k (state_of A))) (h.fit A i)

-- and where it means none
pub lookup_unfit : (m : List ℕ) (k : ℕ) (r : Lookup) → LooksUp m k r → (Fit m → ⊥) → r ≡ Unfit
lookup_unfit m k r h n = lookup_told_apart r Unfit (h.unfit n)

-- the number told is 7 for an unfit pool, and there is none for a fit one
pub lookup_number : (m : List ℕ) (k : ℕ) (r : Lookup) → LooksUp m k r → ((Fit m → ⊥) → (lookup_told r).answer ≡ some unfit_pool) × (Fit m → (lookup_told r).answer ≡ none)
lookup_number m k r h = (
  λ n. ap (λ (t : LookupTold). t.answer) (h.unfit n),
  λ f. ap (λ (t : LookupTold). t.answer) (h.fit f.arrangement f.image) ∙ unnumbered (lookup k (state_of f.arrangement)),
)
  where
    unnumbered : (x : Seen) → (lookup_told (lookup_of x)).answer ≡ none
    unnumbered absent = refl
    unnumbered (found x w) = refl

-- THE RETURNS

pub fit_lookup : (m : List ℕ) (k : ℕ) (b : Bool) → Decides (Fit m) b → not b ≡ false → (f : Found.Found) → ((A : Arrangement) → Image m A → f ≡ found_in k (state_of A).kept)
    → (r : Lookup) → r ≡ lookup_of (seen_as f) → LooksUp m k r
fit_lookup m k b d e f ef r er =
    record {
      fit = λ A i. ap lookup_told (er ∙ ap (λ (x : Found.Found). lookup_of (seen_as x)) (ef A i) ∙ ap lookup_of (found_lookup k (state_of A)));
      unfit = λ n. absurd (n (now_fit m b d e));
    }
