-- What a lookup promises (R31).
-- Assumes nothing: these are definitions.
use Rattle.std.specs.Prelude.{ℕ, ◌≡◌, List}
use Rattle.std.proofs.Math.Option.{Option, none, some}
use Rattle.record.specs.declared.answer.Answer.{Answer}
use Rattle.record.specs.Answer.{unfit_pool}
use Rattle.rules.specs.Lookup.{Seen, absent, found, lookup}
use Rattle.pool.specs.Image.{Arrangement, Image, Fit, state_of}
use Rattle.meld.specs.declared.kept.Lookup.{Lookup}
use Rattle.meld.specs.declared.kept.Lookup.TheVariants.{Unfit, Absent, Found}

-- what a lookup tells (R31): the answer, where the rules have a number for it; payload and position of the last write, where one is found
pub record LookupTold : Type 0 where
  pub answer : Option Answer
  pub payload : Option ℕ
  pub position : Option ℕ

-- R3, in each case: an unfit pool is 7; an absent key has no number; one that is found has none either, and its payload and position are told
abbrev pub lookup_told : Lookup → LookupTold
lookup_told Unfit = record { answer = some unfit_pool; payload = none; position = none }
lookup_told Absent = record { answer = none; payload = none; position = none }
lookup_told (Found x w) = record { answer = none; payload = some x; position = some w }

-- R31: what the rules see, as the answer
abbrev pub lookup_of : Seen → Lookup
lookup_of absent = Absent
lookup_of (found x w) = Found x w

-- R31: at the state that the pool means, what the rules see there; 7 where it means none
pub record LooksUp (m : List ℕ) (k : ℕ) (r : Lookup) : Type 0 where
  pub fit : (A : Arrangement) → Image m A → lookup_told r ≡ lookup_told (lookup_of (lookup k (state_of A)))
  pub unfit : (Fit m → ⊥) → lookup_told r ≡ lookup_told Unfit
