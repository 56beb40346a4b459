-- Demand 3 on bytes: a record refreshed at pools of a log, the record in force taken each time, then melded.
-- Assumes nothing: these are definitions.
use Rattle.std.specs.Prelude.{ℕ, ◌≤◌, ◌≡◌, List, [], ◌∷◌, length}
use Rattle.std.specs.Borrow.{Bor}
use Rattle.record.specs.declared.answer.Answer.{Answer}
use Rattle.record.specs.Answer.{committed, conflict}
use Rattle.refresh.specs.Refreshed.{RefreshIs}
use Rattle.in_force.specs.InForce.{InForce}
use Rattle.meld.specs.declared.melding.Melded.{Melded}
use Rattle.meld.specs.Melds.{Melds}
use Rattle.demands.specs.Runs.{PoolAt}

-- R38, R39: one call of `refresh` on a pool with room enough, and one of `in_force` on what it answers: the answer, and the record in force
-- then
pub record RefreshedTo (m original : List ℕ) (a : Answer) (result : List ℕ) : Type 0 where
  pub before : List ℕ
  pub after : List ℕ
  pub room : length original ≤ length before
  pub refreshed : RefreshIs m original before a after
  pub lent : Bor (List ℕ)
  pub buffer : Bor (List ℕ)
  pub part : Bor (List ℕ)
  pub lent_is : lent.now ≡ original
  pub buffer_is : buffer.now ≡ after
  pub in_force : InForce a lent buffer part
  pub part_is : part.now ≡ result

-- R40: a record refreshed at the pool after q records of a log, and on at those of further stops, as long as each refresh answers 0: the
-- last answer, and the record in force then
pub data Chain (N Z : ℕ) (log : List ℕ) : List ℕ → ℕ → List ℕ → Answer → List ℕ → Type 0 where
  last_stop : {original m result : List ℕ} {q : ℕ} {a : Answer} → PoolAt N Z log q m → RefreshedTo m original a result → Chain N Z log original q [] a result
  refused : {original m result : List ℕ} {q q' : ℕ} {qs : List ℕ} {a : Answer} → PoolAt N Z log q m → RefreshedTo m original a result → (a ≡ committed → ⊥)
      → Chain N Z log original q (q' ∷ qs) a result
  further : {original m between result : List ℕ} {q q' : ℕ} {qs : List ℕ} {a : Answer} → PoolAt N Z log q m → RefreshedTo m original committed between
      → Chain N Z log between q' qs a result → Chain N Z log original q (q' ∷ qs) a result

-- R40: the original's answer and the same pool, byte for byte, in no more looks. x and m are what melding the original answers and leaves, y
-- and k what melding the result does
pub record MeldedAlike (x : Melded) (m : List ℕ) (y : Melded) (k : List ℕ) : Type 0 where
  pub answer : y.answer ≡ x.answer
  pub pool : k ≡ m
  pub looks_le : y.looks ≤ x.looks

-- R40: so for any two such calls at one pool
abbrev pub SameMeld : List ℕ → List ℕ → List ℕ → Type 0
SameMeld m original result = (m₁ m₂ : List ℕ) (x₁ x₂ : Melded) → Melds m original m₁ x₁ → Melds m result m₂ x₂ → MeldedAlike x₁ m₁ x₂ m₂

-- R40: one refresh at the last stop answers 0 too, and gives the same bytes
abbrev pub SameRefresh : ℕ → ℕ → List ℕ → List ℕ → ℕ → List ℕ → Type 0
SameRefresh N Z log original q result =
    (m : List ℕ) (a : Answer) (once : List ℕ) → PoolAt N Z log q m → RefreshedTo m original a once → (a ≡ committed) × (once ≡ result)

-- R40: the two outcomes of a chain that answers a, where m is the pool at the place of the meld
pub data ChainEnds (N Z : ℕ) (log m original : List ℕ) (last : ℕ) (a : Answer) (result : List ℕ) : Type 0 where
  stopped : a ≡ conflict → ((m' : List ℕ) (x : Melded) → Melds m original m' x → x.answer ≡ conflict) → ChainEnds N Z log m original last a result
  carried : a ≡ committed → SameRefresh N Z log original last result → SameMeld m original result → ChainEnds N Z log m original last a result
