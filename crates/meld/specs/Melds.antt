-- What meld promises.
-- Assumes nothing: these are definitions.
use Rattle.std.specs.Prelude.{ℕ, ◌≡◌, List}
use Rattle.std.proofs.Math.Option.{Option}
use Rattle.record.specs.Answer.{unfit_pool}
use Rattle.record.specs.Record.{Rec}
use Rattle.record.specs.Parse.{parse}
use Rattle.rules.specs.State.{State}
use Rattle.rules.specs.Verdict.{verdict, verdict_answer}
use Rattle.rules.specs.Tree.{looks_of}
use Rattle.pool.specs.Image.{Arrangement, Image, Fit, state_of}
use Rattle.meld.specs.declared.melding.Melded.{Melded}
use Rattle.meld.specs.After.{after_in}

-- R23, R36: the answer and the looks at a state
abbrev pub melded_of : State → Option Rec → Melded
melded_of S m = record { answer = verdict_answer (verdict S m); looks = looks_of S m }

-- R23: at the state that the pool means, the answer and the looks; the pool afterwards is the image of what the record leaves
pub record MeldsAs (A : Arrangement) (r : Option Rec) (m' : List ℕ) (a : Melded) : Type 0 where
  pub verdict_is : a ≡ melded_of (state_of A) r
  pub leaves : Image m' (after_in A r)

-- R19: so for whatever state the pool means
abbrev pub MeldsFit : List ℕ → List ℕ → List ℕ → Melded → Type 0
MeldsFit m bytes m' a = (A : Arrangement) → Image m A → MeldsAs A (parse bytes) m' a

-- R23, row 7: an unfit pool, and nothing changed
pub record Refuses (m m' : List ℕ) (a : Melded) : Type 0 where
  pub unfit_is : a ≡ record { answer = unfit_pool; looks = 0 }
  pub unchanged : m' ≡ m

-- R23: the promise of meld, for any bytes
pub record Melds (m bytes m' : List ℕ) (a : Melded) : Type 0 where
  pub fit : MeldsFit m bytes m' a
  pub unfit : (Fit m → ⊥) → Refuses m m' a
