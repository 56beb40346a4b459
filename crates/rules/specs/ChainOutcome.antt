-- Demand 3 over states: what becomes of a chain of refreshes of a record.
-- Assumes nothing: these are definitions.
use Rattle.std.specs.Prelude.{◌≤◌, ◌≡◌}
use Rattle.std.proofs.Math.Option.{some}
use Rattle.record.specs.Record.{Rec}
use Rattle.rules.specs.State.{State}
use Rattle.rules.specs.Verdict.{conflict, verdict, next}
use Rattle.rules.specs.Tree.{looks_of}
use Rattle.rules.specs.Refresh.{Refreshed, done, refused, refresh}

-- melding r' gives the answer of r and leaves its state, in no more looks
pub record AnswersAlike (S : State) (r' r : Rec) : Type 0 where
  pub answer : verdict S (some r') ≡ verdict S (some r)
  pub state : next S (some r') ≡ next S (some r)
  pub looks_le : looks_of S (some r') ≤ looks_of S (some r)

-- R40's two outcomes of a chain c of refreshes of r, the last at L, where r would be melded at S: it stopped with a conflict, and so does melding
-- r; or it is what one refresh at L gives, and melding that is as melding r
pub data ChainOutcome (S L : State) (r : Rec) (c : Refreshed) : Type 0 where
  stopped : c ≡ refused conflict → verdict S (some r) ≡ conflict → ChainOutcome S L r c
  carried : (r' : Rec) → c ≡ done r' → refresh L (some r) ≡ done r' → AnswersAlike S r' r → ChainOutcome S L r c
