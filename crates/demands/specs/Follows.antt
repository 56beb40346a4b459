-- What a card's answers and pool are, said by the rules; and what becomes of a run when its log is cut.
-- Assumes nothing: these are definitions.
use Rattle.std.specs.Prelude.{ℕ, ◌≤◌, ◌≡◌, List, map, length, take}
use Rattle.record.specs.Parse.{parse}
use Rattle.record_log.specs.declared.found.Cut.{Cut}
use Rattle.record_log.specs.declared.found.Cut.TheVariants.{End}
use Rattle.record_log.specs.Walk.{Walks, CutLog}
use Rattle.rules.specs.State.{fresh}
use Rattle.rules.specs.Log.{after, state_at}
use Rattle.meld.specs.declared.melding.Melded.{Melded}
use Rattle.demands.specs.Runs.{Means, verdicts}

-- R20: of the parts that a log hands out the card has melded the first: for each the rules' answer and looks, and the pool is the image of
-- the rules' state after them
pub record Follows (N Z : ℕ) (parts : List (List ℕ)) (xs : List Melded) (m : List ℕ) : Type 0 where
  pub few : length xs ≤ length parts
  pub answers : xs ≡ verdicts (fresh N Z) (take (length xs) parts)
  pub means : Means m (state_at N Z (map parse parts) (length xs))

-- R20: a whole log melded: its steps hand out some parts and end so; for each part the rules' answer and looks, and the pool is the image of
-- the rules' state after all of them
pub record FollowsWhole (N Z : ℕ) (log : List ℕ) (xs : List Melded) (last : Cut) (m : List ℕ) : Type 0 where
  pub parts : List (List ℕ)
  pub walks : Walks log 0 parts last
  pub answers : xs ≡ verdicts (fresh N Z) parts
  pub means : Means m (after (fresh N Z) (map parse parts))

-- R14: over a log that led to "end" by the rule of before (`EndedBefore`), and handed out these parts then: it leads to "end", for each part stands
-- the rules' answer with its looks, and the pool is the image of the rules' state after all of them
pub record AsBefore (N Z : ℕ) (parts : List (List ℕ)) (xs : List Melded) (last : Cut) (m : List ℕ) : Type 0 where
  pub ends : last ≡ End
  pub answers : xs ≡ verdicts (fresh N Z) parts
  pub means : Means m (after (fresh N Z) (map parse parts))

-- R16: xs are the answers over a log that leads to "end", ys and last what a card says over the log's first n bytes: a verdict for each
-- record wholly before the cut, the same as in the whole log, then "end" or 10
pub record CutRun (log : List ℕ) (n : ℕ) (xs ys : List Melded) (last : Cut) : Type 0 where
  pub parts : List (List ℕ)
  pub walks : Walks log 0 parts End
  pub cut : CutLog log parts n
  pub each : length ys ≡ length cut.before
  pub same : ys ≡ take (length ys) xs
  pub ends_so : last ≡ cut.last
