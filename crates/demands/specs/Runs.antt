-- A card's run: the public functions called one after the other, each answering whatever its promise allows. So what is said of runs
-- holds for any code that keeps the promises.
-- Assumes nothing: these are definitions.
use Rattle.std.specs.Prelude.{ℕ, ◌≡◌, List, [], ◌∷◌, length}
use Rattle.std.specs.Borrow.{Bor}
use Rattle.record.specs.Answer.{committed}
use Rattle.record.specs.Parse.{parse}
use Rattle.record_log.specs.declared.found.Cut.{Cut}
use Rattle.record_log.specs.declared.found.Cut.TheVariants.{End, Torn, Impossible, Record}
use Rattle.record_log.specs.Log.{CutIs, HandedOut}
use Rattle.rules.specs.State.{State}
use Rattle.rules.specs.Verdict.{next}
use Rattle.pool.specs.Image.{Arrangement, Image, state_of}
use Rattle.create.specs.Fresh.{Created}
use Rattle.meld.specs.declared.melding.Melded.{Melded}
use Rattle.meld.specs.Melds.{Melds, melded_of}

-- R19: a pool means a state: its bytes are the image of the state, arranged in nodes in some way
pub record Means (m : List ℕ) (S : State) : Type 0 where
  pub arrangement : Arrangement
  pub image : Image m arrangement
  pub state : state_of arrangement ≡ S

-- R23, R36: the answers and looks for records melded one after the other, from a state on
abbrev pub verdicts : State → List (List ℕ) → List Melded
verdicts S [] = []
verdicts S (bytes ∷ parts) = melded_of S (parse bytes) ∷ verdicts (next S (parse bytes)) parts

-- R20: records melded one after the other, from a pool on: what each call answers, and the pool then
pub data Melding : List ℕ → List (List ℕ) → List Melded → List ℕ → Type 0 where
  none_left : {m : List ℕ} → Melding m [] [] m
  one_more : {m bytes m' m'' : List ℕ} {parts : List (List ℕ)} {a : Melded} {xs : List Melded}
      → Melds m bytes m' a → Melding m' parts xs m'' → Melding m (bytes ∷ parts) (a ∷ xs) m''

-- R15: from a place of a log and a pool on, some records are cut out of the log by `cut` and `part` and melded: what each call answers, and
-- the place and the pool then
pub data ReadingOn (log : List ℕ) : ℕ → List ℕ → List Melded → ℕ → List ℕ → Type 0 where
  so_far : {place : ℕ} {m : List ℕ} → ReadingOn log place m [] place m
  one_more : {place next place' : ℕ} {m m' m'' : List ℕ} {a : Melded} {xs : List Melded} {lent part : Bor (List ℕ)}
      → lent.now ≡ log → CutIs log place (Record next) → HandedOut lent place part → Melds m part.now m' a
      → ReadingOn log next m' xs place' m'' → ReadingOn log place m (a ∷ xs) place' m''

-- R18: a card: bytes lent, whatever they hold, made a pool by `create`, then records of a log melded into it from the log's start on
pub record Card (N Z : ℕ) (log : List ℕ) (xs : List Melded) (place : ℕ) (m : List ℕ) : Type 0 where
  pub lent : List ℕ
  pub new : List ℕ
  pub created : Created lent N Z committed new
  pub read : ReadingOn log 0 new xs place m

-- R20: the pool of a card after the first q records of a log
pub record PoolAt (N Z : ℕ) (log : List ℕ) (q : ℕ) (m : List ℕ) : Type 0 where
  pub answers : List Melded
  pub place : ℕ
  pub card : Card N Z log answers place m
  pub count : length answers ≡ q

-- R14: no record was found
abbrev pub is_over : Cut → Type 0
is_over End = Unit
is_over Torn = Unit
is_over Impossible = Unit
is_over (Record next) = ⊥

-- R15: a card that has melded a whole log: where it stands, `cut` finds no record any more
pub record Whole (N Z : ℕ) (log : List ℕ) (xs : List Melded) (last : Cut) (m : List ℕ) : Type 0 where
  pub place : ℕ
  pub card : Card N Z log xs place m
  pub found : CutIs log place last
  pub over : is_over last
