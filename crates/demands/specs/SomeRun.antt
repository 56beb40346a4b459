-- That there are runs to speak of: what is said of every run is not said of none.
-- Assumes nothing: these are definitions.
use Rattle.std.specs.Prelude.{ℕ, Bool, List}
use Rattle.words.specs.Word.{Bytes}
use Rattle.record_log.specs.declared.found.Cut.{Cut}
use Rattle.meld.specs.declared.melding.Melded.{Melded}
use Rattle.meld.specs.Melds.{Melds}
use Rattle.pages.specs.declared.told.Fed.{Fed}
use Rattle.pages.specs.Pages.{Feeds}
use Rattle.demands.specs.Runs.{Whole}
use Rattle.demands.specs.Feeding.{PartsFed}

-- R23: a meld that keeps its promise, for any bytes: what it answers, and the pool then
abbrev pub SomeMeld : Type 0
SomeMeld = (m bytes : List ℕ) → Bytes m → Bytes bytes → (x : Melded) × (m' : List ℕ) × Melds m bytes m' x

-- R15: a card that has melded the whole log
pub record SomeWhole (N Z : ℕ) (log : List ℕ) : Type 0 where
  pub answers : List Melded
  pub last : Cut
  pub m : List ℕ
  pub run : Whole N Z log answers last m

-- R47: a feed that keeps its promise, for any bytes: what it gives back, and the pool and the carry then
abbrev pub SomeFeed : Type 0
SomeFeed =
    (m carry : List ℕ) (carried : ℕ) (part : List ℕ) (over : Bool) → Bytes m → Bytes carry → Bytes part
    → (r : Fed) × (m' : List ℕ) × (carry' : List ℕ) × Feeds m carry carried part over r m' carry'

-- R49: a log that comes in parts, fed to where a call says how it ends
pub record SomePartsFed (parts : List (List ℕ)) (m carry : List ℕ) (carried : ℕ) : Type 0 where
  pub told : List Fed
  pub after : List ℕ
  pub last : Cut
  pub run : PartsFed parts m carry carried told after last
