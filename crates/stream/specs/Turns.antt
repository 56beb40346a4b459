-- The program page by page: what a read brings is fed, and then comes the next (R41, R46, R47).
-- Assumes nothing: these are definitions.
use Rattle.std.specs.Prelude.{ℕ, ◌≡◌, Bool, true, false, not, List, [], ◌∷◌, ◌++◌, eqb, length, take}
use Rattle.std.specs.Prelude.{if◌then◌else◌}
use Rattle.record_log.specs.declared.found.Cut.{Cut}
use Rattle.record_log.specs.declared.found.Cut.TheVariants.{Impossible}
use Rattle.pages.specs.declared.told.Fed.{Fed}
use Rattle.lines.specs.declared.parts.Going.{Going}
use Rattle.lines.specs.Parts.{PartFed, Finishes}
use Rattle.stream.specs.declared.closing.Ending.{Ending}
use Rattle.stream.specs.declared.closing.Ending.TheVariants.{Log, Unread}
use Rattle.stream.specs.declared.input.Filled.{Filled}
use Rattle.stream.specs.Buffer.{Refilled}

-- how far the program is: the bytes carried, the position of the record that comes next, whether another page may follow, whether the last
-- read failed, and whether the log does not go on
pub record Progress : Type 0 where
  pub carried : ℕ
  pub position : ℕ
  pub more : Bool
  pub failed : Bool
  pub stopped : Bool

-- whether another page may follow one of so many bytes: not behind an empty one, nor where the log does not go on
abbrev pub more_by : ℕ → Bool → Bool
more_by held stopped = if stopped then false else not (eqb held 0)

-- how far a page that was read and fed leaves the program
abbrev pub progress_by : Filled → Going → Progress
progress_by read going =
    record {
      carried = going.carried;
      position = going.position;
      more = more_by read.held going.stopped;
      failed = read.failed;
      stopped = going.stopped;
    }

-- a turn: the page once a read has filled so much of it, and that much of it fed
pub record TurnIs (carried position : ℕ) (m carry page m' carry' page' : List ℕ) (r : Progress) : Type 0 where
  pub read : Filled
  pub going : Going
  pub refilled : Refilled 0 page page' read
  pub fed : PartFed (take read.held page') position m carry carried m' carry' going
  pub progress_is : r ≡ progress_by read going

-- nothing carried, position 1, and the input neither at its end nor failed
abbrev pub at_first : Progress
at_first = record { carried = 0; position = 1; more = true; failed = false; stopped = false }

-- turns one after the other, each from where the one before it ended, and only where another page may follow: what the reads brought, the calls
-- made, and how far the program is then
pub data Turns (m carry page : List ℕ) : List (List ℕ) → List Fed → Progress → List ℕ → List ℕ → List ℕ → Type 0 where
  none_yet : Turns m carry page [] [] at_first m carry page
  one_more : {pages : List (List ℕ)} {calls : List Fed} {p p' : Progress} {m' carry' page' m'' carry'' page'' : List ℕ}
      → Turns m carry page pages calls p m' carry' page' → p.more ≡ true
      → (t : TurnIs p.carried p.position m' carry' page' m'' carry'' page'' p')
      → Turns m carry page (pages ++ (take t.read.held page'' ∷ [])) (calls ++ t.fed.calls) p' m'' carry'' page''

-- how a run of turns closes: at an impossible length where the log does not go on; where a read failed that alone is told; else the log is said to be over, and ends so
pub data Closes (p : Progress) (m carry : List ℕ) : List ℕ → Ending → Type 0 where
  stops : p.stopped ≡ true → Closes p m carry m (Log Impossible)
  unread : p.stopped ≡ false → p.failed ≡ true → Closes p m carry m Unread
  over : {m' carry' : List ℕ} {found : Cut}
      → p.stopped ≡ false → p.failed ≡ false → Finishes m carry p.carried m' carry' found → Closes p m carry m' (Log found)

-- turns until no page may follow (or 18,446,744,073,709,551,615 were made), and how that closes
pub record Streamed (m carry page m' : List ℕ) (last : Ending) : Type 0 where
  pub pages : List (List ℕ)
  pub calls : List Fed
  pub progress : Progress
  pub after : List ℕ
  pub carry' : List ℕ
  pub page' : List ℕ
  pub made : Turns m carry page pages calls progress after carry' page'
  pub until : progress.more ≡ true → length pages ≡ 18446744073709551615
  pub closes : Closes progress after carry' m' last
