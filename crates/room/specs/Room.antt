-- Whether a record's writes find room (R26), and whether old tombstones are dropped first (R27), as one answer.
-- Assumes nothing: these are definitions.
use Rattle.std.specs.Prelude.{ℕ, ◌+◌, ◌-◌, ◌<◌, ◌≡◌, Bool, true, false, List, map, ltb}
use Rattle.std.proofs.Math.Option.{Option, none, some}
use Rattle.record.specs.declared.answer.Answer.{Answer}
use Rattle.record.specs.declared.point.Point.{Point}
use Rattle.record.specs.Answer.{no_room}
use Rattle.record.specs.Record.{Rec, Valid, kind_of, key_of}
use Rattle.std.specs.Prelude.{if◌then◌else◌}
use Rattle.rules.specs.State.{State, last_position}
use Rattle.rules.specs.Verdict.{drops, count}
use Rattle.pool.specs.Image.{Arrangement, Image, state_of}
use Rattle.nodes.specs.Nodes.{header_at}
use Rattle.room.specs.declared.room.Room.{Room}
use Rattle.room.specs.declared.room.Room.TheVariants.{Enough, AfterDrop, TooLittle}

-- what an answer says: its number, where it has one (R3), whether the old tombstones are dropped first, and how many keys find no room
pub record RoomSaid : Type 0 where
  pub number : Option Answer
  pub drops_first : Bool
  pub keys : Option ℕ

-- what each of the three says: only "too little" has a number, 3, and the keys
abbrev pub said_by : Room → RoomSaid
said_by Enough = record { number = none; drops_first = false; keys = none }
said_by AfterDrop = record { number = none; drops_first = true; keys = none }
said_by (TooLittle n) = record { number = some no_room; drops_first = false; keys = some n }

-- what the rules say of a record's points: no room by R26, with its count, or else the drop by R27
unfoldable pub room_in : State → List Point → RoomSaid
room_in S ps =
    if ltb S.N (count S ps) then record { number = some no_room; drops_first = false; keys = some (count S ps) } else
    record { number = none; drops_first = drops S ps; keys = none }

-- the last position whose tombstones are old at p + 1
abbrev pub old_limit : ℕ → ℕ → ℕ
old_limit p z = p + 1 - z

-- a position is left, and the lists are the points of a record
pub record Writable (m kinds keys : List ℕ) : Type 0 where
  pub left : (header_at m).position < last_position
  pub r : Rec
  pub valid : Valid r
  pub kinds_are : kinds ≡ map kind_of r.points
  pub keys_are : keys ≡ map key_of r.points

-- the answer says what the rules say, for the state that the pool means and the points that the lists are
abbrev pub RoomIs : List ℕ → List ℕ → List ℕ → Room → Type 0
RoomIs m kinds keys a =
    (A : Arrangement) → Image m A → (r : Rec) → Valid r → kinds ≡ map kind_of r.points → keys ≡ map key_of r.points → said_by a ≡ room_in (state_of A) r.points
