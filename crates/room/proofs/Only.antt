-- The promise of `room_for` leaves one answer: the three answers say three different things, and what the rules say is one thing. Nor does it leave a
-- second list of kinds.
-- Assumes nothing.
use Prim.Native.Nat.{ℕ}
use mathlib.Core.Path.{◌≡◌, refl, sym, ap, ◌∙◌}
use mathlib.Core.List.{List}
use Rattle.pool.specs.Image.{Fit}
use Rattle.room.specs.declared.room.Room.{Room}
use Rattle.room.specs.declared.room.Room.TheVariants.{Enough, AfterDrop, TooLittle}
use Rattle.room.specs.Tally.{Settles}
use Rattle.room.specs.Room.{RoomSaid, said_by, Writable, RoomIs}

-- answers that say the same are the same
pub same_said : (a b : Room) → said_by a ≡ said_by b → a ≡ b
same_said Enough Enough e = refl
same_said Enough AfterDrop e = cc (ap (λ (x : RoomSaid). x.drops_first) e)
same_said Enough (TooLittle n) e = cc (ap (λ (x : RoomSaid). x.keys) e)
same_said AfterDrop Enough e = cc (ap (λ (x : RoomSaid). x.drops_first) e)
same_said AfterDrop AfterDrop e = refl
same_said AfterDrop (TooLittle n) e = cc (ap (λ (x : RoomSaid). x.keys) e)
same_said (TooLittle n) Enough e = cc (ap (λ (x : RoomSaid). x.keys) e)
same_said (TooLittle n) AfterDrop e = cc (ap (λ (x : RoomSaid). x.keys) e)
same_said (TooLittle n) (TooLittle k) e = cc (ap (λ (x : RoomSaid). x.keys) e)

-- no second answer of `room_for`, for a fit pool and the lists of a record
pub only_room : (m kinds keys : List ℕ) (a b : Room) → Fit m → Writable m kinds keys → RoomIs m kinds keys a → RoomIs m kinds keys b → a ≡ b
only_room m kinds keys a b f w p q =
    let x = p f.arrangement f.image w.r w.valid w.kinds_are w.keys_are in
    let y = q f.arrangement f.image w.r w.valid w.kinds_are w.keys_are in
    same_said a b (x ∙ sym y)

-- nor are there two lists of settled kinds
pub only_settled : (m kinds keys a b : List ℕ) → Fit m → Settles m kinds keys a → Settles m kinds keys b → a ≡ b
only_settled m kinds keys a b f p q = p f.arrangement f.image ∙ sym (q f.arrangement f.image)
