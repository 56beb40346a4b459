-- What `judge` and `room_for` have said is the rules' verdict and looks, and what is left of it to do.
-- Assumes nothing.
use Prim.Native.Nat.{ℕ, ◌-◌, ◌≤◌, ◌<◌}
use mathlib.Core.Path.{◌≡◌, refl, sym, ap, ◌∙◌}
use mathlib.Core.Logic.{◌⊎◌, inl, inr}
use mathlib.Core.Bool.{Bool, true, false}
use mathlib.Core.Option.{Option, none, some}
use mathlib.Core.List.{List}
use lib.ListN.{length}
use lib.Dec.{ltb, leb}
use borrow.Author.Tests.{ltb-false, lt-leb}
use Rattle.record.specs.declared.point.Point.{Point}
use Rattle.record.specs.Answer as Names
use Rattle.record.specs.Record.{Rec, Valid}
use Rattle.std.specs.Prelude.{if◌then◌else◌}
use Rattle.rules.specs.State.{State, Lawful, last_position}
use Rattle.rules.specs.Footprint.{reach}
use Rattle.rules.specs.Verdict.{Verdict, conflict, too_old, ahead, verdict_answer, conflicts, whole, drops, count, refusal_or, no_room_or_committed, judge, verdict}
use Rattle.rules.specs.Tree.{tree_of, walk, looks_of}
use Rattle.rules.proofs.Counted.{drop_count}
use Rattle.judge.specs.declared.judged.Judged.{Judged}
use Rattle.judge.specs.Judged.{judged_of}
use Rattle.room.specs.declared.room.Room.TheVariants.{Enough, AfterDrop, TooLittle}
use Rattle.room.specs.Room.{RoomSaid, said_by, room_in}

-- the verdict is one after which only the position moves on
pub data Stops : Verdict → Type 0 where
  at_ahead : Stops ahead
  at_too_old : Stops too_old
  at_conflict : Stops conflict

-- rows 5, 2 and 1 have decided
pub record Decided (S : State) (r : Rec) (j : Judged) : Type 0 where
  pub v : Verdict
  pub is : verdict S (some r) ≡ v
  pub answer_is : j.answer ≡ verdict_answer v
  pub looks_is : j.looks ≡ looks_of S (some r)
  pub stops : Stops v

-- or row 3 is left
pub record Open (S : State) (r : Rec) (j : Judged) : Type 0 where
  pub is : verdict S (some r) ≡ no_room_or_committed S r.points
  pub answer_is : j.answer ≡ Names.committed
  pub looks_is : j.looks ≡ looks_of S (some r)

module _ (S : State) (r : Rec) (more : S.p < last_position) where
  abbrev W : ℕ
  W = (walk r.snapshot (reach r) (tree_of 32 0 S.kept)).looks

  pub decided : (j : Judged) → j ≡ judged_of S r.snapshot (reach r) → Decided S r j ⊎ Open S r j
  unfolding judged_of verdict judge refusal_or looks_of
  decided j e = go (ltb S.p r.snapshot) (ltb S.Z (S.p - r.snapshot)) (conflicts S r) (ltb S.N (count S r.points)) refl refl refl refl
    where
      first : leb last_position S.p ≡ false
      first = lt-leb last_position S.p more

      go : (a b c d : Bool) → ltb S.p r.snapshot ≡ a → ltb S.Z (S.p - r.snapshot) ≡ b → conflicts S r ≡ c → ltb S.N (count S r.points) ≡ d → Decided S r j ⊎ Open S r j
      go true b c d x y z w = inl (record {
        v = ahead;
        is = rw (first, x);
        answer_is = ap (λ (k : Judged). k.answer) e ∙ rw x;
        looks_is = ap (λ (k : Judged). k.looks) e ∙ rw (first, x);
        stops = at_ahead;
      })
      go false true c d x y z w = inl (record {
        v = too_old;
        is = rw (first, x, y);
        answer_is = ap (λ (k : Judged). k.answer) e ∙ rw (x, y);
        looks_is = ap (λ (k : Judged). k.looks) e ∙ rw (first, x, y);
        stops = at_too_old;
      })
      go false false true d x y z w = inl (record {
        v = conflict;
        is = rw (first, x, y, z);
        answer_is = ap (λ (k : Judged). k.answer) e ∙ rw (x, y, z);
        looks_is = ap (λ (k : Judged). k.looks) e ∙ rw (first, x, y, z);
        stops = at_conflict;
      })
      go false false false true x y z w = inr (record {
        is = rw (first, x, y, z, w);
        answer_is = ap (λ (k : Judged). k.answer) e ∙ rw (x, y, z);
        looks_is = ap (λ (k : Judged). k.looks) e ∙ rw (first, x, y, z, w);
      })
      go false false false false x y z w = inr (record {
        is = rw (first, x, y, z, w);
        answer_is = ap (λ (k : Judged). k.answer) e ∙ rw (x, y, z);
        looks_is = ap (λ (k : Judged). k.looks) e ∙ rw (first, x, y, z, w);
      })

-- ROW 3

pub record TooMany (S : State) (ps : List Point) (n : ℕ) : Type 0 where
  pub over : ltb S.N (count S ps) ≡ true
  pub counted : n ≡ count S ps

pub record FitsLean (S : State) (ps : List Point) : Type 0 where
  pub over : drops S ps ≡ true
  pub fits : count S ps ≤ S.N
  pub tested : ltb S.N (count S ps) ≡ false

pub record FitsWhole (S : State) (r : Rec) : Type 0 where
  pub fits : length (whole S r.points) ≤ S.N
  pub under : drops S r.points ≡ false
  pub tested : ltb S.N (count S r.points) ≡ false

-- what the rules say of room, by the two tests
abbrev said : ℕ → Bool → Bool → RoomSaid
said n over d = if over then record { number = some Names.no_room; drops_first = false; keys = some n } else record { number = none; drops_first = d; keys = none }

module _ (S : State) (r : Rec) where
  pub too_little : (n : ℕ) → said_by (TooLittle n) ≡ room_in S r.points → TooMany S r.points n
  unfolding room_in
  too_little n e = go (ltb S.N (count S r.points)) refl e
    where
      go : (b : Bool) → ltb S.N (count S r.points) ≡ b → said_by (TooLittle n) ≡ said (count S r.points) b (drops S r.points) → TooMany S r.points n
      go true q h = let d : ◌≡◌ {A = Option ℕ} (some n) (some (count S r.points)) = ap (λ (x : RoomSaid). x.keys) h in record { over = q; counted = cc }
      go false q h = let d = ap (λ (x : RoomSaid). x.number) h in absurd (cc)

  pub after_drop : said_by AfterDrop ≡ room_in S r.points → FitsLean S r.points
  unfolding room_in
  after_drop e = go (ltb S.N (count S r.points)) refl e
    where
      go : (b : Bool) → ltb S.N (count S r.points) ≡ b → said_by AfterDrop ≡ said (count S r.points) b (drops S r.points) → FitsLean S r.points
      go true q h = let d = ap (λ (x : RoomSaid). x.number) h in absurd (cc)
      go false q h = record { over = sym (ap (λ (x : RoomSaid). x.drops_first) h); fits = ltb-false S.N (count S r.points) q; tested = q }

  pub enough : Lawful S → Valid r → said_by Enough ≡ room_in S r.points → FitsWhole S r
  unfolding room_in
  enough l v e = go (ltb S.N (count S r.points)) refl e
    where
      go : (b : Bool) → ltb S.N (count S r.points) ≡ b → said_by Enough ≡ said (count S r.points) b (drops S r.points) → FitsWhole S r
      go true q h = let d = ap (λ (x : RoomSaid). x.number) h in absurd (cc)
      go false q h =
          let d : drops S r.points ≡ false = sym (ap (λ (x : RoomSaid). x.drops_first) h) in
          record { fits = ltb-false S.N (length (whole S r.points)) (sym (drop_count l v) ∙ d); under = d; tested = q }
