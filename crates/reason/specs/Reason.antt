-- The reason of an answer (R50): who beat a record, how far it lags, how many keys have to find room. Said by the state and not by the search.
-- Assumes nothing: these are definitions.
use Rattle.std.specs.Prelude.{ℕ, suc, ◌-◌, ◌≤◌, ◌<◌, ◌≡◌}
use mathlib.Core.List.{List, ◌∷◌, Memᴰ as Mem}
use Rattle.std.proofs.Math.Option.{Option, none, some}
use Rattle.record.specs.declared.answer.Answer.{Answer}
use Rattle.record.specs.declared.point.Point.{Point}
use Rattle.record.specs.declared.point.Scan.{Scan}
use Rattle.record.specs.Answer as Names
use Rattle.record.specs.Record.{Rec, key_of}
use Rattle.record.specs.Parse.{parse}
use Rattle.rules.specs.State.{Entry, State}
use Rattle.rules.specs.Demands.{Reaches}
use Rattle.rules.specs.Verdict.{Verdict, committed, conflict, too_old, no_room, malformed, ahead, positions_used_up, count, verdict}
use Rattle.pool.specs.Image.{Arrangement, Image, Fit, state_of}
use Rattle.meld.specs.Melds.{melded_of}
use Rattle.reason.specs.declared.told.Touch.{Touch}
use Rattle.reason.specs.declared.told.Touch.TheVariants as Touches
use Rattle.reason.specs.declared.told.Reason.{Reason}
use Rattle.reason.specs.declared.told.Reason.TheVariants.{Nothing, Conflict, TooOld, NoRoom}
use Rattle.reason.specs.declared.told.Explained.{Explained}

-- WHAT IS TOLD

-- R50: what a reason tells: the answer that it is the reason of, and the values that belong to it
pub record ReasonTold : Type 0 where
  pub answer : Option Answer
  pub key : Option ℕ
  pub position : Option ℕ
  pub point : Option ℕ
  pub scan : Option ℕ
  pub lag : Option ℕ
  pub keys : Option ℕ

-- R50: the number of the point that touches a key, where one does
abbrev pub point_in : Touch → Option ℕ
point_in (Touches.Point i) = some i
point_in (Touches.Scan i) = none

-- R50: the number of the scan, where no point does
abbrev pub scan_in : Touch → Option ℕ
scan_in (Touches.Point i) = none
scan_in (Touches.Scan i) = some i

-- R50, in each case: 1 with the key, the position and what touched it; 2 with the lag; 3 with the number of keys; nothing for any other answer
abbrev pub reason_told : Reason → ReasonTold
reason_told Nothing =
    record { answer = none; key = none; position = none; point = none; scan = none; lag = none; keys = none }
reason_told (Conflict k w t) =
    record { answer = some Names.conflict; key = some k; position = some w; point = point_in t; scan = scan_in t; lag = none; keys = none }
reason_told (TooOld n) =
    record { answer = some Names.too_old; key = none; position = none; point = none; scan = none; lag = some n; keys = none }
reason_told (NoRoom n) =
    record { answer = some Names.no_room; key = none; position = none; point = none; scan = none; lag = none; keys = some n }

-- R50: a reason tells what this one tells
abbrev pub TellsAs : Reason → Reason → Type 0
TellsAs x y = reason_told x ≡ reason_told y

-- WHO BEAT IT

-- R24: a kept entry is in conflict with a record: its key is named or scanned, and was last written above s
pub record InConflict (S : State) (r : Rec) (e : Entry) : Type 0 where
  pub kept : Mem e S.kept
  pub above : r.snapshot < e.position
  pub reached : Reaches r e.key

-- R50: and no smaller key is
pub record Smallest (S : State) (r : Rec) (e : Entry) : Type 0 where
  pub in_conflict : InConflict S r e
  pub least : (e' : Entry) → InConflict S r e' → e.key ≤ e'.key

-- R50: x is number i of a list, the first being number 1
pub data IsNumber {A : Type 0} (x : A) : ℕ → List A → Type 0 where
  first : {xs : List A} → IsNumber x 1 (x ∷ xs)
  later : {i : ℕ} {y : A} {xs : List A} → IsNumber x i xs → IsNumber x (suc i) (y ∷ xs)

-- R50: what of a record touches a key: the point with that key; where no point has it, the scan that covers it
pub data TouchedBy (r : Rec) (k : ℕ) : Touch → Type 0 where
  by_point : {q : Point} {i : ℕ} → IsNumber q i r.points → key_of q ≡ k → TouchedBy r k (Touches.Point i)
  by_scan : {c : Scan} {i : ℕ} → ((q : Point) → Mem q r.points → key_of q ≡ k → ⊥)
      → IsNumber c i r.scans → c.low ≤ k → k ≤ c.high → TouchedBy r k (Touches.Scan i)

-- R50, conflict: the smallest key in conflict, its entry's position, and what touches the key
pub record Blames (S : State) (r : Rec) (x : Reason) : Type 0 where
  pub e : Entry
  pub smallest : Smallest S r e
  pub touch : Touch
  pub touched : TouchedBy r e.key touch
  pub tells : TellsAs x (Conflict e.key e.position touch)

-- THE PROMISE

-- R50: the true reason of each answer, for a record at a state
abbrev pub ReasonFor : State → Rec → Reason → Verdict → Type 0
ReasonFor S r x committed = TellsAs x Nothing
ReasonFor S r x conflict = Blames S r x
ReasonFor S r x too_old = TellsAs x (TooOld (S.p - r.snapshot))
ReasonFor S r x no_room = TellsAs x (NoRoom (count S r.points))
ReasonFor S r x malformed = TellsAs x Nothing
ReasonFor S r x ahead = TellsAs x Nothing
ReasonFor S r x positions_used_up = TellsAs x Nothing

-- R50: there is none for bytes that are no record
abbrev pub TrueReason : State → Option Rec → Reason → Type 0
TrueReason S none x = TellsAs x Nothing
TrueReason S (some r) x = ReasonFor S r x (verdict S (some r))

-- R50: answer and looks are those of a meld, and the reason is the true one
pub record ExplainsAs (S : State) (m : Option Rec) (x : Explained) : Type 0 where
  pub as_melded : record { answer = x.answer; looks = x.looks } ≡ melded_of S m
  pub true_reason : TrueReason S m x.reason

-- R50: an unfit pool: 7, no looks and no reason
abbrev pub unfit_explained : Explained
unfit_explained = record { answer = Names.unfit_pool; looks = 0; reason = Nothing }

-- R50: the promise of `explain`, for any bytes
pub record Explains (m bytes : List ℕ) (x : Explained) : Type 0 where
  pub fit : (A : Arrangement) → Image m A → ExplainsAs (state_of A) (parse bytes) x
  pub unfit : (Fit m → ⊥) → x ≡ unfit_explained
