-- What the exported functions promise whose answers are no plain numbers in the library, a lookup, the record in force, feed and explain; and what
-- the numbers of a lookup and of a reason say of the case behind them.
-- Assumes nothing: these are definitions.
use Rattle.std.specs.Prelude.{ℕ, ◌-◌, ◌≤◌, ◌≡◌, Bool, true, false, List, length, Result}
use Rattle.record.specs.declared.answer.Answer.{Answer}
use Rattle.std.proofs.Math.Option.{none, some}
use Rattle.record.specs.Record.{Rec}
use Rattle.record.specs.Parse.{parse}
use Rattle.rules.specs.State.{Entry, State}
use Rattle.rules.specs.Verdict.{Verdict, committed, conflict, too_old, no_room, malformed, ahead, positions_used_up, count, verdict}
use Rattle.rules.specs.Lookup.{absent, found, lookup}
use Rattle.pool.specs.Image.{Arrangement, Image, Fit, state_of}
use Rattle.record_abi.specs.Numbers.{answer}
use Rattle.in_force.specs.InForce.{Source, original, refreshed, nothing, source_of, bytes_from}
use Rattle.meld.specs.declared.kept.Lookup.TheVariants.{Unfit}
use Rattle.meld.specs.declared.kept.Status.{Status}
use Rattle.meld.specs.Statuses.{StatusIs}
use Rattle.meld.specs.Lookups.{lookup_of}
use Rattle.meld.specs.Melds.{melded_of}
use Rattle.pages.specs.Pages.{Feeds}
use Rattle.reason.specs.declared.told.Touch.TheVariants.{Point, Scan}
use Rattle.reason.specs.declared.told.Explained.{Explained}
use Rattle.reason.specs.Reason.{Explains, Smallest, TouchedBy}
use Rattle.abi.specs.declared.numbers.StatusNumbers.{StatusNumbers}
use Rattle.abi.specs.declared.numbers.LookupNumbers.{LookupNumbers}
use Rattle.abi.specs.declared.numbers.ReasonNumbers.{ReasonNumbers}
use Rattle.abi.specs.Numbers.{of_status, of_lookup, FedNumbers, of_fed, fed_from, melded, reason_from, ExplainedNumbers, explained_numbers, of_explained}

-- R45, of the numbers: they are those of what status gives back
pub record StatusInNumbers (m : List ℕ) (t : StatusNumbers) : Type 0 where
  pub said : Result Status Answer
  pub status : StatusIs m said
  pub told : t ≡ of_status said

-- for the state that the pool means, what the rules' lookup sees, as numbers; 7 where it means none
pub record LooksUpAs (m : List ℕ) (k : ℕ) (t : LookupNumbers) : Type 0 where
  pub fit : (A : Arrangement) → Image m A → t ≡ of_lookup (lookup_of (lookup k (state_of A)))
  pub unfit : (Fit m → ⊥) → t ≡ of_lookup Unfit

-- 7 says that the pool is not fit; 0 with position 0 that the key is absent; 0 with a position that it was found, with this payload
pub record LookupTells (m : List ℕ) (k n x w : ℕ) : Type 0 where
  pub unfit : n ≡ 7 → Fit m → ⊥
  pub absent_is : n ≡ 0 → w ≡ 0 → (A : Arrangement) → Image m A → lookup k (state_of A) ≡ absent
  pub found_is : n ≡ 0 → 1 ≤ w → (A : Arrangement) → Image m A → lookup k (state_of A) ≡ found x w

-- whether the part lies in the refreshed buffer: the original and the empty part lie in the original
abbrev pub in_refreshed : Source → Bool
in_refreshed original = false
in_refreshed refreshed = true
in_refreshed nothing = false

-- the record in force after answer n, with original o and refreshed buffer b: in which of the two it lies, where it starts there, and how long it is
pub record InForceAs (n : ℕ) (o b : List ℕ) (r : Bool) (offset size : ℕ) : Type 0 where
  pub slice : r ≡ in_refreshed (source_of (answer n) b)
  pub start : offset ≡ 0
  pub bytes : size ≡ length (bytes_from (source_of (answer n) b) o b)

-- R47, of the numbers: what is put together from them is what feed gives back, and they are the only ones that stand for it, so the answer's
-- number is 0 with more and end
pub record FeedsInNumbers (m carry : List ℕ) (carried : ℕ) (part : List ℕ) (over : Bool) (t : FedNumbers) (m' carry' : List ℕ) : Type 0 where
  pub feeds : Feeds m carry carried part over (fed_from t) m' carry'
  pub told : t ≡ of_fed (fed_from t)

-- R50, of the numbers: they are those of what explain gives back
pub record ExplainsInNumbers (m bytes : List ℕ) (t : ExplainedNumbers) : Type 0 where
  pub said : Explained
  pub explains : Explains m bytes said
  pub told : t ≡ of_explained said

-- R50, conflict: what touches the key k is a point, and then its number is above 0 and the scan's is 0, or a scan, and the other way round
pub data TouchTells (r : Rec) (k : ℕ) : ℕ → ℕ → Type 0 where
  is_point : {i : ℕ} → 1 ≤ i → TouchedBy r k (Point i) → TouchTells r k i 0
  is_scan : {i : ℕ} → 1 ≤ i → TouchedBy r k (Scan i) → TouchTells r k 0 i

-- R50, conflict: the smallest key in conflict, its entry's position, and what touches the key; the lag and the keys are 0
pub record BlameTells (S : State) (r : Rec) (t : ReasonNumbers) : Type 0 where
  pub e : Entry
  pub smallest : Smallest S r e
  pub point : ℕ
  pub scan : ℕ
  pub touched : TouchTells r e.key point scan
  pub told : t ≡ reason_from e.key e.position point scan 0 0

-- R50: the numbers of the reason for each answer
abbrev pub ReasonTells : State → Rec → ReasonNumbers → Verdict → Type 0
ReasonTells S r t committed = t ≡ reason_from 0 0 0 0 0 0
ReasonTells S r t conflict = BlameTells S r t
ReasonTells S r t too_old = t ≡ reason_from 0 0 0 0 (S.p - r.snapshot) 0
ReasonTells S r t no_room = t ≡ reason_from 0 0 0 0 0 (count S r.points)
ReasonTells S r t malformed = t ≡ reason_from 0 0 0 0 0 0
ReasonTells S r t ahead = t ≡ reason_from 0 0 0 0 0 0
ReasonTells S r t positions_used_up = t ≡ reason_from 0 0 0 0 0 0

-- all eight numbers for any bytes: 7 and seven times 0 for an unfit pool; else the answer and the looks of a meld, with the reason's six
pub record ExplainTells (m bytes : List ℕ) (t : ExplainedNumbers) : Type 0 where
  pub unfit : (Fit m → ⊥) → t ≡ explained_numbers 7 0 0 0 0 0 0 0
  pub as_melded : (A : Arrangement) → Image m A → melded t.number t.looks ≡ melded_of (state_of A) (parse bytes)
  pub no_record : (A : Arrangement) → Image m A → parse bytes ≡ none → t.reason ≡ reason_from 0 0 0 0 0 0
  pub reason_is : (A : Arrangement) → Image m A → (r : Rec) → parse bytes ≡ some r
      → ReasonTells (state_of A) r t.reason (verdict (state_of A) (some r))
