-- What the steps of `explain` ask and promise. No public promise cites these.
-- Assumes nothing: these are definitions.
use Rattle.std.specs.Prelude.{ℕ, ◌<◌, ◌≡◌, List, map}
use Rattle.std.proofs.Math.Option.{some}
use Rattle.record.specs.declared.answer.Answer.{Answer}
use Rattle.record.specs.Record.{Rec, Valid, key_of}
use Rattle.record.specs.Reader.{high_of}
use Rattle.rules.specs.State.{last_position}
use Rattle.rules.specs.Demands.{Reaches}
use Rattle.rules.specs.Footprint.{reach}
use Rattle.pool.specs.Image.{Arrangement, Image, state_of}
use Rattle.conflict_search.specs.Smallest.{NamedLeaf}
use Rattle.meld.specs.Lists.{Names}
use Rattle.reason.specs.declared.told.Touch.{Touch}
use Rattle.reason.specs.declared.told.Reason.{Reason}
use Rattle.reason.specs.declared.told.Reason.TheVariants.{Nothing}
use Rattle.reason.specs.declared.told.Explained.{Explained}
use Rattle.reason.specs.Reason.{TouchedBy, Blames, ExplainsAs}

-- an answer that says it all, with its looks
abbrev pub plainly : Answer → ℕ → Explained
plainly a n = record { answer = a; looks = n; reason = Nothing }

-- the lists are the keys and the highs of a well-formed record
pub record TouchLists (keys highs : List ℕ) (r : Rec) : Type 0 where
  pub valid : Valid r
  pub keys_are : keys ≡ map key_of r.points
  pub highs_are : highs ≡ map high_of r.scans

-- what touches key k in such a record that names or scans it
abbrev pub TouchIs : List ℕ → List ℕ → ℕ → Touch → Type 0
TouchIs keys highs k t = (r : Rec) → TouchLists keys highs r → Reaches r k → TouchedBy r k t

-- a leaf is that of the smallest key in conflict with some well-formed record of these lists
pub record Blamable (m : List ℕ) (i : ℕ) (keys highs : List ℕ) : Type 0 where
  pub arrangement : Arrangement
  pub image : Image m arrangement
  pub r : Rec
  pub lists : TouchLists keys highs r
  pub named : NamedLeaf m arrangement r.snapshot (reach r) i

-- and then what is said of it is the true reason of the conflict
abbrev pub BlameIs : List ℕ → ℕ → List ℕ → List ℕ → Reason → Type 0
BlameIs m i keys highs x =
    (A : Arrangement) → Image m A → (r : Rec) → TouchLists keys highs r → NamedLeaf m A r.snapshot (reach r) i → Blames (state_of A) r x

-- the pool is fit, a position is left, and the lists are some well-formed record's
pub record Explainable (m : List ℕ) (s : ℕ) (kinds ks ls hs : List ℕ) : Type 0 where
  pub arrangement : Arrangement
  pub image : Image m arrangement
  pub left : arrangement.p < last_position
  pub r : Rec
  pub xs : List ℕ
  pub names : Names s kinds ks xs ls hs r

-- and then explaining the lists is explaining that record
abbrev pub ExplainsLists : List ℕ → ℕ → List ℕ → List ℕ → List ℕ → List ℕ → Explained → Type 0
ExplainsLists m s kinds ks ls hs x =
    (A : Arrangement) → Image m A → (r : Rec) (xs : List ℕ) → Names s kinds ks xs ls hs r → ExplainsAs (state_of A) (some r) x
