-- What melding promises of a record that is given as its lists: the part of meld behind the reader. No public promise cites these.
-- Assumes nothing: these are definitions.
use Rattle.std.specs.Prelude.{ℕ, ◌<◌, ◌≡◌, List, map}
use Rattle.std.proofs.Math.Option.{some}
use Rattle.record.specs.Record.{Rec, Valid, kind_of, key_of, payload_of}
use Rattle.record.specs.Reader.{low_of, high_of}
use Rattle.rules.specs.State.{last_position}
use Rattle.pool.specs.Image.{Arrangement, Image}
use Rattle.meld.specs.declared.melding.Melded.{Melded}
use Rattle.meld.specs.Melds.{MeldsAs}

-- the lists are a well-formed record's, with its snapshot
pub record Names (s : ℕ) (kinds ks xs ls hs : List ℕ) (r : Rec) : Type 0 where
  pub valid : Valid r
  pub snapshot_is : s ≡ r.snapshot
  pub kinds_are : kinds ≡ map kind_of r.points
  pub keys_are : ks ≡ map key_of r.points
  pub payloads_are : xs ≡ map payload_of r.points
  pub lows_are : ls ≡ map low_of r.scans
  pub highs_are : hs ≡ map high_of r.scans

-- the pool is fit, a position is left, and the lists are some well-formed record's
pub record Meldable (m : List ℕ) (s : ℕ) (kinds ks xs ls hs : List ℕ) : Type 0 where
  pub arrangement : Arrangement
  pub image : Image m arrangement
  pub left : arrangement.p < last_position
  pub r : Rec
  pub names : Names s kinds ks xs ls hs r

-- and then melding the lists is melding that record
abbrev pub MeldsLists : List ℕ → ℕ → List ℕ → List ℕ → List ℕ → List ℕ → List ℕ → List ℕ → Melded → Type 0
MeldsLists m s kinds ks xs ls hs m' a =
    (A : Arrangement) → Image m A → (r : Rec) → Names s kinds ks xs ls hs r → MeldsAs A (some r) m' a
