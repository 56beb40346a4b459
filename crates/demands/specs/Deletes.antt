-- Deleting nothing (R22): a record whose deletes of keys that are not live stand as reads, and a record that only deletes such keys.
-- Assumes nothing: these are definitions.
use Rattle.std.specs.Prelude.{ℕ, ◌≡◌}
use mathlib.Core.List.{List, [], ◌∷◌, Memᴰ as Mem}
use Rattle.std.proofs.Math.Option.{some}
use Rattle.record.specs.Record.{Rec}
use Rattle.record.specs.Parse.{parse}
use Rattle.record.specs.declared.point.Point.{Point}
use Rattle.record.specs.declared.point.Point.TheVariants.{Read, Put, Delete}
use Rattle.meld.specs.declared.kept.Lookup.TheVariants.{Absent}
use Rattle.meld.specs.Lookups.{LooksUp}

-- R22: the second point is the first; or the first is a delete and the second a read of a key under which a lookup in the pool finds nothing
pub data ReadInstead (m : List ℕ) : Point → Point → Type 0 where
  as_it_was : {q : Point} → ReadInstead m q q
  read_it : {k : ℕ} → LooksUp m k Absent → ReadInstead m (Delete k) (Read k)

-- R22: so for each of the points of two records
pub data ReadsInstead (m : List ℕ) : List Point → List Point → Type 0 where
  none_left : ReadsInstead m [] []
  one_more : {q q' : Point} {ps ps' : List Point} → ReadInstead m q q' → ReadsInstead m ps ps' → ReadsInstead m (q ∷ ps) (q' ∷ ps')

-- R22: the bytes are two records that differ only in that the second reads keys that the first deletes, where a lookup in the pool finds nothing
pub record DeletesRead (m bytes bytes' : List ℕ) : Type 0 where
  pub r : Rec
  pub r' : Rec
  pub first : parse bytes ≡ some r
  pub second : parse bytes' ≡ some r'
  pub same_snapshot : r'.snapshot ≡ r.snapshot
  pub same_scans : r'.scans ≡ r.scans
  pub points : ReadsInstead m r.points r'.points

-- R22: the bytes are a record that puts nothing, and a lookup in the pool finds nothing under any key that it deletes
pub record DeletesNothing (m bytes : List ℕ) : Type 0 where
  pub r : Rec
  pub is : parse bytes ≡ some r
  pub no_put : (k x : ℕ) → Mem (Put k x) r.points → ⊥
  pub no_live : (k : ℕ) → Mem (Delete k) r.points → LooksUp m k Absent
