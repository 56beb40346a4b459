-- Applying points to an arrangement (R28): puts and deletes are stored at v, anything else is passed over. Which deletes write (R22) was found out before.
-- Assumes nothing: these are definitions.
use Rattle.std.specs.Prelude.{ℕ, ◌≤◌, ◌≡◌, length, eqb, Some, None}
use mathlib.Core.List.{List, [], ◌∷◌, Memᴰ as Mem}
use Rattle.record.specs.declared.point.Point.{Point}
use Rattle.record.specs.declared.point.Point.TheVariants.{Read, Put, Delete}
use Rattle.std.specs.Prelude.{if◌then◌else◌}
use Rattle.rules.specs.State.{Entry}
use Rattle.rules.specs.EntryFits.{EntryFits}
use Rattle.rules.specs.Footprint.{stored_at}
use Rattle.rules.specs.Verdict.{store_all}
use Rattle.pool.specs.Image.{Arrangement, Image, state_of}
use Rattle.put.specs.Values.{Value}
use Rattle.put.specs.Storing.{put_in}

-- the point of a kind, a key and a payload (R5): 2 is a put, 3 a delete; anything else is passed over like a read (R22)
abbrev pub point_from : ℕ → ℕ → ℕ → Point
point_from kind k x = if eqb kind 2 then Put k x else if eqb kind 3 then Delete k else Read k

-- the points of three lists
unfoldable pub points_in : List ℕ → List ℕ → List ℕ → List Point
points_in [] ks xs = []
points_in (kind ∷ kinds) [] xs = []
points_in (kind ∷ kinds) (k ∷ ks) [] = []
points_in (kind ∷ kinds) (k ∷ ks) (x ∷ xs) = point_from kind k x ∷ points_in kinds ks xs

-- what a point stores
abbrev pub value_of : Point → Value
value_of (Read k) = None
value_of (Put k x) = Some x
value_of (Delete k) = None

-- entries stored one after the other
unfoldable pub store_in : Arrangement → List Entry → Arrangement
store_in A [] = A
store_in A (w ∷ ws) = store_in (put_in A w) ws

-- these entries can all be stored: each fits its bytes and stands at the arrangement's position, and there is room for all
pub record AllStorable (A : Arrangement) (ws : List Entry) : Type 0 where
  pub started : 1 ≤ A.p
  pub sized : (e : Entry) → Mem e ws → EntryFits e
  pub at_p : (e : Entry) → Mem e ws → e.position ≡ A.p
  pub room : length (store_all ws (state_of A).kept) ≤ A.N

-- what three lists of points store, at position v; the writes of a record (R22), if its deletes that write nothing are reads in the lists
abbrev pub writes_in : ℕ → List ℕ → List ℕ → List ℕ → List Entry
writes_in v kinds ks xs = stored_at v (points_in kinds ks xs)

-- the pool is fit and past position 0, the lists are equally long, and all writes fit their bytes and find room
pub record Applicable (m kinds ks xs : List ℕ) : Type 0 where
  pub arrangement : Arrangement
  pub image : Image m arrangement
  pub written_at : 1 ≤ arrangement.p
  pub as_many_keys : length ks ≡ length kinds
  pub as_many_payloads : length xs ≡ length kinds
  pub sized : (e : Entry) → Mem e (writes_in arrangement.p kinds ks xs) → EntryFits e
  pub room : length (store_all (writes_in arrangement.p kinds ks xs) (state_of arrangement).kept) ≤ arrangement.N

-- afterwards all writes are stored at the pool's position
abbrev pub Applies : List ℕ → List ℕ → List ℕ → List ℕ → List ℕ → Type 0
Applies m kinds ks xs m' = (A : Arrangement) → Image m A → Image m' (store_in A (writes_in A.p kinds ks xs))
