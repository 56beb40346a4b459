-- The keys that a record writes, counted by what is kept under them; and which of its deletes write.
-- Assumes nothing: these are definitions.
use Rattle.std.specs.Prelude.{ℕ, ◌+◌, ◌≡◌, List, [], ◌∷◌, leb, eqb}
use Rattle.std.specs.Prelude.{if◌then◌else◌}
use Rattle.rules.specs.State.{Entry}
use Rattle.find.specs.declared.Found.{Found}
use Rattle.find.specs.declared.Found.TheVariants.{Absent, Live, Tombstone}
use Rattle.find.specs.Found.{found_in}
use Rattle.pool.specs.Image.{Arrangement, Image, state_of}
use Rattle.room.specs.declared.tally.Tally.{Tally}
use Rattle.room.specs.declared.tally.Settled.{Settled}

-- one for a key that is not kept
abbrev pub one_if_absent : Found → ℕ
one_if_absent Absent = 1
one_if_absent (Live x w) = 0
one_if_absent (Tombstone w) = 0

-- one for a tombstone that is old
abbrev pub one_if_revived : ℕ → Found → ℕ
one_if_revived limit Absent = 0
one_if_revived limit (Live x w) = 0
one_if_revived limit (Tombstone w) = if leb w limit then 1 else 0

-- the kind of a delete, by what is kept under its key: a delete where that is live; else a read, which is passed over (R22)
abbrev pub delete_as : Found → ℕ
delete_as Absent = 1
delete_as (Live x w) = 3
delete_as (Tombstone w) = 1

-- the kind of a point once its key was looked for: only a delete can have another than before
abbrev pub settled_kind : ℕ → ℕ → List Entry → ℕ
settled_kind kind k es = if eqb kind 3 then delete_as (found_in k es) else kind

-- the kinds of points, given as kinds and keys
unfoldable pub settled_in : List ℕ → List ℕ → List Entry → List ℕ
settled_in [] ks es = []
settled_in (kind ∷ kinds) [] es = []
settled_in (kind ∷ kinds) (k ∷ ks) es = settled_kind kind k es ∷ settled_in kinds ks es

-- these are the settled kinds, for the state that the pool means
abbrev pub Settles : List ℕ → List ℕ → List ℕ → List ℕ → Type 0
Settles m kinds ks kinds' = (A : Arrangement) → Image m A → kinds' ≡ settled_in kinds ks (state_of A).kept

-- what a point of a kind adds: only a put can need another key, as a delete writes a live one (R22)
abbrev pub adds : (Found → ℕ) → ℕ → ℕ → List Entry → ℕ
adds f kind k es = if eqb kind 2 then f (found_in k es) else 0

-- what points add, given as kinds and keys
unfoldable pub tally_of : (Found → ℕ) → List ℕ → List ℕ → List Entry → ℕ
tally_of f [] ks es = 0
tally_of f (kind ∷ kinds) [] es = 0
tally_of f (kind ∷ kinds) (k ∷ ks) es = adds f kind k es + tally_of f kinds ks es

-- one point's part
pub record SettledAs (kind k limit : ℕ) (es : List Entry) (r : Settled) : Type 0 where
  pub kind_is : r.kind ≡ settled_kind kind k es
  pub absent_is : r.adds.absent ≡ adds one_if_absent kind k es
  pub revived_is : r.adds.revived ≡ adds (one_if_revived limit) kind k es

-- all points
pub record TallyIs (kinds ks : List ℕ) (limit : ℕ) (es : List Entry) (r : Tally) : Type 0 where
  pub absent_is : r.absent ≡ tally_of one_if_absent kinds ks es
  pub revived_is : r.revived ≡ tally_of (one_if_revived limit) kinds ks es
