-- The leaf that the search names: that of the smallest key that is hit (R50). The functions inside the library ask for it.
-- Assumes nothing: these are definitions.
use Rattle.std.specs.Prelude.{ℕ, ◌+◌, ◌*◌, ◌≤◌, ◌≡◌, length, T}
use mathlib.Core.List.{List, Memᴰ as Mem}
use Rattle.record.specs.declared.point.Scan.{Scan}
use Rattle.nodes.specs.Nodes.{node_at}
use Rattle.rules.specs.State.{Entry}
use Rattle.rules.specs.Verdict.{hits}
use Rattle.pool.specs.Image.{Arrangement, state_of}

-- a kept entry that is hit, with the smallest key of those
pub record SmallestHit (A : Arrangement) (s : ℕ) (f : List Scan) (e : Entry) : Type 0 where
  pub kept : Mem e (state_of A).kept
  pub hit : T (hits s f e)
  pub least : (e' : Entry) → Mem e' (state_of A).kept → T (hits s f e') → e.key ≤ e'.key

-- what stands in the pool at the leaf that the search names: the words of the entry with the smallest key that is hit
pub record NamedLeaf (m : List ℕ) (A : Arrangement) (s : ℕ) (f : List Scan) (i : ℕ) : Type 0 where
  pub entry : Entry
  pub within : 64 + 32 * i + 32 ≤ length m
  pub key_is : (node_at m i).low ≡ entry.key
  pub position_is : (node_at m i).newest ≡ entry.position
  pub smallest : SmallestHit A s f entry
