-- The rest of the fitness check: the free nodes, the header, and the tree's place in them.
-- Assumes nothing: these are definitions.
use Rattle.std.specs.Prelude.{ℕ, zero, suc, ◌+◌, ◌-◌, ◌*◌, ◌^◌, ◌≤◌, ◌<◌, ◌≡◌, Bool, true, ◌&&◌, List, ltb, leb, eqb, length, get_or}
use Rattle.nodes.specs.declared.node.Node.{Node}
use Rattle.nodes.specs.Nodes.{node_at, header_at}
use Rattle.std.specs.Prelude.{if◌then◌else◌}
use Rattle.pool.specs.Plan.{no_node, free_height}
use Rattle.pool.specs.Image.{layout_mark}
use Rattle.fit.specs.Check.{leaves_at}

-- r says whether P holds
pub record Decides (P : Type 0) (r : Bool) : Type 0 where
  pub sound : r ≡ true → P
  pub complete : P → r ≡ true

-- a free node of this rank
unfoldable pub free_ok : Node → ℕ → Bool
free_ok n rank =
    eqb n.height free_height && (eqb n.newest rank && (eqb n.oldest 0 && (eqb n.left 0 && (eqb n.right 0 && (eqb n.kind 0 && eqb n.spare 0)))))

-- from node i on so many free nodes, the ranks falling to 1
unfoldable pub chain_ok : List ℕ → ℕ → ℕ → ℕ → Bool
chain_ok m nodes zero i = eqb i no_node
chain_ok m nodes (suc k) i = ltb i nodes && (free_ok (node_at m i) (suc k) && chain_ok m nodes k (node_at m i).low)

-- how many free nodes there are: a tree of c leaves has 2·c − 1 nodes
abbrev pub free_count : ℕ → ℕ → ℕ
free_count N c = if eqb c 0 then 2 * N else 2 * N + 1 - 2 * c

-- the leaves of the tree at a root
abbrev pub leaves_from : List ℕ → ℕ → ℕ → ℕ
leaves_from m nodes root = leaves_at m nodes 33 root 0 (2 ^ 32)

-- so many keys are kept, in the tree at root, none written after p
unfoldable pub tree_ok : List ℕ → ℕ → ℕ → ℕ → ℕ → Bool
tree_ok m nodes root kept p =
    let some = ltb root nodes && (leb (node_at m root).newest p && eqb (leaves_from m nodes root) kept) in
    if eqb kept 0 then eqb root no_node else some

-- what is asked of the header, and of the length
pub record Head (m : List ℕ) : Type 0 where
  pub marked : (header_at m).mark ≡ layout_mark
  pub limit_N : (1 ≤ (header_at m).limit) × ((header_at m).limit ≤ 65536)
  pub limit_Z : (1 ≤ (header_at m).zone) × ((header_at m).zone ≤ 4096)
  pub size : length m ≡ 64 + 64 * (header_at m).limit
  pub few : (header_at m).kept ≤ (header_at m).limit
  pub zeros : (k : ℕ) → 28 ≤ k → k < 64 → get_or m k 0 ≡ 0
