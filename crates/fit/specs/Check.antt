-- The tests of the fitness check, word by word, and what it finds below a node. `leaves_at` follows the code; what it means is a theorem.
-- Assumes nothing: these are definitions.
use Rattle.std.specs.Prelude.{ℕ, zero, suc, ◌+◌, ◌/◌, ◌%◌, ◌^◌, max, min, Bool, ◌&&◌, ◌||◌, List, ltb, leb, eqb}
use Rattle.nodes.specs.declared.node.Node.{Node}
use Rattle.nodes.specs.Nodes.{node_at}
use Rattle.std.specs.Prelude.{if◌then◌else◌}
use Rattle.rules.specs.Tree.{no_tombstone}
use Rattle.pool.specs.Times.{bit}

-- the words behind the key of a live key
unfoldable pub live_ok : Node → Bool
live_ok n = eqb n.kind 1 && eqb n.oldest no_tombstone

-- and of a tombstone
unfoldable pub tombstone_ok : Node → Bool
tombstone_ok n = eqb n.kind 2 && (eqb n.oldest n.newest && (eqb n.left 0 && eqb n.right 0))

-- a leaf's words, whatever its key
unfoldable pub entry_ok : Node → Bool
entry_ok n = ltb 0 n.newest && (eqb n.spare 0 && (live_ok n || tombstone_ok n))

-- a leaf whose key is one of from .. to − 1
unfoldable pub leaf_ok : Node → ℕ → ℕ → Bool
leaf_ok n from to = leb from n.low && (ltb n.low to && entry_ok n)

-- an inner node's own words: it covers a part of from .. to − 1 that begins at a multiple of its size
unfoldable pub own_ok : Node → ℕ → ℕ → Bool
own_ok n from to =
    leb n.height 32 && (leb from n.low && (leb (n.low + 2 ^ n.height) to && (eqb (n.low % 2 ^ n.height) 0 && (eqb n.kind 0 && eqb n.spare 0))))

-- its newest and oldest sum up those of its children
unfoldable pub sums_ok : Node → Node → Node → Bool
sums_ok n l r = eqb n.newest (max l.newest r.newest) && eqb n.oldest (min l.oldest r.oldest)

-- all that is asked of inner node i of a pool of so many nodes, but for what lies below it
unfoldable pub inner_ok : List ℕ → ℕ → ℕ → ℕ → ℕ → Bool
inner_ok m nodes i from to =
    let n = node_at m i in
    own_ok n from to && (ltb n.left nodes && (ltb n.right nodes && sums_ok n (node_at m n.left) (node_at m n.right)))

-- where the right half of what node n covers begins, and where it ends
abbrev pub cover_middle : Node → ℕ
cover_middle n = n.low + 2 ^ n.height / 2

abbrev pub cover_end : Node → ℕ
cover_end n = n.low + 2 ^ n.height

-- both halves hold a tree
unfoldable pub both : ℕ → ℕ → ℕ
both a b = if eqb a 0 then 0 else if eqb b 0 then 0 else a + b

-- the number of leaves of the tree at node i, whose keys are of from .. to − 1; 0 if there is none. The third argument bounds the depth
unfoldable pub leaves_at : List ℕ → ℕ → ℕ → ℕ → ℕ → ℕ → ℕ
leaves_at m nodes zero i from to = 0
leaves_at m nodes (suc g) i from to =
    let n = node_at m i in
    let below = both (leaves_at m nodes g n.left n.low (cover_middle n)) (leaves_at m nodes g n.right (cover_middle n) (cover_end n)) in
    let inner = if inner_ok m nodes i from to then below else 0 in
    if eqb n.height 0 then bit (leaf_ok n from to) else inner
