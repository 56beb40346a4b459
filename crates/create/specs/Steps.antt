-- What the steps of creation leave behind.
-- Assumes nothing: these are definitions.
use Rattle.std.specs.Prelude.{ℕ, ◌+◌, ◌-◌, ◌≤◌, ◌<◌, ◌≡◌, List, ◌⊎◌, eqb, length, get_or}
use Rattle.words.specs.Word.{Bytes}
use Rattle.nodes.specs.Nodes.{node_at}
use Rattle.pool.specs.Plan.{free_node, no_node}
use Rattle.std.specs.Prelude.{if◌then◌else◌}

-- what stands behind free node i of so many
abbrev pub next_free : ℕ → ℕ → ℕ
next_free nodes i = if eqb (i + 1) nodes then no_node else (i + 1)

-- each node below i is free, with the next and the rank of a new pool of so many nodes
pub record FreedBefore (nodes i : ℕ) (m m' : List ℕ) : Type 0 where
  pub as_long : length m' ≡ length m
  pub bytes : Bytes m'
  pub freed : (j : ℕ) → j < i → node_at m' j ≡ free_node (next_free nodes j) (nodes - j)

-- the bytes from 28 on and below at are zero, all others as they were
pub record Cleared (at : ℕ) (m m' : List ℕ) : Type 0 where
  pub as_long : length m' ≡ length m
  pub bytes : Bytes m'
  pub zeros : (k : ℕ) → 28 ≤ k → k < at → get_or m' k 0 ≡ 0
  pub others : (k : ℕ) → (k < 28) ⊎ (64 ≤ k) → get_or m' k 0 ≡ get_or m k 0
