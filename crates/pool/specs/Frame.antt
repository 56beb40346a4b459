-- What the functions inside the library promise of the nodes that they leave alone.
-- Assumes nothing: these are definitions.
use Rattle.std.specs.Prelude.{ℕ, ◌+◌, ◌≤◌, ◌<◌, ◌≡◌, ◌⊎◌, List, length, get_or}
use Rattle.nodes.specs.Nodes.{base}

-- byte k is none of node j's
abbrev pub Clear : ℕ → ℕ → Type 0
Clear k j = (k < base j) ⊎ (base j + 32 ≤ k)

-- m' is m but for the nodes of S: the header is kept too
pub record Frame (m m' : List ℕ) (S : ℕ → Type 0) : Type 0 where
  pub length_kept : length m' ≡ length m
  pub kept : (k : ℕ) → ((j : ℕ) → S j → Clear k j) → get_or m' k 0 ≡ get_or m k 0
