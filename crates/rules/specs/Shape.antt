-- The shape of a tree of entries (R32): inner nodes stand exactly where keys first differ, in a tree and its subtrees.
-- Assumes nothing: these are definitions.
use Rattle.std.specs.Prelude.{ℕ, suc, ◌+◌, ◌*◌, ◌/◌, ◌^◌, ◌≤◌, ◌<◌, ◌≡◌, Bool, not, T}
use mathlib.Core.List.{Memᴰ as Mem}
use Rattle.rules.specs.State.{Entry}
use Rattle.rules.specs.Tree.{Tree, empty, leaf, node, is_empty, entries}

-- a tree that holds something
abbrev pub full : Tree → Bool
full t = not (is_empty t)

-- t holds keys of low .. low + 2 ^ h − 1, and its nodes stand where keys first differ
pub data Canonical : ℕ → ℕ → Tree → Type 0 where
  none : {h low : ℕ} → Canonical h low empty
  one : {h low : ℕ} {e : Entry} → low ≤ e.key → e.key < low + 2 ^ h → Canonical h low (leaf e)
  two : {h low : ℕ} {l r : Tree} → T (full l) → T (full r) → Canonical h low l → Canonical h (low + 2 ^ h) r → Canonical (suc h) low (node (suc h) low l r)
  on_left : {h low : ℕ} {t : Tree} → Canonical h low t → Canonical (suc h) low t
  on_right : {h low : ℕ} {t : Tree} → Canonical h (low + 2 ^ h) t → Canonical (suc h) low t

-- R32 with bits: a node splits at a bit. Both sides hold keys, all with the same leading bits above it, 0 there on the left and 1 on the right
pub record SplitsAtBit (h low : ℕ) (l r : Tree) : Type 0 where
  pub bit : ℕ
  pub leading : ℕ
  pub height : h ≡ bit + 1
  pub lowest : low ≡ leading * 2 ^ h
  pub left_full : T (full l)
  pub right_full : T (full r)
  pub left_keys : (e : Entry) → Mem e (entries l) → e.key / 2 ^ bit ≡ 2 * leading
  pub right_keys : (e : Entry) → Mem e (entries r) → e.key / 2 ^ bit ≡ 2 * leading + 1

-- every inner node of the tree does
pub data AllSplit : Tree → Type 0 where
  nothing : AllSplit empty
  at_leaf : {e : Entry} → AllSplit (leaf e)
  at_node : {h low : ℕ} {l r : Tree} → SplitsAtBit h low l r → AllSplit l → AllSplit r → AllSplit (node h low l r)
