-- The tree of a state, the search for a conflict in it, and the looks (R32 to R36).
-- Assumes nothing: these are definitions.
use Rattle.std.specs.Prelude.{ℕ, zero, suc, ◌+◌, ◌^◌, ◌≤◌, max, min, ◌≡◌, Bool, true, false, ◌&&◌, ◌||◌, List, [], ◌∷◌, ◌++◌, ltb, leb}
use Rattle.std.proofs.Math.Option.{Option, none, some}
use Rattle.record.specs.Record.{Rec}
use Rattle.record.specs.declared.point.Scan.{Scan}
use Rattle.std.specs.Prelude.{if◌then◌else◌}
use Rattle.rules.specs.Lists.{keep}
use Rattle.rules.specs.State.{Entry, State, is_live}
use Rattle.rules.specs.Footprint.{reach, meets}
use Rattle.rules.specs.Verdict.{Verdict, committed, conflict, too_old, no_room, malformed, ahead, positions_used_up, verdict}

-- R32: a leaf for a kept key; node h low l r splits at bit h − 1 and covers low .. low + 2 ^ h − 1
pub data Tree : Type 0 where
  empty : Tree
  leaf : Entry → Tree
  node : ℕ → ℕ → Tree → Tree → Tree

-- R32: it holds nothing
abbrev pub is_empty : Tree → Bool
is_empty empty = true
is_empty (leaf e) = false
is_empty (node h low l r) = false

-- R32: a node stands only where both sides hold something
abbrev pub join : ℕ → ℕ → Tree → Tree → Tree
join h low l r = if is_empty l then r else if is_empty r then l else node h low l r

-- R32: an entry with the bit 0, among those that share all bits above it: middle is the first key there with the bit 1
abbrev pub below : ℕ → Entry → Bool
below middle e = ltb e.key middle

-- R32: an entry with the bit 1
abbrev pub from : ℕ → Entry → Bool
from middle e = leb middle e.key

-- R32: an inner node stands exactly where the keys below it first differ, from bit 31 down, those with that bit 0 on its left:
-- the tree of entries whose keys lie in low .. low + 2 ^ h − 1. A state's tree is tree_of 32 0 of what is kept
unfoldable pub tree_of : ℕ → ℕ → List Entry → Tree
tree_of zero low [] = empty
tree_of zero low (e ∷ es) = leaf e
tree_of (suc h) low [] = empty
tree_of (suc h) low (e ∷ []) = leaf e
tree_of (suc h) low (e ∷ e' ∷ es) =
    let middle = low + 2 ^ h in
    join (suc h) low
    (tree_of h low (keep (below middle) (e ∷ e' ∷ es)))
    (tree_of h middle (keep (from middle) (e ∷ e' ∷ es)))

-- R32: the leaves, from the left
unfoldable pub entries : Tree → List Entry
entries empty = []
entries (leaf e) = e ∷ []
entries (node h low l r) = entries l ++ entries r

-- R34: the largest write position at or below a node
unfoldable pub newest : Tree → ℕ
newest empty = 0
newest (leaf e) = e.position
newest (node h low l r) = max (newest l) (newest r)

-- R27: the number that says that there is no tombstone in a subtree
abbrev pub no_tombstone : ℕ
no_tombstone = 4294967295

-- R27: the smallest position of a tombstone in a subtree. No rule asks for it: a pool keeps it to find old tombstones by (docs/LAYOUT.md)
unfoldable pub oldest : Tree → ℕ
oldest empty = no_tombstone
oldest (leaf e) = if is_live e.payload then no_tombstone else e.position
oldest (node h low l r) = min (oldest l) (oldest r)

-- R33: the first number that a node covers. A leaf covers its key, an inner node every number with the leading bits that all keys below share
abbrev pub first : Tree → ℕ
first empty = 0
first (leaf e) = e.key
first (node h low l r) = low

-- R33: the first number past what it covers
abbrev pub past : Tree → ℕ
past empty = 0
past (leaf e) = e.key + 1
past (node h low l r) = low + 2 ^ h

-- LOOKS

-- R35: whether the search found the conflict, and how many nodes it looked at
pub record Walked : Type 0 where
  pub found : Bool
  pub looks : ℕ

-- R35: go on at a node, unless its newest is at most s or nothing that is named or scanned lies in what it covers
abbrev pub goes_on : ℕ → List Scan → Tree → Bool
goes_on s f t = ltb s (newest t) && meets f (first t) (past t)

-- R35: one look, and no further
abbrev pub stop : Walked
stop = record { found = false; looks = 1 }

-- R35: this node's look, the left side's, and, if no conflict was found there, the right side's
abbrev pub descend : Walked → Walked → Walked
descend l r = record { found = l.found || r.found; looks = if l.found then 1 + l.looks else 1 + l.looks + r.looks }

-- R35: each node looked at counts one look, and a leaf that was not stopped at is the conflict
unfoldable pub walk : ℕ → List Scan → Tree → Walked
walk s f empty = record { found = false; looks = 0 }
walk s f (leaf e) = record { found = goes_on s f (leaf e); looks = 1 }
walk s f (node h low l r) = if goes_on s f (node h low l r) then descend (walk s f l) (walk s f r) else stop

-- R35: the search starts at the root
abbrev pub walk_of : State → Option Rec → Walked
walk_of S none = record { found = false; looks = 0 }
walk_of S (some r) = walk r.snapshot (reach r) (tree_of 32 0 S.kept)

-- R36: the looks of an answer, where the search takes n
abbrev pub looks_for : ℕ → Verdict → ℕ
looks_for n committed = n
looks_for n conflict = n
looks_for n too_old = 0
looks_for n no_room = n
looks_for n malformed = 0
looks_for n ahead = 0
looks_for n positions_used_up = 0

-- R36: the looks that a meld reports
unfoldable pub looks_of : State → Option Rec → ℕ
looks_of S m = looks_for (walk_of S m).looks (verdict S m)

-- R40: the first search finds what the second finds, in no more looks
pub record NoMoreLooks (w' w : Walked) : Type 0 where
  pub finds : w'.found ≡ w.found
  pub looks_le : w'.looks ≤ w.looks
