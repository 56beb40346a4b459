-- The fakes that no promise lets pass (R43). A library here is any functions of the bytes lent that keep the promises.
-- Assumes nothing: these are definitions.
use Rattle.std.specs.Prelude.{ℕ, ◌+◌, ◌≤◌, ◌<◌, ◌≡◌, List, length, take}
use Rattle.words.specs.Word.{Bytes}
use Rattle.record.specs.declared.answer.Answer.{Answer}
use Rattle.record.specs.Answer.{committed, ahead}
use Rattle.record.specs.Parse.{parse}
use Rattle.rules.specs.State.{State, last_position}
use Rattle.rules.specs.Tree.{looks_of}
use Rattle.create.specs.Fresh.{Created}
use Rattle.meld.specs.declared.kept.Lookup.{Lookup}
use Rattle.meld.specs.declared.melding.Melded.{Melded}
use Rattle.meld.specs.Lookups.{LooksUp}
use Rattle.meld.specs.Melds.{Melds, melded_of}
use Rattle.refresh.specs.Refreshed.{RefreshIs}
use Rattle.demands.specs.Runs.{Means}

-- R43: creation, lookup, meld and refresh: each answers, and leaves the bytes that it may change so; each keeps its promise, for any bytes
pub record Library : Type 0 where
  pub create : List ℕ → ℕ → ℕ → Answer × List ℕ
  pub lookup : List ℕ → ℕ → Lookup
  pub meld : List ℕ → List ℕ → Melded × List ℕ
  pub refresh : List ℕ → List ℕ → List ℕ → Answer × List ℕ
  pub create_keeps : (m : List ℕ) (n z : ℕ) → Bytes m → Created m n z (create m n z).0 (create m n z).1
  pub lookup_keeps : (m : List ℕ) (k : ℕ) → Bytes m → LooksUp m k (lookup m k)
  pub meld_keeps : (m bytes : List ℕ) → Bytes m → Bytes bytes → Melds m bytes (meld m bytes).1 (meld m bytes).0
  pub refresh_keeps : (m original output : List ℕ) → Bytes m → Bytes original → Bytes output
      → RefreshIs m original output (refresh m original output).0 (refresh m original output).1

-- R43: a meld that never says 0
abbrev pub AlwaysRefuses : Library → Type 0
AlwaysRefuses L = (m bytes : List ℕ) → Bytes m → Bytes bytes → (L.meld m bytes).0.answer ≡ committed → ⊥

-- R43: a meld that always says 0
abbrev pub AlwaysCommits : Library → Type 0
AlwaysCommits L = (m bytes : List ℕ) → Bytes m → Bytes bytes → (L.meld m bytes).0.answer ≡ committed

-- R43: a meld that stores nothing: every lookup sees what it saw before
abbrev pub StoresNothing : Library → Type 0
StoresNothing L = (m bytes : List ℕ) (k : ℕ) → Bytes m → Bytes bytes → L.lookup (L.meld m bytes).1 k ≡ L.lookup m k

-- R29: the state with its position moved on by one, and nothing else changed
abbrev pub advanced : State → State
advanced S = record { N = S.N; Z = S.Z; p = S.p + 1; kept = S.kept }

-- R43: a meld that decides position 1 and only counts on after it
pub record OnlyFirst (L : Library) : Type 0 where
  -- the record at position 1 gets the rules' answer and looks
  pub honest : (m bytes : List ℕ) (S : State) → Means m S → Bytes bytes → S.p ≡ 0 → (L.meld m bytes).0 ≡ melded_of S (parse bytes)
  -- any later one moves the position on, and that is all
  pub advances : (m bytes : List ℕ) (S : State) → Means m S → Bytes bytes → 1 ≤ S.p → S.p < last_position → Means (L.meld m bytes).1 (advanced S)

-- R43: a refresh that only copies its record
abbrev pub Copies : Library → Type 0
Copies L =
    (m original output : List ℕ) → Bytes m → Bytes original → Bytes output → (L.refresh m original output).0 ≡ committed
    → take (length original) (L.refresh m original output).1 ≡ original

-- R43: a refresh that always says 5
abbrev pub AlwaysAhead : Library → Type 0
AlwaysAhead L = (m original output : List ℕ) → Bytes m → Bytes original → Bytes output → (L.refresh m original output).0 ≡ ahead

-- R43: looks other than those of the search, on some pool that means a state
pub record InventsLooks (L : Library) : Type 0 where
  pub m : List ℕ
  pub bytes : List ℕ
  pub S : State
  pub lent : Bytes bytes
  pub means : Means m S
  pub other : (L.meld m bytes).0.looks ≡ looks_of S (parse bytes) → ⊥
