-- The steps over a whole log (R15), and what becomes of them when the log is cut off (R16).
-- Assumes nothing: these are definitions.
use Rattle.std.specs.Prelude.{ℕ, ◌+◌, ◌≤◌, ◌<◌, ◌≡◌, List, [], ◌∷◌, ◌++◌, length, get_or, take}
use Rattle.record_log.specs.declared.found.Cut.{Cut}
use Rattle.record_log.specs.declared.found.Cut.TheVariants.{End, Torn, Impossible, Record}
use Rattle.record_log.specs.Log.{cut_at, part_of}

-- R15: steps from a place on: the parts handed out, in order, and how it ends: at the end, torn, or at an impossible length
pub data Walks (log : List ℕ) : ℕ → List (List ℕ) → Cut → Type 0 where
  ends : {place : ℕ} → cut_at log place ≡ End → Walks log place [] End
  tears : {place : ℕ} → cut_at log place ≡ Torn → Walks log place [] Torn
  cannot_be : {place : ℕ} → cut_at log place ≡ Impossible → Walks log place [] Impossible
  hands : {place next : ℕ} {parts : List (List ℕ)} {last : Cut} → cut_at log place ≡ Record next → Walks log next parts last
      → Walks log place (part_of (Record next) log place ∷ parts) last

-- some walk from a place on (R15): what it hands out and how it ends
pub record HasWalk (log : List ℕ) (place : ℕ) : Type 0 where
  pub parts : List (List ℕ)
  pub last : Cut
  pub walks : Walks log place parts last

-- what is left of a walk past a record that stands at the place (R15)
pub record WalkPast (log : List ℕ) (place next : ℕ) (parts : List (List ℕ)) (last : Cut) : Type 0 where
  pub rest : List (List ℕ)
  pub all : parts ≡ part_of (Record next) log place ∷ rest
  pub walks : Walks log next rest last

-- R14: two logs have the same bytes from a place to another
pub record Agree (log other : List ℕ) (place next : ℕ) : Type 0 where
  pub byte : (i : ℕ) → place ≤ i → i < next → get_or other i 0 ≡ get_or log i 0

-- R13: the parts back to back
abbrev pub joined : List (List ℕ) → List ℕ
joined [] = []
joined (part ∷ parts) = part ++ joined parts

-- R16: the log's first n bytes, where the whole log hands out `parts`
pub record CutLog (log : List ℕ) (parts : List (List ℕ)) (n : ℕ) : Type 0 where
  -- the records wholly before the cut, and the others
  pub before : List (List ℕ)
  pub after : List (List ℕ)
  pub all : parts ≡ before ++ after
  pub wholly : length (joined before) ≤ n
  pub first_is_not : (part : List ℕ) (rest : List (List ℕ)) → after ≡ part ∷ rest → n < length (joined before) + length part
  -- those before the cut are handed out as in the uncut log
  pub last : Cut
  pub walks : Walks (take n log) 0 before last
  -- then "end" if the cut is between two records or at either end of the log, and else 10
  pub between : length (joined before) ≡ n → last ≡ End
  pub amid : (length (joined before) ≡ n → ⊥) → last ≡ Torn
