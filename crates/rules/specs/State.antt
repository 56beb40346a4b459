-- The state (R17).
-- Assumes nothing: these are definitions.
use Rattle.std.specs.Prelude.{ℕ, ◌+◌, ◌^◌, ◌≤◌, ◌<◌, Bool, true, false, length}
use mathlib.Core.List.{List, [], ◌∷◌, Memᴰ as Mem}
use Rattle.std.proofs.Math.Option.{Option, none, some}

-- R17: a kept key, the position of its last committed write, and its payload, or none for a tombstone
pub record Entry : Type 0 where
  pub key : ℕ
  pub position : ℕ
  pub payload : Option ℕ

-- R17: its key
abbrev pub key_in : Entry → ℕ
key_in e = e.key

-- R17: N, Z, p, and an entry for each kept key, in rising order of the keys
pub record State : Type 0 where
  pub N : ℕ
  pub Z : ℕ
  pub p : ℕ
  pub kept : List Entry

-- R17: before the first record
abbrev pub fresh : ℕ → ℕ → State
fresh N Z = record { N = N; Z = Z; p = 0; kept = [] }

-- R17: a payload, and no tombstone
abbrev pub is_live : Option ℕ → Bool
is_live none = false
is_live (some x) = true

-- R2: the last position
abbrev pub last_position : ℕ
last_position = 4294967295

-- R17: the keys rise strictly from low on, all below top
pub data Rising (top : ℕ) : ℕ → List Entry → Type 0 where
  end : {low : ℕ} → low ≤ top → Rising top low []
  link : {low : ℕ} {e : Entry} {es : List Entry} → low ≤ e.key → Rising top (e.key + 1) es → Rising top low (e ∷ es)

-- R2: a payload fits eight bytes
abbrev pub Fits : Option ℕ → Type 0
Fits none = Unit
Fits (some x) = x < 2 ^ 64

-- R2 and R17: the limits are in range, no position is past the last, at most N keys are kept, each once and of 32 bits, written at 1 to p,
-- with payloads of 64 bits
pub record Lawful (S : State) : Type 0 where
  pub limit_N : (1 ≤ S.N) × (S.N ≤ 65536)
  pub limit_Z : (1 ≤ S.Z) × (S.Z ≤ 4096)
  pub last : S.p ≤ last_position
  pub few : length S.kept ≤ S.N
  pub rising : Rising (2 ^ 32) 0 S.kept
  pub positions : (e : Entry) → Mem e S.kept → (1 ≤ e.position) × (e.position ≤ S.p)
  pub payloads : (e : Entry) → Mem e S.kept → Fits e.payload
