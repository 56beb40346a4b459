-- What demands 2 and 3 say of a log, in words that their statements use.
-- Assumes nothing: these are definitions.
use Rattle.std.specs.Prelude.{ℕ, ◌-◌, ◌≤◌, ◌<◌, ◌≡◌, ◌⊎◌, eqb}
use mathlib.Core.List.{List, [], ◌∷◌, Memᴰ as Mem}
use Rattle.std.proofs.Math.Option.{Option, some}
use Rattle.record.specs.Record.{Rec, key_of}
use Rattle.record.specs.declared.point.Point.{Point}
use Rattle.record.specs.declared.point.Scan.{Scan}
use Rattle.std.specs.Prelude.{if◌then◌else◌}
use Rattle.rules.specs.State.{Entry, fresh, last_position}
use Rattle.rules.specs.Verdict.{count}
use Rattle.rules.specs.Log.{Log, after, commits}

-- DEMAND 2

-- R21: key k is named by a point or covered by a scan
abbrev pub Reaches : Rec → ℕ → Type 0
Reaches r k = ((q : Point) × Mem q r.points × (key_of q ≡ k)) ⊎ ((c : Scan) × Mem c r.scans × (c.low ≤ k) × (k ≤ c.high))

-- R25: a committed record of the log wrote a key that r names or scans, at one of s + 1 to p
abbrev pub Beaten : ℕ → ℕ → Log → Rec → Type 0
Beaten N Z log r = (e : Entry) × Mem e (commits (fresh N Z) log) × (r.snapshot < e.position) × (e.position ≤ (after (fresh N Z) log).p) × Reaches r e.key

-- R23: record m passes every row where it stands, after this log from a new pool, with R25 for conflict
pub record Passes (N Z : ℕ) (log : Log) (m : Option Rec) : Type 0 where
  pub position_left : (after (fresh N Z) log).p < last_position
  pub r : Rec
  pub well_formed : m ≡ some r
  pub not_ahead : r.snapshot ≤ (after (fresh N Z) log).p
  pub not_too_old : (after (fresh N Z) log).p - r.snapshot ≤ Z
  pub no_conflict : Beaten N Z log r → ⊥
  pub room : count (after (fresh N Z) log) r.points ≤ N

-- R30: the last write of key k in a list of writes, o if there is none
abbrev pub last_write : ℕ → Option Entry → List Entry → Option Entry
last_write k o [] = o
last_write k o (e ∷ es) = last_write k (if eqb e.key k then some e else o) es

-- DEMAND 3

-- s, then the stops, then p, in log order (R40)
abbrev pub InOrder : ℕ → List ℕ → ℕ → Type 0
InOrder s [] p = s ≤ p
InOrder s (q ∷ qs) p = (s ≤ q) × InOrder q qs p

-- R40: the last stop, where q is the first
abbrev pub last_of : ℕ → List ℕ → ℕ
last_of q [] = q
last_of q (q' ∷ qs) = last_of q' qs
