-- Demand 1 in full for `meld`: each answer exactly when its row of the table says so, and what is left behind (R23, R29). Of the rows the
-- first that applies counts, so each row here says too that those before it do not.
-- Assumes nothing: these are definitions.
use Rattle.std.specs.Prelude.{ℕ, ◌+◌, ◌-◌, ◌≤◌, ◌<◌, ◌≡◌, ◌⊎◌, ◌↔◌, not, List, length, T}
use Rattle.std.proofs.Math.Option.{none, some}
use Rattle.words.specs.Word.{put_word}
use Rattle.record.specs.declared.answer.Answer.{Answer}
use Rattle.record.specs.Answer as Names
use Rattle.record.specs.Record.{Rec}
use Rattle.record.specs.Parse.{parse}
use Rattle.rules.specs.State.{State, last_position}
use Rattle.rules.specs.Verdict.{conflicts, count, next}
use Rattle.pool.specs.Image.{Fit}
use Rattle.demands.specs.Runs.{Means}
use Rattle.demands.specs.Touches.{position_from}

-- THE ROWS

-- R23, 7 unfit pool: the bytes are those of no state (R19)
abbrev pub Row7 : List ℕ → Type 0
Row7 m = Fit m → ⊥

-- R23, 6 positions used up: the pool means a state, and its position is the last
pub record Row6 (m : List ℕ) : Type 0 where
  pub S : State
  pub means : Means m S
  pub used_up : S.p ≡ last_position

-- R23: neither 7 nor 6: the pool means state S, and a position is left
pub record PositionLeft (m : List ℕ) (S : State) : Type 0 where
  pub means : Means m S
  pub left : S.p < last_position

-- R23, 4 malformed: nor are the bytes a well-formed record (R9)
pub record Row4 (m bytes : List ℕ) : Type 0 where
  pub S : State
  pub above : PositionLeft m S
  pub malformed : parse bytes ≡ none

-- R23: none of 7, 6 and 4: the bytes are the record r
pub record Formed (m bytes : List ℕ) (S : State) (r : Rec) : Type 0 where
  pub above : PositionLeft m S
  pub well_formed : parse bytes ≡ some r

-- R23, 5 ahead: s > p
pub record Row5 (m bytes : List ℕ) : Type 0 where
  pub S : State
  pub r : Rec
  pub above : Formed m bytes S r
  pub ahead : S.p < r.snapshot

-- R23, 2 too old: p − s > Z
pub record Row2 (m bytes : List ℕ) : Type 0 where
  pub S : State
  pub r : Rec
  pub above : Formed m bytes S r
  pub not_ahead : r.snapshot ≤ S.p
  pub too_old : S.Z < S.p - r.snapshot

-- R23: none of 7, 6, 4, 5 and 2
pub record InZone (m bytes : List ℕ) (S : State) (r : Rec) : Type 0 where
  pub above : Formed m bytes S r
  pub not_ahead : r.snapshot ≤ S.p
  pub not_too_old : S.p - r.snapshot ≤ S.Z

-- R23, 1 conflict: R24
pub record Row1 (m bytes : List ℕ) : Type 0 where
  pub S : State
  pub r : Rec
  pub above : InZone m bytes S r
  pub conflict : T (conflicts S r)

-- R23, 3 no room: R26
pub record Row3 (m bytes : List ℕ) : Type 0 where
  pub S : State
  pub r : Rec
  pub above : InZone m bytes S r
  pub no_conflict : T (not (conflicts S r))
  pub no_room : S.N < count S r.points

-- R23, 0 committed: otherwise
pub record Row0 (m bytes : List ℕ) : Type 0 where
  pub S : State
  pub r : Rec
  pub above : InZone m bytes S r
  pub no_conflict : T (not (conflicts S r))
  pub room : count S r.points ≤ S.N

-- THE TABLE

-- R29: 4, 5, 2, 1 or 3
abbrev pub UsesPosition : Answer → Type 0
UsesPosition a = (a ≡ Names.malformed) ⊎ ((a ≡ Names.ahead) ⊎ ((a ≡ Names.too_old) ⊎ ((a ≡ Names.conflict) ⊎ (a ≡ Names.no_room))))

-- R23, R29: a meld of bytes into a pool m has answered a and left the pool m'
pub record MeldExactly (m bytes m' : List ℕ) (a : Answer) : Type 0 where
  -- "exactly when"
  pub unfit_pool : (a ≡ Names.unfit_pool) ↔ Row7 m
  pub positions_used_up : (a ≡ Names.positions_used_up) ↔ Row6 m
  pub malformed : (a ≡ Names.malformed) ↔ Row4 m bytes
  pub ahead : (a ≡ Names.ahead) ↔ Row5 m bytes
  pub too_old : (a ≡ Names.too_old) ↔ Row2 m bytes
  pub conflict : (a ≡ Names.conflict) ↔ Row1 m bytes
  pub no_room : (a ≡ Names.no_room) ↔ Row3 m bytes
  pub committed : (a ≡ Names.committed) ↔ Row0 m bytes
  -- "left behind": nothing changes on 7 and 6
  pub unchanged : (a ≡ Names.unfit_pool) ⊎ (a ≡ Names.positions_used_up) → m' ≡ m
  -- on 4, 5, 2, 1 and 3 the four bytes of the position hold p + 1, and no other byte differs
  pub position_on : UsesPosition a → (S : State) → Means m S → m' ≡ put_word 4 m position_from (S.p + 1)
  -- on 0 the pool means the next state (R27, R28), in as many bytes
  pub next_state : a ≡ Names.committed → (S : State) → Means m S → Means m' (next S (parse bytes))
  pub as_long : length m' ≡ length m
