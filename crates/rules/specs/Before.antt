-- The rule of before on deletes (R55): every put and every delete wrote its key, whether or not anything was under it. In all else it is the rule of
-- Verdict.antt.
-- Assumes nothing: these are definitions.
use Rattle.std.specs.Prelude.{ℕ, ◌+◌, Bool, List, ◌++◌, map, ltb, leb, length}
use Rattle.std.proofs.Math.Option.{Option, none, some}
use Rattle.record.specs.Record.{Rec}
use Rattle.record.specs.declared.point.Point.{Point}
use Rattle.std.specs.Prelude.{if◌then◌else◌}
use Rattle.rules.specs.Lists.{keep, distinct}
use Rattle.rules.specs.State.{Entry, State, key_in, last_position}
use Rattle.rules.specs.Footprint.{reach, stored_at}
use Rattle.rules.specs.Verdict.{Verdict, committed, no_room, malformed, positions_used_up, refusal_or, young}

-- R22 then: what the points of a record wrote at p + 1
abbrev pub writes_before : State → List Point → List Entry
writes_before S ps = stored_at (S.p + 1) ps

-- R26 then: how many keys had to find room
abbrev pub count_before : State → List Point → ℕ
count_before S ps = length (distinct (map key_in (keep (young S.Z (S.p + 1)) S.kept) ++ map key_in (writes_before S ps)))

-- R27 then: whether the old tombstones were dropped
abbrev pub drops_before : State → List Point → Bool
drops_before S ps = ltb S.N (length (distinct (map key_in S.kept ++ map key_in (writes_before S ps))))

-- R23 then: rows 4, 5, 2, 1, 3 and 0
abbrev pub formed_before : State → Option Rec → Verdict
formed_before S none = malformed
formed_before S (some r) = refusal_or S r.snapshot (reach r) (if ltb S.N (count_before S r.points) then no_room else committed)

-- R23 then: row 6 before them
unfoldable pub verdict_before : State → Option Rec → Verdict
verdict_before S m = if leb last_position S.p then positions_used_up else formed_before S m
