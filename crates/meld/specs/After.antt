-- What a record leaves in an arrangement: R23's last column, with the nodes.
-- Assumes nothing: these are definitions.
use Rattle.std.proofs.Math.Option.{Option}
use Rattle.std.specs.Prelude.{List}
use Rattle.record.specs.declared.point.Point.{Point}
use Rattle.record.specs.Record.{Rec}
use Rattle.std.specs.Prelude.{if◌then◌else◌}
use Rattle.rules.specs.Footprint.{writes_of}
use Rattle.rules.specs.Verdict.{Verdict, committed, conflict, too_old, no_room, malformed, ahead, positions_used_up, drops, verdict, points_of}
use Rattle.pool.specs.Image.{Arrangement, state_of}
use Rattle.drop.specs.Drop.{drop_in}
use Rattle.advance.specs.Moved.{moved_on}
use Rattle.commit.specs.Applied.{store_in}
use Rattle.commit.specs.Commit.{old_at}

-- the position moved on (R29), the old tombstones dropped where R27 drops them, and the writes stored (R28)
unfoldable pub committed_in : Arrangement → List Point → Arrangement
committed_in A ps =
    store_in (if drops (state_of A) ps then drop_in (old_at A) (moved_on A) else moved_on A) (writes_of (state_of A) ps)

-- R23's last column, for each answer
abbrev pub left_in : Arrangement → List Point → Verdict → Arrangement
left_in A ps committed = committed_in A ps
left_in A ps conflict = moved_on A
left_in A ps too_old = moved_on A
left_in A ps no_room = moved_on A
left_in A ps malformed = moved_on A
left_in A ps ahead = moved_on A
left_in A ps positions_used_up = A

-- the arrangement after a record
unfoldable pub after_in : Arrangement → Option Rec → Arrangement
after_in A m = left_in A (points_of m) (verdict (state_of A) m)
