-- The joined record is well formed (R57): its snapshot is that of both, the test of R56 bounds its counts, and its points rise and its scans lie
-- apart since those of both do.
-- Assumes nothing.
use mathlib.Core.Path.{◌≡◌}
use mathlib.Core.Bool.{true}
use Rattle.record.specs.Record.{Rec, Valid}
use Rattle.joiner.specs.Joined.{joined_of, can_join}
use Rattle.joiner.proofs.PointContent.{points_rise_joined}
use Rattle.joiner.proofs.ScanContent.{apart_joined}
use Rattle.joiner.proofs.Content.{can_join_lem}

-- R57: two well-formed records that can be joined make a well-formed one
pub joined_valid : (a b : Rec) → Valid a → Valid b → can_join a b ≡ true → Valid (joined_of a b)
joined_valid a b v w e =
    let c = can_join_lem a b e in
    record {
      snapshot_fits = v.snapshot_fits;
      few_points = c.2;
      few_scans = c.3;
      rising = points_rise_joined a.points b.points v.rising w.rising;
      apart = apart_joined a.scans b.scans v.apart w.apart;
    }
