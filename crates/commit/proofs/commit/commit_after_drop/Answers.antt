-- `commit::commit_after_drop` meets its promise: each step asks what the one before leaves (Whole.antt).
use Rattle.commit.proofs.Whole.{lean_apply, lean_leave}
use Rattle.commit.proofs.commit.commit_after_drop.Goals as goal

pub apply-requires : goal.apply-requires
apply-requires c = lean_apply _ _ _ _ _ c.advance.ensures c.requires _ c.read_header-h.ensures _ c.old_at.ensures _ c.drop_old.ensures

pub returns : goal.returns
returns c = lean_leave _ _ _ _ _ c.advance.ensures c.requires _ c.read_header-h.ensures _ c.old_at.ensures _ c.drop_old.ensures _ c.apply.ensures
