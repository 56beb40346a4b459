-- `named_size` meets its contract: a law of SizeLaws for each return.
-- Assumes nothing.
use mathlib.Core.Path.{◌∙◌}
use native.Mathlib.Omega.{arith}
use Rattle.writer.proofs.SizeLaws.{size_lists, start_most, size_points_bad, size_place, size_whole}
use borrow.Author.Rules.{rules}
use Rattle.writer.proofs.rules.named_size.Goals as goal

pub returns-then-keys-kinds : goal.returns-then-keys-kinds
returns-then-keys-kinds c = size_lists _ _ _ _ _ λ e x h p s. grind arith

pub points_end-requires : goal.points_end-requires
points_end-requires c = (search rules, search rules, search rules, search (start_most, rules))

pub returns-in_err-at : goal.returns-in_err-at
returns-in_err-at c = c.from_residual.ensures ∙ size_points_bad _ _ _ _ _ _ c.version_for.ensures _ c.head_size-start.ensures _ c.points_end.ensures c.in_err-at.was

pub scans_end-requires : goal.scans_end-requires
scans_end-requires c = (search rules, search rules, search (size_place, rules))

pub returns : goal.returns
returns c =
    size_whole _ _ _ _ _ _ c.version_for.ensures _ c.head_size-start.ensures _ c.points_end.ensures _ c.in_ok-at.was (search rules) _ c.scans_end.ensures (search rules)
