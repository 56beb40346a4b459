-- `fit::leaves::leaves` meets its contract, by recursion: what a node covers halves with each call.
-- A child's count, leaf or inner node, is `leaves_at` of it at every sufficient bound; then the parent's is.
-- Assumes nothing.
use Rattle.fit.proofs.LeavesLaws.{passed, leaf_counts, left_none, right_none, sum_counts, sum_few}
use mathlib.Core.Path.{◌∙◌}
use Rattle.fit.proofs.leaves.+leaves.Goals as goal
use Rattle.fit.proofs.leaves.+leaves.Goals.{then-l-eq0, else-l-eq0, then-r-eq0, else-r-eq0}

pub returns-then-left-eq0 : goal.returns-then-left-eq0
returns-then-left-eq0 t c = let k = passed _ _ _ _ _ _ c.inner_fits.ensures c.if-not-inner_fits.false _ c.node-n.ensures c.requires.1 _ _ c.from-low.ensures c.size_of-size.ensures in left_none k _ (elim c.if-l-eq0.branch [ then-l-eq0 w ↦ leaf_counts _ _ _ _ _ _ _ c.node-l.ensures w.if-l-eq0.true (w.left-is ∙ w.leaf_count-left.ensures) | else-l-eq0 w ↦ λ g lt. w.left-is ∙ w.leaves-left.ensures g lt ]) c.if-left-eq0.true

pub returns-then-right-eq0 : goal.returns-then-right-eq0
returns-then-right-eq0 t c = let k = passed _ _ _ _ _ _ c.inner_fits.ensures c.if-not-inner_fits.false _ c.node-n.ensures c.requires.1 _ _ c.from-low.ensures c.size_of-size.ensures in right_none k _ (elim c.if-r-eq0.branch [ then-r-eq0 w ↦ leaf_counts _ _ _ _ _ _ _ c.node-r.ensures w.if-r-eq0.true (w.right-is ∙ w.leaf_count-right.ensures) | else-r-eq0 w ↦ λ g lt. w.right-is ∙ w.leaves-right.ensures g lt ]) c.if-right-eq0.true

pub overflow_add-result : goal.overflow_add-result
overflow_add-result t c = let k = passed _ _ _ _ _ _ c.inner_fits.ensures c.if-not-inner_fits.false _ c.node-n.ensures c.requires.1 _ _ c.from-low.ensures c.size_of-size.ensures in record { fits = sum_few k _ _ (elim c.if-l-eq0.branch [ then-l-eq0 w ↦ leaf_counts _ _ _ _ _ _ _ c.node-l.ensures w.if-l-eq0.true (w.left-is ∙ w.leaf_count-left.ensures) | else-l-eq0 w ↦ λ g lt. w.left-is ∙ w.leaves-left.ensures g lt ]) (elim c.if-r-eq0.branch [ then-r-eq0 w ↦ leaf_counts _ _ _ _ _ _ _ c.node-r.ensures w.if-r-eq0.true (w.right-is ∙ w.leaf_count-right.ensures) | else-r-eq0 w ↦ λ g lt. w.right-is ∙ w.leaves-right.ensures g lt ]) c.requires.2 }

pub returns : goal.returns
returns t c = let k = passed _ _ _ _ _ _ c.inner_fits.ensures c.if-not-inner_fits.false _ c.node-n.ensures c.requires.1 _ _ c.from-low.ensures c.size_of-size.ensures in sum_counts k _ _ (elim c.if-l-eq0.branch [ then-l-eq0 w ↦ leaf_counts _ _ _ _ _ _ _ c.node-l.ensures w.if-l-eq0.true (w.left-is ∙ w.leaf_count-left.ensures) | else-l-eq0 w ↦ λ g lt. w.left-is ∙ w.leaves-left.ensures g lt ]) (elim c.if-r-eq0.branch [ then-r-eq0 w ↦ leaf_counts _ _ _ _ _ _ _ c.node-r.ensures w.if-r-eq0.true (w.right-is ∙ w.leaf_count-right.ensures) | else-r-eq0 w ↦ λ g lt. w.right-is ∙ w.leaves-right.ensures g lt ]) c.if-left-eq0.false c.if-right-eq0.false
