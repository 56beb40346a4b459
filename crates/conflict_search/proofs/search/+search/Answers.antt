-- The height of the node is the measure: a child stands lower. Each return and each call is one law of Steps.
-- Assumes nothing.
use native.Mathlib.Omega.{arith}
use mathlib.Core.Path.{sym, ◌∙◌}
use Rattle.conflict_search.proofs.Steps.{few_looks, height_in, at_old, at_away, at_leaf, ready_left, ready_right, down_left, down_right, at_left, at_both}
use Rattle.std.proofs.lemmas.Bool.{not_from_false, not_from_true}
use Rattle.conflict_search.proofs.search.+search.Goals as goal

pub returns-then-n-snapshot : goal.returns-then-n-snapshot
returns-then-n-snapshot t c = at_old c.read_node-n.ensures _ c.requires c.if-n-snapshot.true

pub end_of-requires : goal.end_of-requires
end_of-requires t c = height_in c.read_node-n.ensures c.requires

pub returns-then-not-touched : goal.returns-then-not-touched
returns-then-not-touched t c = at_away c.read_node-n.ensures _ c.requires c.args.lists.now.sorted c.forward.ensures c.forward-2.ensures c.end_of.ensures c.touched.ensures (not_from_false _ c.if-not-touched.true)

pub returns-then-n-eq0 : goal.returns-then-n-eq0
returns-then-n-eq0 t c = at_leaf c.read_node-n.ensures _ c.requires c.args.lists.now.sorted c.forward.ensures c.forward-2.ensures c.end_of.ensures c.touched.ensures c.if-n-snapshot.false (not_from_true _ c.if-not-touched.false) c.if-n-eq0.true

pub search-a-requires : goal.search-a-requires
search-a-requires t c = down_left c.read_node-n.ensures _ c.requires c.args.lists.now.sorted c.forward.ensures c.forward-2.ensures c.end_of.ensures c.touched.ensures c.if-n-snapshot.false (not_from_true _ c.if-not-touched.false) c.if-n-eq0.false _ c.decreases

pub overflow_add-result : goal.overflow_add-result
overflow_add-result t c = omega (arith, few_looks (ready_left c.read_node-n.ensures _ c.requires c.args.lists.now.sorted c.forward.ensures c.forward-2.ensures c.end_of.ensures c.touched.ensures c.if-n-snapshot.false (not_from_true _ c.if-not-touched.false) c.if-n-eq0.false).rooted c.search-a.ensures)

pub returns-then-is_some : goal.returns-then-is_some
returns-then-is_some t c = at_left c.read_node-n.ensures _ c.requires c.args.lists.now.sorted c.forward.ensures c.forward-2.ensures c.end_of.ensures c.touched.ensures c.if-n-snapshot.false (not_from_true _ c.if-not-touched.false) c.if-n-eq0.false c.search-a.ensures (sym c.is_some.ensures ∙ c.if-is_some.true)

pub search-b-requires : goal.search-b-requires
search-b-requires t c = down_right c.read_node-n.ensures _ c.requires c.args.lists.now.sorted c.forward.ensures c.forward-2.ensures c.end_of.ensures c.touched.ensures c.if-n-snapshot.false (not_from_true _ c.if-not-touched.false) c.if-n-eq0.false c.search-a.ensures _ c.decreases

pub overflow_add-result-2 : goal.overflow_add-result-2
overflow_add-result-2 t c = omega (arith, few_looks (ready_left c.read_node-n.ensures _ c.requires c.args.lists.now.sorted c.forward.ensures c.forward-2.ensures c.end_of.ensures c.touched.ensures c.if-n-snapshot.false (not_from_true _ c.if-not-touched.false) c.if-n-eq0.false).rooted c.search-a.ensures, few_looks (ready_right c.read_node-n.ensures _ c.requires c.args.lists.now.sorted c.forward.ensures c.forward-2.ensures c.end_of.ensures c.touched.ensures c.if-n-snapshot.false (not_from_true _ c.if-not-touched.false) c.if-n-eq0.false c.search-a.ensures).rooted c.search-b.ensures)

pub overflow_add-result-3 : goal.overflow_add-result-3
overflow_add-result-3 t c = omega (arith, few_looks (ready_left c.read_node-n.ensures _ c.requires c.args.lists.now.sorted c.forward.ensures c.forward-2.ensures c.end_of.ensures c.touched.ensures c.if-n-snapshot.false (not_from_true _ c.if-not-touched.false) c.if-n-eq0.false).rooted c.search-a.ensures, few_looks (ready_right c.read_node-n.ensures _ c.requires c.args.lists.now.sorted c.forward.ensures c.forward-2.ensures c.end_of.ensures c.touched.ensures c.if-n-snapshot.false (not_from_true _ c.if-not-touched.false) c.if-n-eq0.false c.search-a.ensures).rooted c.search-b.ensures)

pub returns : goal.returns
returns t c = at_both c.read_node-n.ensures _ c.requires c.args.lists.now.sorted c.forward.ensures c.forward-2.ensures c.end_of.ensures c.touched.ensures c.if-n-snapshot.false (not_from_true _ c.if-not-touched.false) c.if-n-eq0.false c.search-a.ensures c.search-b.ensures (sym c.is_some.ensures ∙ c.if-is_some.false)
