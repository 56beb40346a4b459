-- `create::create` meets its contract: nodes, zeros and header together are the image of the fresh arrangement (`makes`).
-- Assumes nothing.
use Rattle.create.proofs.Laws.{limits_facts, refuses, makes}
use native.Mathlib.Omega.{arith}
use Rattle.std.proofs.lemmas.Bool.{not_from_false, not_from_true}
use Rattle.create.proofs.create.Goals as goal

pub returns-then-not-limits_hold : goal.returns-then-not-limits_hold
returns-then-not-limits_hold c = refuses _ _ _ _ c.limits_hold.ensures (not_from_false _ c.if-not-limits_hold.true)

pub overflow_mul-n : goal.overflow_mul-n
overflow_mul-n c = let l = limits_facts _ _ _ _ c.limits_hold.ensures (not_from_true _ c.if-not-limits_hold.false) in omega (arith, l.limit_N)

pub free_all-requires : goal.free_all-requires
free_all-requires c = let l = limits_facts _ _ _ _ c.limits_hold.ensures (not_from_true _ c.if-not-limits_hold.false) in (omega (arith, l.exact), omega (arith, l.limit_N))

pub clear-requires : goal.clear-requires
clear-requires c = let l = limits_facts _ _ _ _ c.limits_hold.ensures (not_from_true _ c.if-not-limits_hold.false) in (omega (arith, l.exact, c.free_all.ensures.as_long), c.free_all.ensures.bytes)

pub write_header-requires : goal.write_header-requires
write_header-requires c = let l = limits_facts _ _ _ _ c.limits_hold.ensures (not_from_true _ c.if-not-limits_hold.false) in omega (arith, l.exact, c.free_all.ensures.as_long, c.clear.ensures.as_long)

pub returns : goal.returns
returns c = makes _ _ _ _ _ _ _ c.limits_hold.ensures (not_from_true _ c.if-not-limits_hold.false) c.free_all.ensures c.clear.ensures c.write_header.ensures
