-- `refresh_fit` meets its contract: one law for each return (Returns.antt).
-- Assumes nothing.
use borrow.Author.Rules.{rules}
use Rattle.refresh.proofs.Asks.{lent_bytes}
use Rattle.refresh.proofs.Returns.{returns_refused, returns_short, snapshot_inside, returns_done}
use Rattle.refresh.proofs.refresh_fit.Goals as goal

pub returns-then-ne : goal.returns-then-ne
returns-then-ne c = returns_refused _ _ _ (lent_bytes _ c.type_inv.original) _ c.asked-answer.ensures (search rules)

pub returns-then-output-original : goal.returns-then-output-original
returns-then-output-original c = returns_short _ _ c.args.output.now (lent_bytes _ c.type_inv.original) _ c.asked-answer.ensures (search rules) c.if-output-original.true

pub put4-requires : goal.put4-requires
put4-requires c = snapshot_inside _ _ _ (lent_bytes _ c.type_inv.original) _ c.asked-answer.ensures (search rules) c.if-output-original.false _ c.copy_front.ensures c.requires

pub returns : goal.returns
returns c = returns_done _ _ _ (lent_bytes _ c.type_inv.original) _ c.asked-answer.ensures (search rules) c.if-output-original.false _ c.copy_front.ensures _ c.read_header.ensures _ c.put4.ensures
