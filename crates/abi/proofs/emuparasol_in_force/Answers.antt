-- `emuparasol_in_force` meets its promise: one law for each return (InForce.antt).
use Rattle.abi.proofs.InForce.{after_other, after_zero}
use borrow.Author.Rules.{rules}
use Rattle.abi.proofs.emuparasol_in_force.Goals as goal

pub returns-then-answer : goal.returns-then-answer
returns-then-answer c = search (after_zero, rules)

pub returns-else-answer : goal.returns-else-answer
returns-else-answer c = search (after_other, rules)
