-- `emuparasol_explain` meets its promise: what `explain` gave back, as numbers (Carried.antt).
use Rattle.abi.proofs.Carried.{explain_carried}
use borrow.Author.Rules.{rules}
use Rattle.abi.proofs.emuparasol_explain.Goals as goal

pub returns : goal.returns
returns c = search (explain_carried, rules)
