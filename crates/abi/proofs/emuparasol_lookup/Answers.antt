-- `emuparasol_lookup` meets its promise: what `lookup` answered, as numbers (Carried.antt).
use Rattle.abi.proofs.Carried.{lookup_carried}
use borrow.Author.Rules.{rules}
use Rattle.abi.proofs.emuparasol_lookup.Goals as goal

pub returns : goal.returns
returns c = search (lookup_carried, rules)
