-- `emuparasol_feed` meets its promise: what `feed` gave back, as numbers (Carried.antt).
use Rattle.abi.proofs.Carried.{feed_carried}
use borrow.Author.Rules.{rules}
use Rattle.abi.proofs.emuparasol_feed.Goals as goal

pub returns : goal.returns
returns c = search (feed_carried, rules)
