-- `meld::lookup` meets its promise: the check decides whether there is a state, and then one descent tells (Lookups.antt).
use Rattle.meld.proofs.Lookups.{fit_lookup}
use Rattle.std.proofs.lemmas.Bool.{not_from_true}
use Rattle.meld.proofs.looking.lookup.Goals as goal

pub returns : goal.returns
returns c = fit_lookup _ _ _ c.fit.ensures (not_from_true _ c.if-not-fit.false) _ c.find.ensures _ c.from.ensures
