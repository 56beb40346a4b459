-- `meld::status` meets its promise: the check decides whether there is a state, and then its header and one count tell (Statuses.antt).
use Rattle.meld.proofs.Lookups.{now_fit}
use Rattle.meld.proofs.Statuses.{fit_status}
use Rattle.std.proofs.lemmas.Bool.{not_from_true}
use Rattle.meld.proofs.telling.status.Goals as goal

pub returns : goal.returns
returns c =
    fit_status _ (now_fit _ _ c.fit.ensures (not_from_true _ c.if-not-fit.false)) _ c.read_header-h.ensures _ c.count_old-tombstones.ensures
