-- `blame::blame` meets its promise: the leaf's words are those of the smallest key in conflict (Explaining.antt).
use Rattle.reason.proofs.Explaining.{blames}
use Rattle.reason.proofs.blame.blame.Goals as goal

pub returns : goal.returns
returns c = blames _ _ _ _ _ c.read_node-n.ensures _ c.touch_of-touch.ensures
