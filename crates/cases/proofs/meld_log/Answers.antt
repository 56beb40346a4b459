-- `cases::meld_log` meets its contract: the whole log as one part, with an impossible length in it or over behind it, is the card's (Parted.antt of `lines`).
-- Assumes nothing.
use Prim.Native.Nat.{ℕ}
use borrow.Author.Rules.{rules}
use lib.ListN.{length-replicate}
use Rattle.lines.proofs.Parted.{log_breaks, log_ends}
use Rattle.cases.proofs.meld_log.Goals as goal

pub returns-then-going : goal.returns-then-going
returns-then-going g c = log_breaks _ _ _ _ _ (length-replicate {A = ℕ} 13835 0) _ c.feed_part-going.ensures (search rules)

pub returns : goal.returns
returns g c = log_ends _ _ _ _ _ (length-replicate {A = ℕ} 13835 0) _ c.feed_part-going.ensures (search rules) _ _ _ c.finish.ensures
