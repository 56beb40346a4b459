-- R20 on bytes: a pool stays fit.
-- The idea: each promise leaves the pool as it was, or says of which arrangement it is the image then.
-- Assumes nothing.
use Prim.Native.Nat.{ℕ}
use mathlib.Core.Path.{◌≡◌, refl, sym, subst}
use mathlib.Core.Bool.{Bool, true, false}
use mathlib.Core.List.{List}
use lib.ListN.{length}
use Rattle.record.specs.declared.answer.Answer.{Answer}
use Rattle.record.specs.Answer.{committed}
use Rattle.pool.specs.Image.{Fit}
use Rattle.create.specs.Fresh.{Created, limits_ok, fresh_plan}
use Rattle.create.proofs.Only.{created_fit}
use Rattle.pages.proofs.Decided.{meld_stays_fit}
use Rattle.pages.proofs.Refusals.{feed_stays_fit}
use Rattle.demands.specs.Calls.{Call, Calls, none_more, one_more}
use Rattle.demands.proofs.Cards.{created_fresh}

-- creation makes a fit pool, or leaves the bytes as they were
create_stays_fit : (m : List ℕ) (n z : ℕ) (a : Answer) (m' : List ℕ) → Created m n z a m' → Fit m → Fit m'
create_stays_fit m n z a m' c f = go (limits_ok n z (length m)) refl
  where
    go : (b : Bool) → limits_ok n z (length m) ≡ b → Fit m'
    go true e = created_fit m n z a m' c e
    go false e = subst Fit (sym (c.refused e).1) f

-- one call leaves a fit pool fit
pub call_stays_fit : {m m' : List ℕ} → Call m m' → Fit m → Fit m'
call_stays_fit {m} {m'} (Call.create n z a c) f = create_stays_fit m n z a m' c f
call_stays_fit (Call.fit r d) f = f
call_stays_fit (Call.status x s) f = f
call_stays_fit (Call.lookup k x l) f = f
call_stays_fit (Call.meld bytes x b h) f = meld_stays_fit h f
call_stays_fit (Call.feed carry carried part over r carry' b d h) f = feed_stays_fit h f
call_stays_fit (Call.refresh original before after a b c h) f = f
call_stays_fit (Call.explain bytes x b h) f = f

-- and so do several
pub calls_stay_fit : {m m' : List ℕ} → Calls m m' → Fit m → Fit m'
calls_stay_fit none_more f = f
calls_stay_fit (one_more c cs) f = calls_stay_fit cs (call_stays_fit c f)

-- "A pool that creation has answered 0 for is fit from then on, whatever calls of this library it is lent to as a pool"
pub stays_fit : (lent : List ℕ) (N Z : ℕ) (new m : List ℕ) → Created lent N Z committed new → Calls new m → Fit m
stays_fit lent N Z new m c cs = calls_stay_fit cs (record { arrangement = fresh_plan N Z; image = created_fresh lent N Z new c })
