-- What `lookup`, `feed` and `explain` have promised, carried over to the numbers that C is given.
-- Assumes nothing.
use Prim.Native.Nat.{ℕ}
use mathlib.Core.Path.{◌≡◌, refl, sym, ap, subst, ◌∙◌}
use mathlib.Core.Bool.{Bool}
use mathlib.Core.List.{List}
use Rattle.meld.specs.declared.kept.Lookup.{Lookup}
use Rattle.meld.specs.Lookups.{LooksUp}
use Rattle.pages.specs.declared.told.Happened.{Happened}
use Rattle.pages.specs.declared.told.Happened.TheVariants.{Decided, Refused, More, End}
use Rattle.pages.specs.declared.told.Fed.{Fed}
use Rattle.pages.specs.Pages.{Feeds}
use Rattle.reason.specs.declared.told.Touch.{Touch}
use Rattle.reason.specs.declared.told.Reason.{Reason}
use Rattle.reason.specs.declared.told.Reason.TheVariants.{Conflict}
use Rattle.reason.specs.declared.told.Explained.{Explained}
use Rattle.reason.specs.Reason.{Explains}
use Rattle.abi.specs.declared.numbers.LookupNumbers.{LookupNumbers}
use Rattle.abi.specs.declared.numbers.HappenedNumbers.{HappenedNumbers}
use Rattle.abi.specs.declared.numbers.TouchNumbers.{TouchNumbers}
use Rattle.abi.specs.declared.numbers.ReasonNumbers.{ReasonNumbers}
use Rattle.abi.specs.Numbers.{lookup_numbers, of_lookup, FedNumbers, of_happened, happened_from, fed_numbers, of_fed, fed_from}
use Rattle.abi.specs.Numbers.{of_touch, reason_from, of_reason, ExplainedNumbers, explained_numbers}
use Rattle.abi.specs.Told.{LooksUpAs, FeedsInNumbers, ExplainsInNumbers}

-- a lookup's numbers
pub lookup_carried : (m : List ℕ) (k : ℕ) (l : Lookup) → LooksUp m k l → (t : LookupNumbers) → t ≡ of_lookup l → LooksUpAs m k t
lookup_carried m k l h t e = record { fit = λ A i. e ∙ ap lookup_numbers (h.fit A i); unfit = λ n. e ∙ ap lookup_numbers (h.unfit n) }

-- what happened is had back from its numbers
happened_back : (w : Happened) → happened_from (of_happened w) ≡ w
happened_back (Decided a) = refl
happened_back (Refused a) = refl
happened_back More = refl
happened_back End = refl

-- so is what feed gives back
fed_back : (r : Fed) → fed_from (of_fed r) ≡ r
fed_back r = ap with_happened (happened_back r.happened)
  where
    with_happened : Happened → Fed
    with_happened w = record { happened = w; looks = r.looks; taken = r.taken; carried = r.carried }

-- the numbers of a call of feed
pub feed_carried : (m carry : List ℕ) (carried : ℕ) (part : List ℕ) (over : Bool) (r : Fed) (m' carry' : List ℕ)
    → Feeds m carry carried part over r m' carry' → (s : HappenedNumbers) → s ≡ of_happened r.happened
    → FeedsInNumbers m carry carried part over (fed_numbers s.happened s.number r.looks r.taken r.carried) m' carry'
feed_carried m carry carried part over r m' carry' h s e =
    record { feeds = subst (λ (x : Fed). Feeds m carry carried part over x m' carry') (sym back) h; told = same ∙ ap of_fed (sym back) }
  where
    saying : HappenedNumbers → FedNumbers
    saying x = record { said = x; looks = r.looks; taken = r.taken; carried = r.carried }

    same : saying s ≡ of_fed r
    same = ap saying e

    back : fed_from (saying s) ≡ r
    back = ap fed_from same ∙ fed_back r

-- the numbers of a conflict's reason, with those of what touches its key
pub conflict_carried : (x : Reason) (k w : ℕ) (t : Touch) → x ≡ Conflict k w t → (b : TouchNumbers) → b ≡ of_touch t
    → reason_from k w b.point b.scan 0 0 ≡ of_reason x
conflict_carried x k w t is b e = ap (λ (y : TouchNumbers). reason_from k w y.point y.scan 0 0) e ∙ sym (ap of_reason is)

-- the numbers of a call of explain
pub explain_carried : (m bytes : List ℕ) (x : Explained) → Explains m bytes x → (s : ReasonNumbers) → s ≡ of_reason x.reason
    → ExplainsInNumbers m bytes (explained_numbers x.answer.number x.looks s.key s.position s.point s.scan s.lag s.keys)
explain_carried m bytes x h s e = record { said = x; explains = h; told = ap with_reason e }
  where
    with_reason : ReasonNumbers → ExplainedNumbers
    with_reason y = record { number = x.answer.number; looks = x.looks; reason = y }
