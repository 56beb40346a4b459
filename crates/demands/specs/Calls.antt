-- The calls that a pool may be lent to, one after the other (R20).
-- Assumes nothing: these are definitions.
use Rattle.std.specs.Prelude.{ℕ, Bool, List, Result}
use Rattle.words.specs.Word.{Bytes}
use Rattle.record.specs.declared.answer.Answer.{Answer}
use Rattle.pool.specs.Image.{Fit}
use Rattle.fit.specs.Whole.{Decides}
use Rattle.create.specs.Fresh.{Created}
use Rattle.meld.specs.declared.kept.Lookup.{Lookup}
use Rattle.meld.specs.declared.kept.Status.{Status}
use Rattle.meld.specs.declared.melding.Melded.{Melded}
use Rattle.meld.specs.Lookups.{LooksUp}
use Rattle.meld.specs.Statuses.{StatusIs}
use Rattle.meld.specs.Melds.{Melds}
use Rattle.refresh.specs.Refreshed.{RefreshIs}
use Rattle.pages.specs.declared.told.Fed.{Fed}
use Rattle.pages.specs.Pages.{Feeds}
use Rattle.reason.specs.declared.told.Explained.{Explained}
use Rattle.reason.specs.Reason.{Explains}

-- R20: one call that bytes are lent to as a pool, with anything else lent beside them: the bytes before and after it. It answers whatever
-- its promise allows. `fit`, `status`, `lookup`, `refresh` and `explain` are lent the pool by `&`, so it stays as it is.
pub data Call : List ℕ → List ℕ → Type 0 where
  create : {m m' : List ℕ} (n z : ℕ) (a : Answer) → Created m n z a m' → Call m m'
  fit : {m : List ℕ} (r : Bool) → Decides (Fit m) r → Call m m
  status : {m : List ℕ} (x : Result Status Answer) → StatusIs m x → Call m m
  lookup : {m : List ℕ} (k : ℕ) (x : Lookup) → LooksUp m k x → Call m m
  meld : {m m' : List ℕ} (bytes : List ℕ) (x : Melded) → Bytes bytes → Melds m bytes m' x → Call m m'
  feed : {m m' : List ℕ} (carry : List ℕ) (carried : ℕ) (part : List ℕ) (over : Bool) (r : Fed) (carry' : List ℕ) → Bytes carry → Bytes part
      → Feeds m carry carried part over r m' carry' → Call m m'
  refresh : {m : List ℕ} (original before after : List ℕ) (a : Answer) → Bytes original → Bytes before → RefreshIs m original before a after → Call m m
  explain : {m : List ℕ} (bytes : List ℕ) (x : Explained) → Bytes bytes → Explains m bytes x → Call m m

-- R20: zero or more calls, one after the other
pub data Calls : List ℕ → List ℕ → Type 0 where
  none_more : {m : List ℕ} → Calls m m
  one_more : {m m' m'' : List ℕ} → Call m m' → Calls m' m'' → Calls m m''
