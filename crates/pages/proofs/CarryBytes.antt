-- A carry of bytes stays one: what a call puts at its front was carried or is the part's.
-- Assumes nothing.
use Prim.Native.Nat.{ℕ}
use mathlib.Core.Path.{sym, subst}
use mathlib.Core.Bool.{Bool}
use mathlib.Core.List.{List}
use lib.Dec.{eqb}
use lib.ListN.{length, take, drop}
use Rattle.words.specs.Word.{Bytes}
use Rattle.words.specs.Laws.{bytes_take, bytes_drop, bytes_append}
use Rattle.std.specs.Prelude.{if◌then◌else◌}
use Rattle.record.specs.Reader.{front}
use Rattle.record.proofs.Cases.{by_case}
use Rattle.record_log.specs.Log.{past_at}
use Rattle.pages.specs.declared.told.Fed.{Fed}
use Rattle.pages.specs.Pages.{bytes_in, record_in, feed_row, is_unfit}
use Rattle.pages.specs.Pages.{FeedRow, wrong_carry, stuck, cannot_go_on, record_whole, goes_on, at_end, torn, FeedsAs, Feeds}
use Rattle.pages.proofs.Decided.{unfit_said, verdict_carry}

-- what is in
pub in_bytes : (carry : List ℕ) (carried : ℕ) (part : List ℕ) → Bytes carry → Bytes part → Bytes (bytes_in carry carried part)
in_bytes carry carried part b d = bytes_append (take carried carry) part (bytes_take carried carry b) d

-- the record among them
pub record_bytes : (bytes : List ℕ) → Bytes bytes → Bytes (record_in bytes)
record_bytes bytes b = bytes_take (past_at bytes 0) bytes b

-- bytes at the front of bytes
front_bytes : (vs l : List ℕ) → Bytes vs → Bytes l → Bytes (front vs l)
front_bytes vs l b d = bytes_append vs (drop (length vs) l) b (bytes_drop (length vs) l d)

pub carry_bytes : {m carry : List ℕ} {carried : ℕ} {part : List ℕ} {over : Bool} {r : Fed} {m' carry' : List ℕ} → Bytes carry → Bytes part
    → Feeds m carry carried part over r m' carry' → Bytes carry'
carry_bytes {m} {carry} {carried} {part} {over} {r} {m'} {carry'} b d f = go (feed_row carry carried part over) f.as_said
  where
    bytes : List ℕ
    bytes = bytes_in carry carried part

    are : Bytes bytes
    are = in_bytes carry carried part b d

    past : Bytes (if eqb carried 0 then carry else front (record_in bytes) carry)
    past = by_case (eqb carried 0) (λ t. simp t b) λ n. simp n (front_bytes (record_in bytes) carry (record_bytes bytes are) b)

    go : (row : FeedRow) → FeedsAs row m carry carried part r m' carry' → Bytes carry'
    go wrong_carry l = subst Bytes (sym l.carry_is) b
    go stuck l = subst Bytes (sym l.carry_is) b
    go cannot_go_on l = subst Bytes (sym l.carry_is) (front_bytes (take 2 bytes) carry (bytes_take 2 bytes are) b)
    go record_whole x = by_case (is_unfit x.melded) (λ u. subst Bytes (sym (unfit_said x u).2) b) λ u. subst Bytes (sym (verdict_carry x u)) past
    go goes_on l = subst Bytes (sym l.carry_is) (front_bytes bytes carry are b)
    go at_end l = subst Bytes (sym l.carry_is) b
    go torn l = subst Bytes (sym l.carry_is) b
