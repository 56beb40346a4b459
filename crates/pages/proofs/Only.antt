-- The promise of `feed` leaves no second answer, no second byte of the pool and none of the carry: the row is one, and meld's answer is one.
-- Assumes nothing.
use Prim.Native.Nat.{ℕ}
use mathlib.Core.Path.{◌≡◌, sym, ap, ◌∙◌}
use mathlib.Core.Bool.{Bool}
use mathlib.Core.List.{List}
use Rattle.words.specs.Word.{Bytes}
use Rattle.meld.specs.declared.melding.Melded.{Melded}
use Rattle.meld.proofs.Only.{only_meld}
use Rattle.pages.specs.declared.told.Fed.{Fed}
use Rattle.pages.specs.Pages.{record_in, feed_row, fed_by, carry_by}
use Rattle.pages.specs.Pages.{FeedRow, wrong_carry, stuck, cannot_go_on, record_whole, goes_on, at_end, torn, Leaves, RecordDecided, FeedsAs, Feeds}

module _ {r q : Fed} {m' carry' m'' carry'' : List ℕ} where
  -- where no record is decided
  same_left : {x : Fed} {k c : List ℕ} → Leaves x k c r m' carry' → Leaves x k c q m'' carry'' → (r ≡ q) × (m' ≡ m'') × (carry' ≡ carry'')
  same_left a b = (a.said ∙ sym b.said, a.pool ∙ sym b.pool, a.carry_is ∙ sym b.carry_is)

  -- where one is
  same_decided : {m carry : List ℕ} {carried : ℕ} {bytes : List ℕ} → Bytes m → RecordDecided m carry carried bytes r m' carry' → RecordDecided m carry carried bytes q m'' carry''
      → (r ≡ q) × (m' ≡ m'') × (carry' ≡ carry'')
  same_decided {m} {carry} {carried} {bytes} lent a b =
      let (x, y) = only_meld m (record_in bytes) m' m'' a.melded b.melded lent a.melds b.melds in (
        a.said ∙ ap (λ (z : Melded). fed_by z carried bytes) x ∙ sym b.said,
        y,
        a.carry_is ∙ ap (λ (z : Melded). carry_by z carry carried bytes) x ∙ sym b.carry_is,
      )

-- for any bytes as pool, and any carry and part
pub only_feed : {m carry : List ℕ} {carried : ℕ} {part : List ℕ} {over : Bool} {r q : Fed} {m' carry' m'' carry'' : List ℕ} → Bytes m
    → Feeds m carry carried part over r m' carry' → Feeds m carry carried part over q m'' carry'' → (r ≡ q) × (m' ≡ m'') × (carry' ≡ carry'')
only_feed {m} {carry} {carried} {part} {over} {r} {q} {m'} {carry'} {m''} {carry''} lent f g = go (feed_row carry carried part over) f.as_said g.as_said
  where
    go : (row : FeedRow) → FeedsAs row m carry carried part r m' carry' → FeedsAs row m carry carried part q m'' carry'' → (r ≡ q) × (m' ≡ m'') × (carry' ≡ carry'')
    go wrong_carry a b = same_left a b
    go stuck a b = same_left a b
    go cannot_go_on a b = same_left a b
    go record_whole a b = same_decided lent a b
    go goes_on a b = same_left a b
    go at_end a b = same_left a b
    go torn a b = same_left a b
