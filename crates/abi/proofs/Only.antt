-- No second answer meets the promise of an exported function of the pool (those of the record part: Only.antt of `record_abi`): the number that it answers, every number that it sets and every byte that it
-- leaves are fixed. Each comes from the law of the function below it, field by field.
-- Assumes nothing.
use Prim.Native.Nat.{ℕ}
use mathlib.Core.Path.{◌≡◌, sym, ap, ◌∙◌}
use mathlib.Core.Bool.{Bool}
use mathlib.Core.List.{List}
use Rattle.words.specs.Word.{Bytes}
use Rattle.record.specs.declared.answer.Answer.{Answer}
use Rattle.record_abi.specs.Numbers.{answer}
use Rattle.pool.specs.Image.{Fit}
use Rattle.fit.proofs.Decided.{fit_or_not}
use Rattle.create.specs.Fresh.{Created}
use Rattle.create.proofs.Only as Create
use Rattle.refresh.specs.Refreshed.{RefreshIs}
use Rattle.refresh.proofs.Only.{refresh_only}
use Rattle.meld.specs.declared.melding.Melded.{Melded}
use Rattle.meld.specs.Melds.{Melds}
use Rattle.meld.proofs.Only as Meld
use Rattle.pages.proofs.Only as Pages
use Rattle.reason.proofs.Only as Reason
use Rattle.abi.specs.declared.numbers.StatusNumbers.{StatusNumbers}
use Rattle.abi.specs.declared.numbers.LookupNumbers.{LookupNumbers}
use Rattle.abi.specs.Numbers.{melded, looked_up, status_from, of_status, FedNumbers, fed_numbers, of_fed, fed_from, ExplainedNumbers, explained_numbers, of_explained}
use Rattle.abi.specs.Told.{StatusInNumbers, LooksUpAs, InForceAs, FeedsInNumbers, ExplainsInNumbers}

-- `emuparasol_create`: one number, and one content of the pool
pub only_create : (m : List ℕ) (n z r q : ℕ) (m' m'' : List ℕ) → Created m n z (answer r) m' → Created m n z (answer q) m'' → (r ≡ q) × (m' ≡ m'')
only_create m n z r q m' m'' a b = let x = Create.only m n z (answer r) (answer q) m' m'' a b in (ap (λ (y : Answer). y.number) x.0, x.1)

-- `emuparasol_status`: one number and five others, for any bytes lent as pool
pub only_status : (m : List ℕ) (n N Z p kept tombstones n' N' Z' p' kept' tombstones' : ℕ) → Bytes m
    → StatusInNumbers m (status_from n N Z p kept tombstones) → StatusInNumbers m (status_from n' N' Z' p' kept' tombstones')
    → (n ≡ n') × (N ≡ N') × (Z ≡ Z') × (p ≡ p') × (kept ≡ kept') × (tombstones ≡ tombstones')
only_status m n N Z p kept tombstones n' N' Z' p' kept' tombstones' lent a b =
    let e : status_from n N Z p kept tombstones ≡ status_from n' N' Z' p' kept' tombstones' =
    a.told ∙ ap of_status (Meld.only_status m a.said b.said lent a.status b.status) ∙ sym b.told in (
      ap (λ (s : StatusNumbers). s.number) e,
      ap (λ (s : StatusNumbers). s.limit) e,
      ap (λ (s : StatusNumbers). s.zone) e,
      ap (λ (s : StatusNumbers). s.position) e,
      ap (λ (s : StatusNumbers). s.kept) e,
      ap (λ (s : StatusNumbers). s.tombstones) e,
    )

-- `emuparasol_lookup`: one number, payload and position, for any bytes lent as pool
pub only_lookup : (m : List ℕ) (k n x w n' x' w' : ℕ) → Bytes m → LooksUpAs m k (looked_up n x w) → LooksUpAs m k (looked_up n' x' w')
    → (n ≡ n') × (x ≡ x') × (w ≡ w')
only_lookup m k n x w n' x' w' lent a b =
    (ap (λ (t : LookupNumbers). t.number) same, ap (λ (t : LookupNumbers). t.payload) same, ap (λ (t : LookupNumbers). t.position) same)
  where
    by_fitness : Dec (Fit m) → looked_up n x w ≡ looked_up n' x' w'
    by_fitness (yes f) = a.fit f.arrangement f.image ∙ sym (b.fit f.arrangement f.image)
    by_fitness (no u) = a.unfit u ∙ sym (b.unfit u)

    same : looked_up n x w ≡ looked_up n' x' w'
    same = by_fitness (fit_or_not m lent)

-- `emuparasol_meld`: one number, one count of looks, and one content of the pool
pub only_meld : (m bytes m' m'' : List ℕ) (r looks q looks' : ℕ) → Bytes m → Melds m bytes m' (melded r looks) → Melds m bytes m'' (melded q looks')
    → (r ≡ q) × (looks ≡ looks') × (m' ≡ m'')
only_meld m bytes m' m'' r looks q looks' lent a b =
    let x = Meld.only_meld m bytes m' m'' (melded r looks) (melded q looks') lent a b in
    (ap (λ (y : Melded). y.answer.number) x.0, ap (λ (y : Melded). y.looks) x.0, x.1)

-- `emuparasol_feed`: five numbers, one content of the pool and one of the carry, for any bytes lent as pool
pub only_feed : (m carry : List ℕ) (carried : ℕ) (part : List ℕ) (over : Bool) (happened n looks taken left happened' n' looks' taken' left' : ℕ)
    (m' carry' m'' carry'' : List ℕ) → Bytes m
    → FeedsInNumbers m carry carried part over (fed_numbers happened n looks taken left) m' carry'
    → FeedsInNumbers m carry carried part over (fed_numbers happened' n' looks' taken' left') m'' carry''
    → (happened ≡ happened') × (n ≡ n') × (looks ≡ looks') × (taken ≡ taken') × (left ≡ left') × (m' ≡ m'') × (carry' ≡ carry'')
only_feed m carry carried part over happened n looks taken left happened' n' looks' taken' left' m' carry' m'' carry'' lent a b = (
  ap (λ (x : FedNumbers). x.said.happened) same,
  ap (λ (x : FedNumbers). x.said.number) same,
  ap (λ (x : FedNumbers). x.looks) same,
  ap (λ (x : FedNumbers). x.taken) same,
  ap (λ (x : FedNumbers). x.carried) same,
  one.1,
  one.2,
)
  where
    t : FedNumbers
    t = fed_numbers happened n looks taken left

    u : FedNumbers
    u = fed_numbers happened' n' looks' taken' left'

    one : (fed_from t ≡ fed_from u) × (m' ≡ m'') × (carry' ≡ carry'')
    one = Pages.only_feed lent a.feeds b.feeds

    same : t ≡ u
    same = a.told ∙ ap of_fed one.0 ∙ sym b.told

-- `emuparasol_explain`: eight numbers, for any bytes lent as pool and as record
pub only_explain : (m bytes : List ℕ) (n looks key position point scan lag keys n' looks' key' position' point' scan' lag' keys' : ℕ) → Bytes m → Bytes bytes
    → ExplainsInNumbers m bytes (explained_numbers n looks key position point scan lag keys)
    → ExplainsInNumbers m bytes (explained_numbers n' looks' key' position' point' scan' lag' keys')
    → (n ≡ n') × (looks ≡ looks') × (key ≡ key') × (position ≡ position') × (point ≡ point') × (scan ≡ scan') × (lag ≡ lag') × (keys ≡ keys')
only_explain m bytes n looks key position point scan lag keys n' looks' key' position' point' scan' lag' keys' lent named a b = (
  ap (λ (x : ExplainedNumbers). x.number) same,
  ap (λ (x : ExplainedNumbers). x.looks) same,
  ap (λ (x : ExplainedNumbers). x.reason.key) same,
  ap (λ (x : ExplainedNumbers). x.reason.position) same,
  ap (λ (x : ExplainedNumbers). x.reason.point) same,
  ap (λ (x : ExplainedNumbers). x.reason.scan) same,
  ap (λ (x : ExplainedNumbers). x.reason.lag) same,
  ap (λ (x : ExplainedNumbers). x.reason.keys) same,
)
  where
    same : explained_numbers n looks key position point scan lag keys ≡ explained_numbers n' looks' key' position' point' scan' lag' keys'
    same = a.told ∙ ap of_explained (Reason.only_explain m bytes a.said b.said lent named a.explains b.explains) ∙ sym b.told

-- `emuparasol_refresh`: one number, and one content of the output
pub only_refresh : (m original before : List ℕ) (r q : ℕ) (x y : List ℕ)
    → RefreshIs m original before (answer r) x → RefreshIs m original before (answer q) y → (r ≡ q) × (x ≡ y)
only_refresh m original before r q x y a b =
    let z = refresh_only m original before (answer r) (answer q) x y a b in
    (ap (λ (c : Answer). c.number) z.0, z.1)

-- `emuparasol_in_force`: one slice, one offset and one length
pub only_in_force : (n : ℕ) (o b : List ℕ) (r q : Bool) (offset size offset' size' : ℕ)
    → InForceAs n o b r offset size → InForceAs n o b q offset' size'
    → (r ≡ q) × (offset ≡ offset') × (size ≡ size')
only_in_force n o b r q offset size offset' size' h k = (h.slice ∙ sym k.slice, h.start ∙ sym k.start, h.bytes ∙ sym k.bytes)
