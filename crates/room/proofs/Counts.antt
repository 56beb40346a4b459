-- Row 3 counted key by key: each key that is put is absent, or kept and old, or kept and not old; one that a delete writes is kept and live.
-- Assumes nothing.
use Prim.Native.Nat.{ℕ, suc, ◌+◌, ◌-◌, ◌^◌, ◌≤◌, ◌<◌}
use mathlib.Core.Path.{◌≡◌, refl, sym, ap, ◌∙◌}
use mathlib.Core.Logic.{⊎_elim}
use mathlib.Core.Bool.{Bool, true, false, not, ◌&&◌}
use mathlib.Core.List.Memᴰ.{head as here}
use mathlib.Core.List.Memᴰ.{tail as there}
use mathlib.Core.List.{List, [], ◌∷◌, Memᴰ as Mem}
use mathlib.Core.Option.{Option, none, some}
use native.Mathlib.Omega.{arith}
use lib.ListN.{length}
use lib.Dec.{ltb, leb, eqb, eqb→eq, T_not}
use borrow.Author.Tests.{eq-eqb, ne_eqb, lt-leb, ltb-true, ltb-false, eqb-true}
use Rattle.record.specs.declared.point.Point.{Point}
use Rattle.record.specs.declared.point.Point.TheVariants.{Read, Put, Delete}
use Rattle.record.specs.Record.{PointsRise}
use Rattle.std.specs.Prelude.{if◌then◌else◌}
use Rattle.rules.specs.Lists.{keep}
use Rattle.rules.specs.State.{Entry, State, Lawful, Rising, end, link, is_live}
use Rattle.rules.specs.Footprint.{stored_at, live_at, writes, writes_of}
use Rattle.rules.specs.Lookup.{find}
use Rattle.rules.specs.Verdict.{store, store_all, young, whole, count}
use Rattle.rules.proofs.Tests.{le_or_lt, test, yes_eq}
use Rattle.rules.proofs.Sorted.{store_rising, keep_rising}
use Rattle.rules.proofs.Finding.{find_none, find_store}
use Rattle.rules.proofs.Written.{written_sized}
use Rattle.rules.proofs.Counted.{count_stored}
use Rattle.drop.specs.Old.{old, stays}
use Rattle.drop.proofs.Olds.{young_stays, young_early}
use Rattle.find.specs.declared.Found.{Found}
use Rattle.find.specs.Found.{found_at, found_of, found_in}
use Rattle.room.specs.Tally.{one_if_absent, one_if_revived, settled_in}

-- such ones among the keys that points put
unfoldable pub tally : (Found → ℕ) → List Point → List Entry → ℕ
tally f [] es = 0
tally f (Read k ∷ ps) es = tally f ps es
tally f (Put k x ∷ ps) es = f (found_in k es) + tally f ps es
tally f (Delete k ∷ ps) es = tally f ps es

-- settling takes no kind away
pub length_settled : (kinds ks : List ℕ) (es : List Entry) → length kinds ≡ length ks → length (settled_in kinds ks es) ≡ length kinds
unfolding settled_in
length_settled [] ks es h = refl
length_settled (kind ∷ kinds) [] es h = absurd (omega (arith, h))
length_settled (kind ∷ kinds) (k ∷ ks) es h = ap suc (length_settled kinds ks es (omega (arith, h)))

-- ONE STORE

found_store : (k : ℕ) (e : Entry) (es : List Entry) → (e.key ≡ k → ⊥) → found_in k (store e es) ≡ found_in k es
unfolding found_in
found_store k e es d =
    let h : find k (store e es) ≡ find k es = find_store k e es ∙ ap (λ (b : Bool). if b then some e else find k es) (ne_eqb e.key k d) in
    ap found_of h

-- a store adds an entry exactly where the key was absent
length_store : (e : Entry) {hi lo : ℕ} {es : List Entry} → Rising hi lo es → length (store e es) ≡ length es + one_if_absent (found_in e.key es)
unfolding store found_in
length_store e (end l) = refl
length_store e {hi} {lo} (link {e = x} {es = es} l r) = go (ltb e.key x.key) (ltb x.key e.key) refl refl (length_store e r)
  where
    kept : (w : ℕ) (o : Option ℕ) → suc (length es) ≡ suc (length es) + one_if_absent (found_at w o)
    kept w none = omega arith
    kept w (some y) = omega arith

    go : (a b : Bool) → ltb e.key x.key ≡ a → ltb x.key e.key ≡ b → length (store e es) ≡ length es + one_if_absent (found_of (find e.key es))
        → length (if a then e ∷ x ∷ es else (if b then x ∷ store e es else e ∷ es)) ≡ suc (length es) + one_if_absent (found_of (find e.key (x ∷ es)))
    go true b p q h =
        let d : x.key ≡ e.key → ⊥ = λ z. omega (arith, ltb-true e.key x.key p) in
        let n : find e.key es ≡ none = find_none e.key {lo = x.key + 1} (omega (arith, ltb-true e.key x.key p)) r in
        rw (ne_eqb x.key e.key d, n) (omega arith)
    go false true p q h =
        let d : x.key ≡ e.key → ⊥ = λ z. omega (arith, ltb-true x.key e.key q) in
        rw (ne_eqb x.key e.key d) (omega (arith, h))
    go false false p q h =
        let d : x.key ≡ e.key = omega (arith, ltb-false e.key x.key p, ltb-false x.key e.key q) in
        rw (eq-eqb x.key e.key d) (kept x.position x.payload)

-- the points after a key say the same of what is kept once that key is stored
tally_store : (f : Found → ℕ) (ps : List Point) (low : ℕ) (e : Entry) (es : List Entry) → PointsRise low ps → e.key < low → tally f ps (store e es) ≡ tally f ps es
unfolding tally
tally_store f [] low e es r h = refl
tally_store f (Read k ∷ ps) low e es r h = tally_store f ps (k + 1) e es r.3 (omega (arith, r.0))
tally_store f (Put k x ∷ ps) low e es r h = rw (found_store k e es (λ q. omega (arith, r.0)), tally_store f ps (k + 1) e es r.3 (omega (arith, r.0)))
tally_store f (Delete k ∷ ps) low e es r h = tally_store f ps (k + 1) e es r.3 (omega (arith, r.0))

-- WHAT A DELETE WRITES IS KEPT

-- these entries hold every key that is live in the state
abbrev HoldsLive : State → List Entry → Type 0
HoldsLive S es = (k : ℕ) → live_at (find k S.kept) ≡ true → one_if_absent (found_in k es) ≡ 0

-- what is kept is not absent
not_absent : (w : ℕ) (o : Option ℕ) → one_if_absent (found_at w o) ≡ 0
not_absent w none = refl
not_absent w (some x) = refl

-- the state's own do
holds_kept : (S : State) → HoldsLive S S.kept
unfolding found_in
holds_kept S k = go (find k S.kept)
  where
    go : (o : Option Entry) → live_at o ≡ true → one_if_absent (found_of o) ≡ 0
    go none h = cc
    go (some e) h = not_absent e.position e.payload

-- and still do when something is stored
holds_store : (S : State) (e : Entry) (es : List Entry) → HoldsLive S es → HoldsLive S (store e es)
unfolding found_in
holds_store S e es h k l = ⊎_elim
    (λ t. own (eqb→eq e.key k t)) (λ t. ap one_if_absent (found_store k e es (λ d. T_not (eqb e.key k) t (yes_eq d))) ∙ h k l) (test (eqb e.key k))
  where
    own : e.key ≡ k → one_if_absent (found_in k (store e es)) ≡ 0
    own d =
        let f : find k (store e es) ≡ some e = find_store k e es ∙ ap (λ (b : Bool). if b then some e else find k es) (eq-eqb e.key k d) in
        ap (λ (o : Option Entry). one_if_absent (found_of o)) f ∙ not_absent e.position e.payload

-- ALL OF THEM

-- the keys kept after the writes: those before, and the ones put that were absent
pub length_store_all : (S : State) (low : ℕ) (ps : List Point) {es : List Entry} → PointsRise low ps → Rising (2 ^ 32) 0 es → HoldsLive S es
    → length (store_all (writes_of S ps) es) ≡ length es + tally one_if_absent ps es
unfolding store_all tally writes_of
length_store_all S low [] {es} r s h = omega arith
length_store_all S low (Read k ∷ ps) {es} r s h = length_store_all S (k + 1) ps r.3 s h
length_store_all S low (Put k x ∷ ps) {es} r s h =
    let e : Entry = record { key = k; position = S.p + 1; payload = some x } in
    length_store_all S (k + 1) ps r.3 (store_rising e s (omega arith) r.1) (holds_store S e es h) ∙ omega (arith, length_store e s, tally_store one_if_absent ps (k + 1) e es r.3 (omega arith))
length_store_all S low (Delete k ∷ ps) {es} r s h =
    go (live_at (find k S.kept)) refl (length_store_all S (k + 1) ps r.3 (store_rising gone s (omega arith) r.1) (holds_store S gone es h)) (length_store_all S (k + 1) ps r.3 s h)
  where
    gone : Entry
    gone = record { key = k; position = S.p + 1; payload = none }

    go : (b : Bool) → live_at (find k S.kept) ≡ b
        → length (store_all (stored_at (S.p + 1) (keep (writes S) ps)) (store gone es)) ≡ length (store gone es) + tally one_if_absent ps (store gone es)
        → length (store_all (stored_at (S.p + 1) (keep (writes S) ps)) es) ≡ length es + tally one_if_absent ps es
        → length (store_all (stored_at (S.p + 1) (if b then Delete k ∷ keep (writes S) ps else keep (writes S) ps)) es) ≡ length es + tally one_if_absent ps es
    go true q y n = y ∙ omega (arith, length_store gone s, h k q, tally_store one_if_absent ps (k + 1) gone es r.3 (omega arith))
    go false q y n = n

-- WITHOUT THE OLD TOMBSTONES

-- an entry is old or stays
pub length_stays : (limit : ℕ) (es : List Entry) → length (keep (stays limit) es) + length (keep (old limit) es) ≡ length es
length_stays limit [] = refl
length_stays limit (e ∷ es) = go (old limit e) (length_stays limit es)
  where
    go : (b : Bool) → length (keep (stays limit) es) + length (keep (old limit) es) ≡ length es
        → length (if not b then e ∷ keep (stays limit) es else keep (stays limit) es) + length (if b then e ∷ keep (old limit) es else keep (old limit) es) ≡ suc (length es)
    go true h = omega arith
    go false h = omega arith

-- a key is absent among those that stay exactly if it was absent or old
found_stays : (limit k : ℕ) {hi lo : ℕ} {es : List Entry} → Rising hi lo es → one_if_absent (found_in k (keep (stays limit) es)) ≡ one_if_absent (found_in k es) + one_if_revived limit (found_in k es)
unfolding found_in old
found_stays limit k (end l) = refl
found_stays limit k (link {e = x} {es = es} l r) = go (eqb x.key k) (old limit x) refl refl (found_stays limit k r)
  where
    same : (w : ℕ) (o : Option ℕ) → (not (is_live o) && leb w limit) ≡ false → one_if_absent (found_at w o) ≡ one_if_absent (found_at w o) + one_if_revived limit (found_at w o)
    same w none h = rw h (omega arith)
    same w (some y) h = refl

    gone : (w : ℕ) (o : Option ℕ) → (not (is_live o) && leb w limit) ≡ true → 1 ≡ one_if_absent (found_at w o) + one_if_revived limit (found_at w o)
    gone w none h = rw h (omega arith)
    gone w (some y) h = cc

    go : (a b : Bool) → eqb x.key k ≡ a → old limit x ≡ b
        → one_if_absent (found_of (find k (keep (stays limit) es))) ≡ one_if_absent (found_of (find k es)) + one_if_revived limit (found_of (find k es))
        → one_if_absent (found_of (find k (if not b then x ∷ keep (stays limit) es else keep (stays limit) es))) ≡ one_if_absent (found_of (find k (x ∷ es))) + one_if_revived limit (found_of (find k (x ∷ es)))
    go true true p q h =
        let n : find k (keep (stays limit) es) ≡ none = find_none k {lo = x.key + 1} (omega (arith, eqb-true x.key k p)) (keep_rising (stays limit) r) in
        rw (p, n) (gone x.position x.payload q)
    go true false p q h = rw p (same x.position x.payload q)
    go false true p q h = rw p h
    go false false p q h = rw p h

-- a live key stays
holds_stays : (limit : ℕ) (S : State) → Rising (2 ^ 32) 0 S.kept → HoldsLive S (keep (stays limit) S.kept)
unfolding found_in
holds_stays limit S r k l = found_stays limit k r ∙ go (find k S.kept) l
  where
    lives : (w : ℕ) (o : Option ℕ) → is_live o ≡ true → one_if_absent (found_at w o) + one_if_revived limit (found_at w o) ≡ 0
    lives w none h = cc
    lives w (some x) h = refl

    go : (o : Option Entry) → live_at o ≡ true → one_if_absent (found_of o) + one_if_revived limit (found_of o) ≡ 0
    go none h = cc
    go (some e) h = lives e.position e.payload h

tally_stays : (limit low : ℕ) (ps : List Point) {hi lo : ℕ} {es : List Entry} → Rising hi lo es
    → tally one_if_absent ps (keep (stays limit) es) ≡ tally one_if_absent ps es + tally (one_if_revived limit) ps es
unfolding tally
tally_stays limit low [] r = refl
tally_stays limit low (Read k ∷ ps) r = tally_stays limit low ps r
tally_stays limit low (Put k x ∷ ps) r = omega (arith, found_stays limit k r, tally_stays limit low ps r)
tally_stays limit low (Delete k ∷ ps) r = tally_stays limit low ps r

keep_same : {f g : Entry → Bool} (es : List Entry) → ((e : Entry) → Mem e es → f e ≡ g e) → keep f es ≡ keep g es
keep_same [] h = refl
keep_same {f} {g} (e ∷ es) h = rw (h e (here refl), keep_same {f = f} {g = g} es (λ x m. h x (there m)))

-- ROW 3'S COUNT

-- where no tombstone can be old yet, every entry stays
stays_early : (limit : ℕ) (e : Entry) → limit ≡ 0 → 1 ≤ e.position → stays limit e ≡ true
unfolding old
stays_early limit e z h = rw z (never e.position e.payload h)
  where
    never : (w : ℕ) (o : Option ℕ) → 1 ≤ w → not (not (is_live o) && leb w 0) ≡ true
    never w none h = rw (lt-leb w 0 h)
    never w (some x) h = refl

-- the rules' young entries are those that stay
young_kept : {S : State} → Lawful S → keep (young S.Z (S.p + 1)) S.kept ≡ keep (stays (S.p + 1 - S.Z)) S.kept
young_kept {S} l = keep_same {f = young S.Z (S.p + 1)} {g = stays (S.p + 1 - S.Z)} S.kept same_test
  where
    same_test : (e : Entry) → Mem e S.kept → young S.Z (S.p + 1) e ≡ stays (S.p + 1 - S.Z) e
    same_test e m = ⊎_elim
        (λ h. young_stays S.Z (S.p + 1) e h)
        (λ h. young_early S.Z (S.p + 1) e h ∙ sym (stays_early (S.p + 1 - S.Z) e (omega arith) (l.positions e m).0))
        (le_or_lt S.Z (S.p + 1))

module _ {S : State} (l : Lawful S) (ps : List Point) (r : PointsRise 0 ps) where
  pub whole_is : length (whole S ps) ≡ length S.kept + tally one_if_absent ps S.kept
  whole_is = length_store_all S 0 ps r l.rising (holds_kept S)

  pub count_is : count S ps + length (keep (old (S.p + 1 - S.Z)) S.kept) ≡ length S.kept + tally one_if_absent ps S.kept + tally (one_if_revived (S.p + 1 - S.Z)) ps S.kept
  count_is =
      let a : count S ps ≡ length (keep (stays (S.p + 1 - S.Z)) S.kept) + tally one_if_absent ps (keep (stays (S.p + 1 - S.Z)) S.kept) =
      count_stored S ps l.rising (written_sized S 0 ps r) ∙ ap (λ (es : List Entry). length (store_all (writes_of S ps) es)) (young_kept l) ∙ length_store_all S 0 ps r (keep_rising (stays (S.p + 1 - S.Z)) l.rising) (holds_stays (S.p + 1 - S.Z) S l.rising) in
      omega (arith, a, tally_stays (S.p + 1 - S.Z) 0 ps l.rising, length_stays (S.p + 1 - S.Z) S.kept)
