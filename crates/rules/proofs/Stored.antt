-- What is in a list of entries once others are stored in it, and what a commit leaves.
-- Assumes nothing.
use Prim.Native.Nat.{ℕ, ◌+◌, ◌≤◌, ◌<◌}
use native.Mathlib.Omega.{arith}
use mathlib.Core.Path.{◌≡◌, refl, sym, ap, ◌∙◌}
use mathlib.Core.Logic.{◌⊎◌, inl, inr}
use mathlib.Core.List.Memᴰ.{head as here}
use mathlib.Core.List.Memᴰ.{tail as there}
use mathlib.Core.List.{List, [], ◌∷◌, Memᴰ as Mem}
use lib.Dec.{T, ltb, nltb→le, lt→ltb}
use Rattle.record.specs.declared.point.Point.{Point}
use Rattle.rules.specs.Lists.{keep}
use Rattle.rules.specs.State.{Entry, State}
use Rattle.rules.specs.Footprint.{writes_of}
use Rattle.rules.specs.Verdict.{store, store_all, young, drops, apply}
use Rattle.rules.proofs.Written.{writes_at}
use Rattle.rules.proofs.Tests.{if_ind, or_right, keep_mem, mem_keep}

-- WHAT IS STORED

-- the entries hold one of key k at position w or later
abbrev pub Covered : List Entry → ℕ → ℕ → Type 0
Covered es k w = (e : Entry) × Mem e es × (e.key ≡ k) × (w ≤ e.position)

-- what is there was stored or was there before
pub store_mem : (e : Entry) (es : List Entry) {x : Entry} → Mem x (store e es) → (x ≡ e) ⊎ Mem x es
unfolding store
store_mem e [] {x} = elim [ here p ↦ inl p | there n ↦ inr n ]
store_mem e (y ∷ ys) {x} =
    if_ind (λ l. Mem x l → (x ≡ e) ⊎ Mem x (y ∷ ys)) (ltb e.key y.key) (λ _. elim [ here p ↦ inl p | there n ↦ inr n ])
    (λ _. if_ind (λ l. Mem x l → (x ≡ e) ⊎ Mem x (y ∷ ys)) (ltb y.key e.key)
    (λ _. elim [ here p ↦ inr (here p) | there n ↦ onward (store_mem e ys n) ])
    (λ _. elim [ here p ↦ inl p | there n ↦ inr (there n) ]))
  where
    onward : (x ≡ e) ⊎ Mem x ys → (x ≡ e) ⊎ Mem x (y ∷ ys)
    onward (inl p) = inl p
    onward (inr n) = inr (there n)

-- what is stored is there
pub store_self : (e : Entry) (es : List Entry) → Mem e (store e es)
unfolding store
store_self e [] = here refl
store_self e (y ∷ ys) =
    if_ind (λ l. Mem e l) (ltb e.key y.key) (λ _. here refl)
    (λ _. if_ind (λ l. Mem e l) (ltb y.key e.key) (λ _. there (store_self e ys)) (λ _. here refl))

-- what a store takes away is the entry of the stored key
pub store_other : (e : Entry) (es : List Entry) {x : Entry} → Mem x es → Mem x (store e es) ⊎ (e.key ≡ x.key)
unfolding store
store_other e [] {x = x} x3 = elim x3 [ ]
store_other e (y ∷ ys) {x} (here p) =
    if_ind (λ l. Mem x l ⊎ (e.key ≡ x.key)) (ltb e.key y.key) (λ _. inl (there (here p)))
    (λ a. if_ind (λ l. Mem x l ⊎ (e.key ≡ x.key)) (ltb y.key e.key)
    (λ _. inl (here p)) (λ b. inr (omega (arith, nltb→le, ap (λ (z : Entry). z.key) p))))
store_other e (y ∷ ys) {x} (there n) =
    if_ind (λ l. Mem x l ⊎ (e.key ≡ x.key)) (ltb e.key y.key) (λ _. inl (there (there n)))
    (λ a. if_ind (λ l. Mem x l ⊎ (e.key ≡ x.key)) (ltb y.key e.key)
    (λ _. onward (store_other e ys n)) (λ b. inl (there n)))
  where
    onward : Mem x (store e ys) ⊎ (e.key ≡ x.key) → Mem x (y ∷ store e ys) ⊎ (e.key ≡ x.key)
    onward (inl m) = inl (there m)
    onward (inr q) = inr q

-- a store as new or newer covers what was covered
pub store_covers : (e : Entry) (es : List Entry) {k w : ℕ} → w ≤ e.position → Covered es k w → Covered (store e es) k w
store_covers e es {k} {w} h c = go (store_other e es c.1)
  where
    go : Mem c.0 (store e es) ⊎ (e.key ≡ c.0.key) → Covered (store e es) k w
    go (inl m) = (c.0, m, c.2, c.3)
    go (inr q) = (e, store_self e es, q ∙ c.2, h)

-- what is there was stored or was there before
pub store_all_mem : (ws es : List Entry) {x : Entry} → Mem x (store_all ws es) → Mem x ws ⊎ Mem x es
unfolding store_all
store_all_mem [] es m = inr m
store_all_mem (w ∷ ws) es {x} m = go (store_all_mem ws (store w es) m)
  where
    first : (x ≡ w) ⊎ Mem x es → Mem x (w ∷ ws) ⊎ Mem x es
    first (inl p) = inl (here p)
    first (inr n) = inr n

    go : Mem x ws ⊎ Mem x (store w es) → Mem x (w ∷ ws) ⊎ Mem x es
    go (inl n) = inl (there n)
    go (inr n) = first (store_mem w es n)

-- stores as new or newer cover what was covered
pub store_all_covers : (ws es : List Entry) {k w : ℕ} → ((x : Entry) → Mem x ws → w ≤ x.position) → Covered es k w → Covered (store_all ws es) k w
unfolding store_all
store_all_covers [] es h c = c
store_all_covers (x ∷ ws) es h c = store_all_covers ws (store x es) (λ y m. h y (there m)) (store_covers x es (h x (here refl)) c)

-- what is stored is covered
pub store_all_self : (ws es : List Entry) {x : Entry} → Mem x ws → ((y : Entry) → Mem y ws → x.position ≤ y.position) → Covered (store_all ws es) x.key x.position
unfolding store_all
store_all_self [] es {x = x} x4 h = elim x4 [ ]
store_all_self (y ∷ ws) es {x} (here p) h =
    store_all_covers ws (store y es) (λ z m. h z (there m)) (y, store_self y es, ap (λ (z : Entry). z.key) (sym p), h y (here refl))
store_all_self (y ∷ ws) es (there m) h = store_all_self ws (store y es) m (λ z n. h z (there n))

-- WHAT A COMMIT LEAVES

-- what was written in the zone is not old
pub young_in_zone : (z v : ℕ) (e : Entry) → v < e.position + z → T (young z v e)
unfolding young
young_in_zone z v e h = search (or_right, lt→ltb)

module _ (S : State) (ps : List Point) where
  -- what is kept after a commit was written or kept before
  pub apply_mem : {x : Entry} → Mem x (apply S ps) → Mem x (writes_of S ps) ⊎ Mem x S.kept
  unfolding apply
  apply_mem {x} = if_ind (λ l. Mem x l → Mem x (writes_of S ps) ⊎ Mem x S.kept) (drops S ps)
      (λ _ m. thin (store_all_mem (writes_of S ps) (keep (young S.Z (S.p + 1)) S.kept) m))
      (λ _ m. store_all_mem (writes_of S ps) S.kept m)
    where
      thin : Mem x (writes_of S ps) ⊎ Mem x (keep (young S.Z (S.p + 1)) S.kept) → Mem x (writes_of S ps) ⊎ Mem x S.kept
      thin (inl m) = inl m
      thin (inr m) = inr (keep_mem (young S.Z (S.p + 1)) S.kept m)

  -- no write is older than p + 1
  at_v : {w : ℕ} → w ≤ S.p + 1 → (x : Entry) → Mem x (writes_of S ps) → w ≤ x.position
  at_v h x m = omega (arith, writes_at S ps m)

  -- what is not old at p + 1 is still covered
  pub apply_covers : {k w : ℕ} → w ≤ S.p + 1 → S.p + 1 < w + S.Z → Covered S.kept k w → Covered (apply S ps) k w
  unfolding apply
  apply_covers {k} {w} h l c = if_ind (λ es. Covered es k w) (drops S ps)
      (λ _. store_all_covers (writes_of S ps) _ (at_v h)
      (c.0, mem_keep (young S.Z (S.p + 1)) S.kept c.1 (young_in_zone S.Z (S.p + 1) c.0 (omega (arith, c.3))), c.2, c.3))
      (λ _. store_all_covers (writes_of S ps) _ (at_v h) c)

  -- what was written is covered
  pub apply_self : {x : Entry} → Mem x (writes_of S ps) → Covered (apply S ps) x.key x.position
  unfolding apply
  apply_self {x} m = if_ind (λ es. Covered es x.key x.position) (drops S ps)
      (λ _. store_all_self (writes_of S ps) _ m (at_v (omega (arith, writes_at S ps m))))
      (λ _. store_all_self (writes_of S ps) _ m (at_v (omega (arith, writes_at S ps m))))
