-- What each test of the check says: a record of its facts, which hold exactly where the test passes.
-- Assumes nothing.
use Prim.Native.Nat.{ℕ, ◌≤◌, ◌<◌}
use mathlib.Core.Path.{◌≡◌, refl, sym, ap}
use mathlib.Core.Bool.{Bool, true, false, ◌&&◌, ◌||◌}
use mathlib.Core.Logic.{◌⊎◌, inl, inr}
use native.Mathlib.Omega.{arith}
use lib.Dec.{ltb, leb, eqb}
use borrow.Author.Tests.{ltb-true, leb-true, eqb-true, lt-ltb, le-leb, eq-eqb}
use Rattle.nodes.specs.declared.node.Node.{Node}
use Rattle.rules.specs.Tree.{no_tombstone}
use Rattle.pool.specs.Times.{bit}
use Rattle.fit.specs.Check.{live_ok, tombstone_ok, entry_ok, leaf_ok}

-- BOOLEANS

pub differ {ℓ} : {A : Type ℓ} → true ≡ false → A
differ h = absurd (omega (arith, ap bit h))

pub and_both : (p q : Bool) → p && q ≡ true → (p ≡ true) × (q ≡ true)
and_both true q h = (refl, h)
and_both false q h = differ (sym h)

pub or_either : (p q : Bool) → p || q ≡ true → (p ≡ true) ⊎ (q ≡ true)
or_either true q h = inl refl
or_either false q h = inr h

-- false where true leads nowhere
pub is_false : (b : Bool) → (b ≡ true → ⊥) → false ≡ b
is_false true h = absurd (h refl)
is_false false h = refl

-- LEAVES

pub record LiveFacts (n : Node) : Type 0 where
  pub kind_live : n.kind ≡ 1
  pub no_oldest : n.oldest ≡ no_tombstone

pub record TombstoneFacts (n : Node) : Type 0 where
  pub kind_tombstone : n.kind ≡ 2
  pub oldest_newest : n.oldest ≡ n.newest
  pub no_left : n.left ≡ 0
  pub no_right : n.right ≡ 0

pub live_true : (n : Node) → LiveFacts n → live_ok n ≡ true
unfolding live_ok
live_true n f = rw (eq-eqb n.kind 1 f.kind_live, eq-eqb n.oldest no_tombstone f.no_oldest)

pub live_facts : (n : Node) → live_ok n ≡ true → LiveFacts n
unfolding live_ok
live_facts n h = let a = and_both (eqb n.kind 1) _ h in record { kind_live = eqb-true n.kind 1 a.0; no_oldest = eqb-true n.oldest no_tombstone a.1 }

pub tombstone_true : (n : Node) → TombstoneFacts n → tombstone_ok n ≡ true
unfolding tombstone_ok
tombstone_true n f =
    rw (eq-eqb n.kind 2 f.kind_tombstone, eq-eqb n.oldest n.newest f.oldest_newest, eq-eqb n.left 0 f.no_left, eq-eqb n.right 0 f.no_right)

pub tombstone_facts : (n : Node) → tombstone_ok n ≡ true → TombstoneFacts n
unfolding tombstone_ok
tombstone_facts n h =
    let a = and_both (eqb n.kind 2) _ h in
    let b = and_both (eqb n.oldest n.newest) _ a.1 in
    let c = and_both (eqb n.left 0) _ b.1 in
    record {
      kind_tombstone = eqb-true n.kind 2 a.0;
      oldest_newest = eqb-true n.oldest n.newest b.0;
      no_left = eqb-true n.left 0 c.0;
      no_right = eqb-true n.right 0 c.1;
    }

-- a leaf's words but for its key
pub record Written (n : Node) : Type 0 where
  pub written : 1 ≤ n.newest
  pub no_spare : n.spare ≡ 0
  pub sort : LiveFacts n ⊎ TombstoneFacts n

or_sort : (n : Node) → LiveFacts n ⊎ TombstoneFacts n → live_ok n || tombstone_ok n ≡ true
or_sort n (inl f) = rw (live_true n f)
or_sort n (inr f) = rw (tombstone_true n f) (go (live_ok n))
  where
    go : (b : Bool) → b || true ≡ true
    go true = refl
    go false = refl

pub entry_true : (n : Node) → Written n → entry_ok n ≡ true
unfolding entry_ok
entry_true n f = rw (lt-ltb 0 n.newest f.written, eq-eqb n.spare 0 f.no_spare, or_sort n f.sort)

pub entry_facts : (n : Node) → entry_ok n ≡ true → Written n
unfolding entry_ok
entry_facts n h =
    let a = and_both (ltb 0 n.newest) _ h in
    let b = and_both (eqb n.spare 0) _ a.1 in
    record { written = ltb-true 0 n.newest a.0; no_spare = eqb-true n.spare 0 b.0; sort = go (or_either (live_ok n) _ b.1) }
  where
    go : (live_ok n ≡ true) ⊎ (tombstone_ok n ≡ true) → LiveFacts n ⊎ TombstoneFacts n
    go (inl e) = inl (live_facts n e)
    go (inr e) = inr (tombstone_facts n e)

pub record LeafFacts (n : Node) (from to : ℕ) : Type 0 where
  pub at_least : from ≤ n.low
  pub below : n.low < to
  pub words : Written n

pub leaf_true : (n : Node) (from to : ℕ) → LeafFacts n from to → leaf_ok n from to ≡ true
unfolding leaf_ok
leaf_true n from to f = rw (le-leb from n.low f.at_least, lt-ltb n.low to f.below, entry_true n f.words)

pub leaf_facts : (n : Node) (from to : ℕ) → leaf_ok n from to ≡ true → LeafFacts n from to
unfolding leaf_ok
leaf_facts n from to h =
    let a = and_both (leb from n.low) _ h in
    let b = and_both (ltb n.low to) _ a.1 in
    record { at_least = leb-true from n.low a.0; below = ltb-true n.low to b.0; words = entry_facts n b.1 }
