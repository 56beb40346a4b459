-- What the tests on an inner node say, as records of facts.
-- Assumes nothing.
use Prim.Native.Nat.{ℕ, ◌+◌, ◌%◌, ◌^◌, ◌≤◌, ◌<◌, max, min}
use mathlib.Core.Path.{◌≡◌}
use mathlib.Core.Bool.{true}
use mathlib.Core.List.{List}
use lib.Dec.{ltb, leb, eqb}
use borrow.Author.Tests.{ltb-true, leb-true, eqb-true, lt-ltb, le-leb, eq-eqb}
use Rattle.nodes.specs.declared.node.Node.{Node}
use Rattle.nodes.specs.Nodes.{node_at}
use Rattle.fit.specs.Check.{own_ok, sums_ok, inner_ok}
use Rattle.fit.proofs.Tests.{and_both}

-- an inner node's own words
pub record Own (n : Node) (from to : ℕ) : Type 0 where
  pub not_high : n.height ≤ 32
  pub at_least : from ≤ n.low
  pub at_most : n.low + 2 ^ n.height ≤ to
  pub aligned : n.low % 2 ^ n.height ≡ 0
  pub no_kind : n.kind ≡ 0
  pub no_spare : n.spare ≡ 0

pub own_true : (n : Node) (from to : ℕ) → Own n from to → own_ok n from to ≡ true
unfolding own_ok
own_true n from to f =
    rw (
      le-leb n.height 32 f.not_high,
      le-leb from n.low f.at_least,
      le-leb (n.low + 2 ^ n.height) to f.at_most,
      eq-eqb (n.low % 2 ^ n.height) 0 f.aligned,
      eq-eqb n.kind 0 f.no_kind,
      eq-eqb n.spare 0 f.no_spare,
    )

pub own_facts : (n : Node) (from to : ℕ) → own_ok n from to ≡ true → Own n from to
unfolding own_ok
own_facts n from to h =
    let a = and_both (leb n.height 32) _ h in
    let b = and_both (leb from n.low) _ a.1 in
    let c = and_both (leb (n.low + 2 ^ n.height) to) _ b.1 in
    let d = and_both (eqb (n.low % 2 ^ n.height) 0) _ c.1 in
    let e = and_both (eqb n.kind 0) _ d.1 in
    record {
      not_high = leb-true n.height 32 a.0;
      at_least = leb-true from n.low b.0;
      at_most = leb-true (n.low + 2 ^ n.height) to c.0;
      aligned = eqb-true (n.low % 2 ^ n.height) 0 d.0;
      no_kind = eqb-true n.kind 0 e.0;
      no_spare = eqb-true n.spare 0 e.1;
    }

-- newest and oldest
pub record Sums (n l r : Node) : Type 0 where
  pub is_newest : n.newest ≡ max l.newest r.newest
  pub is_oldest : n.oldest ≡ min l.oldest r.oldest

pub sums_true : (n l r : Node) → Sums n l r → sums_ok n l r ≡ true
unfolding sums_ok
sums_true n l r f = rw (eq-eqb n.newest (max l.newest r.newest) f.is_newest, eq-eqb n.oldest (min l.oldest r.oldest) f.is_oldest)

pub sums_facts : (n l r : Node) → sums_ok n l r ≡ true → Sums n l r
unfolding sums_ok
sums_facts n l r h =
    let a = and_both (eqb n.newest (max l.newest r.newest)) _ h in
    record { is_newest = eqb-true n.newest (max l.newest r.newest) a.0; is_oldest = eqb-true n.oldest (min l.oldest r.oldest) a.1 }

-- an inner node with its children
pub record InnerFacts (m : List ℕ) (nodes i from to : ℕ) : Type 0 where
  pub own : Own (node_at m i) from to
  pub left_in : (node_at m i).left < nodes
  pub right_in : (node_at m i).right < nodes
  pub sums : Sums (node_at m i) (node_at m (node_at m i).left) (node_at m (node_at m i).right)

module _ (m : List ℕ) (nodes i from to : ℕ) where
  pub inner_true : InnerFacts m nodes i from to → inner_ok m nodes i from to ≡ true
  unfolding inner_ok
  inner_true f =
      rw (own_true (node_at m i) from to f.own, lt-ltb (node_at m i).left nodes f.left_in, lt-ltb (node_at m i).right nodes f.right_in)
      (sums_true _ _ _ f.sums)

  pub inner_facts : inner_ok m nodes i from to ≡ true → InnerFacts m nodes i from to
  unfolding inner_ok
  inner_facts h =
      let a = and_both (own_ok (node_at m i) from to) _ h in
      let b = and_both (ltb (node_at m i).left nodes) _ a.1 in
      let c = and_both (ltb (node_at m i).right nodes) _ b.1 in
      record {
        own = own_facts (node_at m i) from to a.0;
        left_in = ltb-true (node_at m i).left nodes b.0;
        right_in = ltb-true (node_at m i).right nodes c.0;
        sums = sums_facts _ _ _ c.1;
      }
