-- From the header to the search of the whole tree.
-- Assumes nothing.
use Prim.Native.Nat.{ℕ}
use native.Mathlib.Omega.{arith}
use mathlib.Core.Path.{◌≡◌, sym, ap, subst, ◌∙◌}
use mathlib.Core.List.{List}
use Rattle.std.specs.Prelude.{None}
use Rattle.record.specs.declared.point.Scan.{Scan}
use Rattle.nodes.specs.declared.header.Header.{Header}
use Rattle.nodes.specs.Nodes.{header_at}
use Rattle.rules.specs.Tree.{walk}
use Rattle.pool.specs.Plan.{no_node}
use Rattle.pool.specs.Image.{Arrangement, Image, Fit}
use Rattle.pool.specs.Subtree.{StandsAt, Rooted}
use Rattle.pool.proofs.Root.{no_root, some_root, root_rooted}
use Rattle.conflict_search.specs.declared.search.Progress.{Progress}
use Rattle.conflict_search.specs.Sorted.{footprint}
use Rattle.conflict_search.specs.Search.{SearchReady, SearchedBelow}
use Rattle.conflict_search.specs.Conflict.{first_hit, conflict_in}

module _ (m : List ℕ) {h : Header} (e : h ≡ header_at m) where
  -- the root's number
  root_is : h.root ≡ (header_at m).root
  root_is = ap (λ (x : Header). x.root) e

  -- an empty tree takes no look
  pub at_none : (s : ℕ) (f : List Scan) → h.root ≡ no_node → (A : Arrangement) → Image m A → record { leaf = None; looks = 0 } ≡ conflict_in s f A.tree
  unfolding first_hit walk
  at_none s f z A x = rw (no_root x (sym root_is ∙ z))

  -- the call for the whole tree
  pub root_ready : {keys lows highs : List ℕ} → (h.root ≡ no_node → ⊥) → Fit m → SearchReady m h.root keys lows highs (record { point = 0; scan = 0 })
  root_ready d f = record {
    rooted = subst (λ (j : ℕ). Rooted m j) (sym root_is) (root_rooted f (λ z. d (root_is ∙ z)));
    point_in = omega arith;
    scan_in = omega arith;
    points = λ k l. absurd (omega arith);
    scans = λ k l. absurd (omega arith);
  }

  -- the whole tree's answer is the pool's
  pub at_root : {s : ℕ} {keys lows highs : List ℕ} {r : Progress} → (h.root ≡ no_node → ⊥) → SearchedBelow m h.root s keys lows highs (record { point = 0; scan = 0 }) r
      → (A : Arrangement) → Image m A → record { leaf = r.leaf; looks = r.looks } ≡ conflict_in s (footprint keys lows highs) A.tree
  at_root {s} {keys} {lows} {highs} {r} d w A x =
      let y = some_root x (λ z. d (root_is ∙ z)) in
      let st = subst (λ (j : ℕ). StandsAt m j y.0) (sym root_is) y.2 in
      rw (y.1, w.leaf y.0 st, w.looks y.0 st)
