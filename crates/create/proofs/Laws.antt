-- What the code of creation knows at each turn and at its answers; a new pool is the image of the fresh arrangement.
-- Assumes nothing.
use Prim.Native.Nat.{ℕ, zero, suc, ◌+◌, ◌-◌, ◌*◌, ◌^◌, ◌≤◌, ◌<◌}
use mathlib.Core.Path.{◌≡◌, refl, sym, ap, ◌∙◌, subst}
use mathlib.Core.Bool.{Bool, true, false, not, ◌&&◌}
use mathlib.Core.List.{List}
use mathlib.Core.Logic.{inr}
use native.Mathlib.Omega.{arith}
use native.Mathlib.Decide.{dec_lt}
use lib.Dec.{leb, eqb}
use lib.ListN.{length}
use borrow.Author.Tests.{leb-true, eqb-true, eq-eqb, ne_eqb, not-true, not-false}
use Rattle.nodes.specs.declared.node.Node.{Node}
use Rattle.nodes.specs.declared.header.Header.{Header}
use Rattle.nodes.specs.Nodes.{node_at, put_node, header_at, put_header}
use Rattle.nodes.specs.Laws.{length_node, bytes_node, node_put, node_apart, node_same, length_header, bytes_header, byte_header, header_put, node_header}
use Rattle.record.specs.Answer.{committed, bad_limits}
use Rattle.std.specs.Prelude.{if◌then◌else◌}
use Rattle.rules.specs.State.{Rising}
use Rattle.rules.specs.Tree.{entries}
use Rattle.rules.proofs.Trees.{tree_none}
use Rattle.pool.specs.Plan.{no_node, free_height, free_node}
use Rattle.pool.specs.Image.{AllBelow, Arranged, HoldsFree, first_of, layout_mark, header_of, Image}
use Rattle.pool.specs.Times.{bit}
use Rattle.pool.proofs.Apart.{free_distinct}
use Rattle.create.specs.Fresh.{up_from, fresh_plan, limits_ok, Created}
use Rattle.create.specs.Steps.{next_free, FreedBefore, Cleared}

-- THE LIMITS

differ {ℓ} : {A : Type ℓ} → true ≡ false → A
differ h = absurd (omega (arith, ap bit h))

and_both : (p q : Bool) → p && q ≡ true → (p ≡ true) × (q ≡ true)
and_both true q h = (refl, h)
and_both false q h = differ (sym h)

-- what good limits are
pub record Limits (n z size : ℕ) : Type 0 where
  pub limit_N : (1 ≤ n) × (n ≤ 65536)
  pub limit_Z : (1 ≤ z) × (z ≤ 4096)
  pub exact : size ≡ 64 + 64 * n

pub limits_facts : (n z size : ℕ) (b : Bool) → b ≡ limits_ok n z size → not b ≡ false → Limits n z size
unfolding limits_ok
limits_facts n z size b e h =
    let a = and_both (leb 1 n) _ (sym e ∙ not-false b h) in
    let c = and_both (leb n 65536) _ a.1 in
    let d = and_both (leb 1 z) _ c.1 in
    let f = and_both (leb z 4096) _ d.1 in
    record { limit_N = (leb-true 1 n a.0, leb-true n 65536 c.0); limit_Z = (leb-true 1 z d.0, leb-true z 4096 f.0); exact = eqb-true size (64 + 64 * n) f.1 }

-- THE FREE NODES

pub next_last : (nodes i : ℕ) → i + 1 ≡ nodes → no_node ≡ next_free nodes i
next_last nodes i e = rw (eq-eqb (i + 1) nodes e)

pub next_more : (nodes i : ℕ) → (i + 1 ≡ nodes → ⊥) → i + 1 ≡ next_free nodes i
next_more nodes i e = rw (ne_eqb (i + 1) nodes e)

pub free_made : (nodes i next behind : ℕ) → next ≡ next_free nodes i → behind + 1 ≡ nodes - i
    → record { height = free_height; low = next; newest = behind + 1; oldest = 0; left = 0; right = 0; kind = 0; spare = 0 } ≡ free_node (next_free nodes i) (nodes - i)
free_made nodes i next behind e r = λ k. free_node (e k) (r k)

next_fits : (nodes i : ℕ) → i < nodes → nodes ≤ 131072 → next_free nodes i < 4294967296
next_fits nodes i l s = go (eqb (i + 1) nodes)
  where
    go : (b : Bool) → (if b then no_node else (i + 1)) < 2 ^ 32
    go true = omega arith
    go false = omega arith

pub freed_more : (nodes i : ℕ) (m m' m'' : List ℕ) (n : Node) → FreedBefore nodes i m m' → i < nodes → 64 + 32 * nodes ≤ length m → nodes ≤ 131072 → n ≡ free_node (next_free nodes i) (nodes - i)
    → m'' ≡ put_node m' i n → FreedBefore nodes (i + 1) m m''
freed_more nodes i m m' m'' n f l room few en e =
    rw (e, en) (record {
      as_long = length_node m' i free ∙ f.as_long;
      bytes = bytes_node m' i free f.bytes;
      freed = λ j h. elim (dec_lt j i) [
        | yes g ↦ node_apart m' i j free (λ x. omega (arith, x)) ∙ f.freed j g
        | no g ↦ subst (λ (x : ℕ). node_at (put_node m' i free) x ≡ free_node (next_free nodes x) (nodes - x)) (omega arith) here
      ];
    })
  where
    free : Node
    free = free_node (next_free nodes i) (nodes - i)

    here : node_at (put_node m' i free) i ≡ free_node (next_free nodes i) (nodes - i)
    here = node_put m' i free (omega (arith, f.as_long)) (omega arith, (next_fits nodes i l few, (omega arith, (omega arith, (omega arith, (omega arith, (omega arith, (omega arith, tt))))))))

-- THE NEW POOL

length_up : (i k : ℕ) → length (up_from i k) ≡ k
unfolding up_from
length_up i zero = refl
length_up i (suc k) = ap suc (length_up (suc i) k)

below_up : (nodes i k : ℕ) → i + k ≤ nodes → AllBelow nodes (up_from i k)
unfolding up_from
below_up nodes i zero h = tt
below_up nodes i (suc k) h = (omega arith, below_up nodes (suc i) k (omega arith))

first_up : (nodes i k : ℕ) → i + suc k ≡ nodes → first_of (up_from (suc i) k) ≡ next_free nodes i
unfolding up_from
first_up nodes i zero e = next_last nodes i (omega arith)
first_up nodes i (suc k) e = let s : suc i ≡ i + 1 = omega arith in s ∙ next_more nodes i (λ x. omega arith)

holds_up : (m : List ℕ) (nodes i k : ℕ) → i + k ≡ nodes → ((j : ℕ) → j < nodes → node_at m j ≡ free_node (next_free nodes j) (nodes - j)) → HoldsFree m (up_from i k)
unfolding up_from
holds_up m nodes i zero e f = tt
holds_up m nodes i (suc k) e f =
    let rank : nodes - i ≡ suc (length (up_from (suc i) k)) = omega (arith, length_up (suc i) k) in
    (f i (omega arith) ∙ rw (first_up nodes i k e, ← rank), holds_up m nodes (suc i) k (omega arith) f)

abbrev pub new_header : ℕ → ℕ → Header
new_header n z = record { mark = layout_mark; limit = n; zone = z; position = 0; kept = 0; root = no_node; free = 0 }

first_zero : (n : ℕ) → 1 ≤ n → first_of (up_from 0 (2 * n)) ≡ 0
unfolding up_from
first_zero n h = go (2 * n) (omega arith)
  where
    go : (k : ℕ) → 1 ≤ k → first_of (up_from 0 k) ≡ 0
    go zero l = absurd (omega arith)
    go (suc k) l = refl

module _ (m m₁ m₂ m₃ : List ℕ) (n z : ℕ) (l : Limits n z (length m)) (f : FreedBefore (2 * n) (2 * n) m m₁) (c : Cleared 64 m₁ m₂) (e : m₃ ≡ put_header m₂ (new_header n z)) where
  node_kept : (j : ℕ) → node_at m₃ j ≡ node_at m₁ j
  node_kept j = rw e (node_header m₂ (new_header n z) j ∙ node_same m₁ m₂ j (λ k p q. c.others k (inr (omega arith))))

  free_kept : HoldsFree m₃ (up_from 0 (2 * n))
  free_kept = holds_up m₃ (2 * n) 0 (2 * n) (omega arith) (λ j h. node_kept j ∙ f.freed j h)

  fresh_arranged : Arranged (fresh_plan n z)
  unfolding entries
  fresh_arranged =
      record {
        lawful = record {
          limit_N = l.limit_N;
          limit_Z = l.limit_Z;
          last = omega arith;
          few = omega arith;
          rising = Rising.end {low = 0} (omega arith);
          positions = λ x s. elim s [ ];
          payloads = λ x s. elim s [ ];
        };
        shape = sym (tree_none 32 0);
        below = below_up (2 * n) 0 (2 * n) (omega arith);
        distinct = free_distinct m₃ (up_from 0 (2 * n)) free_kept;
        all = length_up 0 (2 * n);
      }

  header_kept : header_at m₃ ≡ header_of (fresh_plan n z)
  unfolding entries
  header_kept =
      rw e (header_put m₂ (new_header n z) (omega (arith, c.as_long, f.as_long, l.exact))
      (omega arith, (omega (arith, l.limit_N), (omega (arith, l.limit_Z), (omega arith, (omega arith, (omega arith, (omega arith, tt)))))))
      ∙ ap (λ (x : ℕ). record { mark = layout_mark; limit = n; zone = z; position = 0; kept = 0; root = no_node; free = x }) (sym (first_zero n l.limit_N.0)))

  pub fresh_image : Image m₃ (fresh_plan n z)
  fresh_image =
      record {
        arranged = fresh_arranged;
        size = rw e (length_header m₂ (new_header n z)) ∙ c.as_long ∙ f.as_long ∙ l.exact;
        bytes = rw e (bytes_header m₂ (new_header n z) c.bytes);
        header = header_kept;
        zeros = λ k p q. rw e (byte_header m₂ (new_header n z) k p) ∙ c.zeros k p q;
        tree = tt;
        free = free_kept;
      }

-- THE ANSWERS

pub refuses : (m : List ℕ) (n z : ℕ) (b : Bool) → b ≡ limits_ok n z (length m) → not b ≡ true → Created m n z bad_limits m
refuses m n z b e h = record { made = λ x. differ (sym x ∙ sym e ∙ not-true b h); refused = λ _. (refl, refl) }

pub makes : (m m₁ m₂ m₃ : List ℕ) (n z : ℕ) (b : Bool) → b ≡ limits_ok n z (length m) → not b ≡ false → FreedBefore (2 * n) (2 * n) m m₁ → Cleared 64 m₁ m₂ → m₃ ≡ put_header m₂ (new_header n z)
    → Created m n z committed m₃
makes m m₁ m₂ m₃ n z b e h f c x =
    record { made = λ _. (refl, fresh_image m m₁ m₂ m₃ n z (limits_facts n z (length m) b e h) f c x); refused = λ y. differ (sym (sym e ∙ not-false b h) ∙ y) }
