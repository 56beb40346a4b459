-- An arrangement has one image: header, zeros, and the tree's and the free nodes are all nodes, so every word and with it every byte is fixed.
-- Assumes nothing.
use Prim.Native.Nat.{ℕ, zero, suc, ◌+◌, ◌-◌, ◌*◌, ◌/◌, ◌%◌, ◌≤◌, ◌<◌}
use mathlib.Core.Path.{◌≡◌, sym, ap, ◌∙◌, subst}
use mathlib.Core.Logic.{⊎_elim}
use mathlib.Core.List.Memᴰ.{append_cases as in-append}
use mathlib.Core.List.Memᴰ.{head as here}
use mathlib.Core.List.Memᴰ.{tail as there}
use mathlib.Core.List.{List, ◌∷◌, ◌++◌, Memᴰ as Mem}
use mathlib.Core.Option.{Option, none, some}
use native.Mathlib.Omega.{arith}
use native.Mathlib.Decide.{dec_lt}
use Rattle.words.specs.Word.{word}
use Rattle.words.specs.Laws.{word_same, same_words}
use Rattle.nodes.specs.declared.node.Node.{Node}
use Rattle.nodes.specs.declared.header.Header.{Header}
use Rattle.nodes.specs.Nodes.{base, node_from, node_at, header_at}
use Rattle.pool.specs.Plan.{Plan, leaf, node, numbers}
use Rattle.pool.specs.Image.{Arrangement, numbers_or, Holds, HoldsTree, HoldsFree, Image}
use Rattle.pool.proofs.Everywhere.{everywhere}

-- THE SAME NODES

tree_nodes : (m m' : List ℕ) (P : Plan) → Holds m P → Holds m' P → (j : ℕ) → Mem j (numbers P) → node_at m j ≡ node_at m' j
tree_nodes m m' (leaf i e) p q j (here s) = subst (λ (x : ℕ). node_at m x ≡ node_at m' x) (sym s) (p ∙ sym q)
tree_nodes m m' (leaf i e) p q j (there s) = elim s [ ]
tree_nodes m m' (node i h low l r) p q j (here s) = subst (λ (x : ℕ). node_at m x ≡ node_at m' x) (sym s) (p.0 ∙ sym q.0)
tree_nodes m m' (node i h low l r) p q j (there s) =
    ⊎_elim (λ (y : Mem j (numbers l)). tree_nodes m m' l p.1 q.1 j y) (λ (y : Mem j (numbers r)). tree_nodes m m' r p.2 q.2 j y) (in-append (numbers l) s)

free_nodes : (m m' : List ℕ) (is : List ℕ) → HoldsFree m is → HoldsFree m' is → (j : ℕ) → Mem j is → node_at m j ≡ node_at m' j
free_nodes m m' mathlib.Core.List.[] p q j x3 = elim x3 [ ]
free_nodes m m' (i ∷ is) p q j (here s) = subst (λ (x : ℕ). node_at m x ≡ node_at m' x) (sym s) (p.0 ∙ sym q.0)
free_nodes m m' (i ∷ is) p q j (there s) = free_nodes m m' is p.1 q.1 j s

option_nodes : (m m' : List ℕ) (t : Option Plan) → HoldsTree m t → HoldsTree m' t → (j : ℕ) → Mem j (numbers_or t) → node_at m j ≡ node_at m' j
option_nodes m m' none p q j s = elim s [ ]
option_nodes m m' (some P) p q j s = tree_nodes m m' P p q j s

-- THE SAME WORDS

header_word : (m m' : List ℕ) → header_at m ≡ header_at m' → (q : ℕ) → q < 7 → word 4 m (q * 4) ≡ word 4 m' (q * 4)
unfolding header_at
header_word m m' e zero l = ap (λ (h : Header). h.mark) e
header_word m m' e (suc zero) l = ap (λ (h : Header). h.limit) e
header_word m m' e (suc (suc zero)) l = ap (λ (h : Header). h.zone) e
header_word m m' e (suc (suc (suc zero))) l = ap (λ (h : Header). h.position) e
header_word m m' e (suc (suc (suc (suc zero)))) l = ap (λ (h : Header). h.kept) e
header_word m m' e (suc (suc (suc (suc (suc zero))))) l = ap (λ (h : Header). h.root) e
header_word m m' e (suc (suc (suc (suc (suc (suc zero)))))) l = ap (λ (h : Header). h.free) e
header_word m m' e (suc (suc (suc (suc (suc (suc (suc q))))))) l = absurd (omega arith)

node_word : (m m' : List ℕ) (j : ℕ) → node_at m j ≡ node_at m' j → (k : ℕ) → k < 8 → word 4 m (base j + 4 * k) ≡ word 4 m' (base j + 4 * k)
unfolding node_from
node_word m m' j e zero l = let z : base j + 0 ≡ base j = omega arith in rw z (ap (λ (n : Node). n.height) e)
node_word m m' j e (suc zero) l = ap (λ (n : Node). n.low) e
node_word m m' j e (suc (suc zero)) l = ap (λ (n : Node). n.newest) e
node_word m m' j e (suc (suc (suc zero))) l = ap (λ (n : Node). n.oldest) e
node_word m m' j e (suc (suc (suc (suc zero)))) l = ap (λ (n : Node). n.left) e
node_word m m' j e (suc (suc (suc (suc (suc zero))))) l = ap (λ (n : Node). n.right) e
node_word m m' j e (suc (suc (suc (suc (suc (suc zero)))))) l = ap (λ (n : Node). n.kind) e
node_word m m' j e (suc (suc (suc (suc (suc (suc (suc zero))))))) l = ap (λ (n : Node). n.spare) e
node_word m m' j e (suc (suc (suc (suc (suc (suc (suc (suc k)))))))) l = absurd (omega arith)

-- every byte is fixed
pub one_image : (m m' : List ℕ) (A : Arrangement) → Image m A → Image m' A → m ≡ m'
one_image m m' A a b = same_words 4 (16 + 16 * A.N) m m' a.bytes b.bytes (a.size ∙ omega arith) (b.size ∙ omega arith) each
  where
    nodes : (j : ℕ) → j < 2 * A.N → node_at m j ≡ node_at m' j
    nodes j l =
        ⊎_elim (λ (s : Mem j (numbers_or A.tree)). option_nodes m m' A.tree a.tree b.tree j s) (λ (s : Mem j A.free). free_nodes m m' A.free a.free b.free j s)
        (in-append (numbers_or A.tree) (everywhere (2 * A.N) (numbers_or A.tree ++ A.free) a.arranged.below a.arranged.distinct a.arranged.all j l))

    in_node : (q : ℕ) → 16 ≤ q → q < 16 + 16 * A.N → word 4 m (q * 4) ≡ word 4 m' (q * 4)
    in_node q g l =
        let e : q * 4 ≡ base ((q - 16) / 8) + 4 * ((q - 16) % 8) = omega arith in
        rw e (node_word m m' ((q - 16) / 8) (nodes ((q - 16) / 8) (omega arith)) ((q - 16) % 8) (omega arith))

    in_zeros : (q : ℕ) → 7 ≤ q → q < 16 → word 4 m (q * 4) ≡ word 4 m' (q * 4)
    in_zeros q g l = word_same 4 m m' (q * 4) (q * 4) (λ n h. a.zeros (q * 4 + n) (omega arith) (omega arith) ∙ sym (b.zeros (q * 4 + n) (omega arith) (omega arith)))

    each : (q : ℕ) → q < 16 + 16 * A.N → word 4 m (q * 4) ≡ word 4 m' (q * 4)
    each q l =
        elim (dec_lt q 7) [
          | yes g ↦ header_word m m' (a.header ∙ sym b.header) q g
          | no g ↦ elim (dec_lt q 16) [ yes h ↦ in_zeros q (omega arith) h | no h ↦ in_node q (omega arith) l ]
        ]
