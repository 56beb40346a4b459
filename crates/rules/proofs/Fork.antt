-- Where a fork stands: at the highest bit in which the entry's key and the number differ, over their common leading bits.
-- Assumes nothing.
use Prim.Native.Nat.{ℕ, zero, suc, ◌+◌, ◌-◌, ◌*◌, ◌/◌, ◌^◌, ◌≤◌, ◌<◌}
use native.Mathlib.Omega.{arith}
use native.Mathlib.Nat.{add-sub_of_le}
use mathlib.Core.Path.{◌≡◌, sym, ap, ◌∙◌}
use mathlib.Core.Logic.{⊎_elim}
use lib.Dec.{ltb}
use lib.Pow.{shr-shr}
use Rattle.std.specs.Prelude.{if◌then◌else◌}
use Rattle.rules.specs.State.{Entry}
use Rattle.rules.specs.Tree.{Tree, leaf, node}
use Rattle.rules.proofs.Tests.{le_or_lt, yes_lt, no_lt}
use Rattle.rules.proofs.Bits.{cover_shares, half_left, next_multiple, quotient}
use Rattle.rules.proofs.Insert.{fork}

-- the node that splits at bit j, over what e's key and k have in common above it
abbrev pub parted : ℕ → Entry → ℕ → Tree → Tree
parted j e k t = if ltb e.key k then node (suc j) (k / 2 ^ suc j * 2 ^ suc j) (leaf e) t else node (suc j) (k / 2 ^ suc j * 2 ^ suc j) t (leaf e)

-- numbers that agree from a bit on agree from every higher bit on
pub coarser : {i h : ℕ} (x k : ℕ) → i ≤ h → x / 2 ^ i ≡ k / 2 ^ i → x / 2 ^ h ≡ k / 2 ^ h
coarser {i} {h} x k l e =
    let up : (y : ℕ) → y / 2 ^ i / 2 ^ (h - i) ≡ y / 2 ^ h = λ y. shr-shr y i (h - i) ∙ ap (λ (n : ℕ). y / 2 ^ n) (add-sub_of_le l) in
    sym (up x) ∙ ap (λ (y : ℕ). y / 2 ^ (h - i)) e ∙ up k

-- the lower and the upper half of b · 2 ^ (h + 1) ..
lower : (b h x : ℕ) → x / 2 ^ suc h ≡ b → x < b * 2 ^ suc h + 2 ^ h → x / 2 ^ h ≡ 2 * b
lower b h x e l = let c = (cover_shares b (suc h) x).1 e in let g = half_left b h in quotient (2 * b) (2 ^ h) x (omega arith) (omega arith)

upper : (b h x : ℕ) → x / 2 ^ suc h ≡ b → b * 2 ^ suc h + 2 ^ h ≤ x → x / 2 ^ h ≡ 2 * b + 1
upper b h x e l =
    let c = (cover_shares b (suc h) x).1 e in let g = half_left b h in let n = next_multiple (2 * b) (2 ^ h) in
    quotient (2 * b + 1) (2 ^ h) x (omega arith) (omega arith)

-- j is the highest bit in which they differ
pub fork_parted : (h b : ℕ) (e : Entry) (k : ℕ) (t : Tree) (j : ℕ) → j < h → e.key / 2 ^ h ≡ b → k / 2 ^ h ≡ b
    → e.key / 2 ^ suc j ≡ k / 2 ^ suc j → (e.key / 2 ^ j ≡ k / 2 ^ j → ⊥) → fork h (b * 2 ^ h) e k t ≡ parted j e k t
unfolding fork
fork_parted zero b e k t j l x y s d = absurd (omega arith)
fork_parted (suc h) b e k t j l x y s d = ⊎_elim
    (λ (i : m ≤ e.key). ⊎_elim
    (λ (i' : m ≤ k). rw (no_lt i, no_lt i')
    (ap (λ (low : ℕ). fork h low e k t) right ∙ fork_parted h (2 * b + 1) e k t j (below (upper b h e.key x i ∙ sym (upper b h k y i'))) (upper b h e.key x i) (upper b h k y i') s d))
    (λ (i' : k < m). rw (no_lt i, yes_lt i', at_h (λ q. let a = upper b h e.key x i in let c = lower b h k y i' in omega arith), y, no_lt {a = e.key} {b = k} (omega arith)))
    (le_or_lt m k))
    (λ (i : e.key < m). ⊎_elim
    (λ (i' : m ≤ k). rw (yes_lt i, no_lt i', at_h (λ q. let a = lower b h e.key x i in let c = upper b h k y i' in omega arith), y, yes_lt {a = e.key} {b = k} (omega arith)))
    (λ (i' : k < m). rw (yes_lt i, yes_lt i')
    (ap (λ (low : ℕ). fork h low e k t) (half_left b h) ∙ fork_parted h (2 * b) e k t j (below (lower b h e.key x i ∙ sym (lower b h k y i'))) (lower b h e.key x i) (lower b h k y i') s d))
    (le_or_lt m k))
    (le_or_lt m e.key)
  where
    m : ℕ
    m = b * 2 ^ suc h + 2 ^ h

    right : m ≡ (2 * b + 1) * 2 ^ h
    right = let g = half_left b h in let n = next_multiple (2 * b) (2 ^ h) in omega arith

    below : e.key / 2 ^ h ≡ k / 2 ^ h → j < h
    below q = ⊎_elim (λ (i : h ≤ j). absurd (d (ap (λ (n : ℕ). e.key / 2 ^ n) (same i) ∙ q ∙ ap (λ (n : ℕ). k / 2 ^ n) (sym (same i))))) (λ (i : j < h). i) (le_or_lt h j)
      where
        same : h ≤ j → j ≡ h
        same i = omega arith

    at_h : (e.key / 2 ^ h ≡ k / 2 ^ h → ⊥) → j ≡ h
    at_h n = ⊎_elim (λ (i : h ≤ j). omega arith) (λ (i : j < h). absurd (n (coarser e.key k i s))) (le_or_lt h j)
