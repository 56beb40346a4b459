-- Any bytes are fit or not: the check's tests are each true or false, and together they are fitness.
-- Assumes nothing.
use Prim.Native.Nat.{ℕ, zero, suc, ◌+◌, ◌-◌, ◌*◌, ◌<◌}
use mathlib.Core.Path.{◌≡◌, refl, sym, subst}
use mathlib.Core.Bool.{Bool, true, false}
use mathlib.Core.List.{List}
use native.Mathlib.Omega.{arith}
use native.Mathlib.Decide.{map_dec, ℕ_discrete, dec_le, dec_lt}
use lib.ListN.{length, get_or}
use Rattle.words.specs.Word.{Bytes}
use Rattle.nodes.specs.Nodes.{header_at}
use Rattle.pool.specs.Image.{layout_mark, Fit}
use Rattle.fit.specs.Whole.{tree_ok, free_count, Head, chain_ok}
use Rattle.fit.proofs.Tests.{differ}
use Rattle.fit.proofs.HeadLaws.{Zeros}
use Rattle.fit.proofs.Means.{fit_checked, whole_sound}

dec_and : {A B : Type 0} → Dec A → Dec B → Dec (A × B)
dec_and (yes a) (yes b) = yes (a, b)
dec_and (yes a) (no b) = no (λ p. b p.1)
dec_and (no a) d = no (λ p. a p.0)

is_true : (b : Bool) → Dec (b ≡ true)
is_true true = yes refl
is_true false = no (λ e. differ (sym e))

-- THE HEADER

-- so many bytes from 28 on are zero
abbrev ZerosFrom : List ℕ → ℕ → Type 0
ZerosFrom m n = (k : ℕ) → k < n → get_or m (28 + k) 0 ≡ 0

zeros_from : (m : List ℕ) (n : ℕ) → Dec (ZerosFrom m n)
zeros_from m zero = yes (λ k l. absurd (omega arith))
zeros_from m (suc n) = map_dec more less (dec_and (zeros_from m n) (ℕ_discrete (get_or m (28 + n) 0) 0))
  where
    more : ZerosFrom m n × (get_or m (28 + n) 0 ≡ 0) → ZerosFrom m (suc n)
    more p k l = elim (dec_lt k n) [
      | yes g ↦ p.0 k g
      | no g ↦ subst (λ (x : ℕ). get_or m (28 + x) 0 ≡ 0) (omega arith) p.1
    ]

    less : ZerosFrom m (suc n) → ZerosFrom m n × (get_or m (28 + n) 0 ≡ 0)
    less z = (λ k l. z k (omega arith), z n (omega arith))

zeros_or_not : (m : List ℕ) → Dec (Zeros m 64)
zeros_or_not m = map_dec to from (zeros_from m 36)
  where
    to : ZerosFrom m 36 → Zeros m 64
    to z k a b = subst (λ (x : ℕ). get_or m x 0 ≡ 0) (omega arith) (z (k - 28) (omega arith))

    from : Zeros m 64 → ZerosFrom m 36
    from z k l = z (28 + k) (omega arith) (omega arith)

pub head_or_not : (m : List ℕ) → Dec (Head m)
head_or_not m =
    map_dec
    (λ p. record { marked = p.0; limit_N = p.1.0; limit_Z = p.1.1.0; size = p.1.1.1.0; few = p.1.1.1.1.0; zeros = p.1.1.1.1.1 })
    (λ h. (h.marked, (h.limit_N, (h.limit_Z, (h.size, (h.few, h.zeros))))))
    (dec_and (ℕ_discrete (header_at m).mark layout_mark)
    (dec_and (dec_and (dec_le 1 (header_at m).limit) (dec_le (header_at m).limit 65536))
    (dec_and (dec_and (dec_le 1 (header_at m).zone) (dec_le (header_at m).zone 4096))
    (dec_and (ℕ_discrete (length m) (64 + 64 * (header_at m).limit))
    (dec_and (dec_le (header_at m).kept (header_at m).limit) (zeros_or_not m))))))

-- ALL OF IT

pub fit_or_not : (m : List ℕ) → Bytes m → Dec (Fit m)
fit_or_not m bytes = go (head_or_not m)
  where
    tree : Bool
    tree = tree_ok m (2 * (header_at m).limit) (header_at m).root (header_at m).kept (header_at m).position

    chain : Bool
    chain = chain_ok m (2 * (header_at m).limit) (free_count (header_at m).limit (header_at m).kept) (header_at m).free

    go : Dec (Head m) → Dec (Fit m)
    go (yes h) = map_dec (λ p. whole_sound m bytes h p.0 p.1) (λ f. ((fit_checked m f).tree, (fit_checked m f).chain)) (dec_and (is_true tree) (is_true chain))
    go (no h) = no (λ f. h (fit_checked m f).head)
