-- Opening gives a pool's size exactly if the limits are there and within their ranges, and 9 otherwise, where the bytes lent are enough for the largest N.
-- Assumes nothing.
use Rattle.std.proofs.Common.{◌≡◌, ℕ, Result, Ok, Err, ◌∙◌, ◌+◌, ◌*◌, ◌<◌, ◌≤◌, true, false, ◌⊎◌, List, length, take, ap, inl, inr, arith, length-take-le, eq-eqb, le-leb}
use native.Mathlib.Decide.{dec_le}
use borrow.Author.Tests.{lt-leb}
use Rattle.record.specs.declared.answer.Answer.{Answer}
use Rattle.record.specs.Answer.{committed, bad_limits}
use Rattle.create.specs.Fresh.{limits_ok}
use Rattle.lines.specs.Opening.{limit_n, limit_z, size_for, size_told, Asks, Opens, InRange}

-- what `create` tests of limits within their ranges, and of others
module _ (n z size : ℕ) where
  good : 1 ≤ n → n ≤ 65536 → 1 ≤ z → z ≤ 4096 → size ≡ 64 + 64 * n → limits_ok n z size ≡ true
  unfolding limits_ok
  good a b c d e = rw (le-leb 1 n a, le-leb n 65536 b, le-leb 1 z c, le-leb z 4096 d, eq-eqb size (64 + 64 * n) e)

  low_n : n < 1 → limits_ok n z size ≡ false
  unfolding limits_ok
  low_n a = rw (lt-leb 1 n a)

  low_z : 1 ≤ n → n ≤ 65536 → z < 1 → limits_ok n z size ≡ false
  unfolding limits_ok
  low_z a b c = rw (le-leb 1 n a, le-leb n 65536 b, lt-leb 1 z c)

  high_z : 1 ≤ n → n ≤ 65536 → 1 ≤ z → 4096 < z → limits_ok n z size ≡ false
  unfolding limits_ok
  high_z a b c d = rw (le-leb 1 n a, le-leb n 65536 b, le-leb 1 z c, lt-leb z 4096 d)

module _ (most : ℕ) (m head : List ℕ) (r : Result ℕ Answer) (m' : List ℕ) (o : Opens most m head r m') (bounded : most ≤ 65536) (enough : size_for most ≤ length m) where
  -- what is told, by what `create` answers
  answered : (a : Asks most head (length m)) (x : Answer) → (o.asked a).answer ≡ x → r ≡ size_told x (size_for (limit_n head))
  answered a x e = (o.asked a).told ∙ ap (λ (y : Answer). size_told y (size_for (limit_n head))) e

  -- within their ranges
  pub in_range_0 : InRange most head → r ≡ Ok (size_for (limit_n head))
  in_range_0 k =
      let fits : size_for (limit_n head) ≤ length m = omega (arith, k.most_n, enough) in
      let a : Asks most head (length m) = record { eight = k.eight; few = k.most_n; fits = fits } in
      answered a committed ((o.asked a).created.made (good _ _ _ k.least_n (omega (arith, k.most_n, bounded)) k.least_z k.most_z (length-take-le _ m fits))).0

  -- within them or not
  pub in_range_or_9 : InRange most head ⊎ (r ≡ Err bad_limits)
  in_range_or_9 =
      elim (dec_le 8 (length head)) [
        | no e ↦ inr (nine λ a. e a.eight)
        | yes e ↦
            elim (dec_le (limit_n head) most) [
              | no f ↦ inr (nine λ a. f a.few)
              | yes f ↦ asked e f
            ]
      ]
    where
      nine : (Asks most head (length m) → ⊥) → r ≡ Err bad_limits
      nine none = (o.refused none).0

      asked : 8 ≤ length head → limit_n head ≤ most → InRange most head ⊎ (r ≡ Err bad_limits)
      asked e f =
          let a : Asks most head (length m) = record { eight = e; few = f; fits = omega (arith, f, enough) } in
          let c = (o.asked a).created in
          let said : limits_ok (limit_n head) (limit_z head) (length (take (size_for (limit_n head)) m)) ≡ false → r ≡ Err bad_limits = λ w. answered a bad_limits (c.refused w).0 in
          let n : limit_n head ≤ 65536 = omega (arith, f, bounded) in
          elim (dec_le 1 (limit_n head)) [
            | no b ↦ inr (said (low_n _ _ _ (omega (arith, b))))
            | yes b ↦
                elim (dec_le 1 (limit_z head)) [
                  | no d ↦ inr (said (low_z _ _ _ b n (omega (arith, d))))
                  | yes d ↦
                      elim (dec_le (limit_z head) 4096) [
                        | no h ↦ inr (said (high_z _ _ _ b n d (omega (arith, h))))
                        | yes h ↦ inl (record { eight = e; least_n = b; most_n = f; least_z = d; most_z = h })
                      ]
                ]
          ]

  -- and not within them
  pub out_of_range_9 : (InRange most head → ⊥) → r ≡ Err bad_limits
  out_of_range_9 none = elim in_range_or_9 [ inl k ↦ absurd (none k) | inr e ↦ e ]
