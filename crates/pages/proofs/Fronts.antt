-- What is in: a carry that may be, the part behind it, and the length that the first two bytes say.
-- Assumes nothing.
use Prim.Native.Nat.{ℕ, ◌+◌, ◌≤◌, ◌<◌}
use mathlib.Core.Path.{◌≡◌, sym, ap, ◌∙◌}
use mathlib.Core.Logic.{◌⊎◌, inl, inr, ⊎_elim}
use mathlib.Core.Bool.{true, false, ◌&&◌}
use mathlib.Core.List.{List, ◌++◌}
use native.Mathlib.Omega.{arith}
use native.Mathlib.Decide.{dec_lt}
use lib.Dec.{eqb}
use lib.ListN.{length, take, drop, length-append, length-drop, get_or-append}
use lib.Seq.{get_or-take, length-take-le}
use Rattle.words.specs.Laws.{word_same}
use Rattle.record.specs.Reader.{front}
use Rattle.record_log.specs.Log.{length_at, past_at, impossible}
use Rattle.record_log.proofs.Lengths.{possible_tells}
use Rattle.pages.specs.Pages.{carry_size, may_carry, bytes_in, cannot_be, whole_in, record_in}
use Rattle.pages.proofs.Rows.{cannot_is, can_tells, cannot_tells, whole_tells, not_whole_tells, may_tells, may_split, no_both}

-- THE LENGTH THAT TWO BYTES SAY

-- it is the same of a front that has them
pub length_take_two : (n : ℕ) (bytes : List ℕ) → 2 ≤ n → length_at (take n bytes) 0 ≡ length_at bytes 0
length_take_two n bytes two = word_same 2 (take n bytes) bytes 0 0 (λ i l. get_or-take n bytes (0 + i) 0 (omega arith))

-- and with more behind them
pub length_append_two : (bytes more : List ℕ) → 2 ≤ length bytes → length_at (bytes ++ more) 0 ≡ length_at bytes 0
length_append_two bytes more two = word_same 2 (bytes ++ more) bytes 0 0 (λ i l. get_or-append bytes more 0 (0 + i) (omega arith))

-- new bytes at the front of a list with room for them
pub length_front : (vs l : List ℕ) → length vs ≤ length l → length (front vs l) ≡ length l
length_front vs l h = omega (arith, length-append vs (drop (length vs) l), length-drop (length vs) l)

-- A CARRY THAT MAY BE

-- R48: 13,835 bytes, and what is carried may be
pub record Such (carry : List ℕ) (carried : ℕ) : Type 0 where
  pub sized : length carry ≡ carry_size
  pub may : may_carry carry carried ≡ true

-- the first row of R47 lets no other pass
pub such_lent : (carry : List ℕ) (carried : ℕ) → (eqb (length carry) carry_size && may_carry carry carried) ≡ true → Such carry carried
such_lent carry carried t = let (x, y) = may_split carry carried t in record { sized = x; may = y }

module _ {carry : List ℕ} {carried : ℕ} (s : Such carry carried) where
  -- never as many as there is room for
  pub carried_few : carried < carry_size
  carried_few = elim (dec_lt carried 2) [ yes l ↦ omega arith | no g ↦ go (may_tells carry carried s.may (omega arith)) ]
    where
      go : ((impossible (length_at carry 0) ≡ true) × (carried ≡ 2)) ⊎ ((impossible (length_at carry 0) ≡ false) × (carried < past_at carry 0)) → carried < carry_size
      go (inl x) = omega (arith, x.1)
      go (inr x) = omega (arith, x.1, possible_tells (length_at carry 0) x.0)

  -- so the bytes carried are there
  pub held : length (take carried carry) ≡ carried
  held = length-take-le carried carry (omega (arith, carried_few, s.sized))

  pub length_in : (part : List ℕ) → length (bytes_in carry carried part) ≡ carried + length part
  length_in part = omega (arith, length-append (take carried carry) part, held)

  -- where two are carried they say the length
  pub said_in : (part : List ℕ) → 2 ≤ carried → length_at (bytes_in carry carried part) 0 ≡ length_at carry 0
  said_in part two = length_append_two (take carried carry) part (omega (arith, held)) ∙ length_take_two carried carry two

  -- if a length that cannot be is not carried yet, but in, it is in with this part
  pub new_length : (part : List ℕ) → cannot_be (take carried carry) ≡ false → cannot_be (bytes_in carry carried part) ≡ true → carried < 2
  new_length part f t = elim (dec_lt carried 2) [ yes l ↦ l | no g ↦ old (omega arith) ]
    where
      old : 2 ≤ carried → carried < 2
      old two =
          let i : impossible (length_at (take carried carry) 0) ≡ true =
          ap impossible (length_take_two carried carry two ∙ sym (said_in part two)) ∙ (cannot_tells (bytes_in carry carried part) t).1 in
          no_both (cannot_is (take carried carry) (omega (arith, held)) i) f

  -- the record begun in the carry does not end there
  pub record_goes_on : (part : List ℕ) → cannot_be (take carried carry) ≡ false → carried < past_at (bytes_in carry carried part) 0
  record_goes_on part f = elim (dec_lt carried 2) [ yes l ↦ omega arith | no g ↦ begun (omega arith) ]
    where
      begun : 2 ≤ carried → carried < past_at (bytes_in carry carried part) 0
      begun two = ⊎_elim
          (λ (x : (impossible (length_at carry 0) ≡ true) × (carried ≡ 2)).
          no_both x.0 (ap impossible (sym (length_take_two carried carry two)) ∙ can_tells (take carried carry) f (omega (arith, held))))
          (λ (x : (impossible (length_at carry 0) ≡ false) × (carried < past_at carry 0)). omega (arith, x.1, said_in part two))
          (may_tells carry carried s.may two)

-- THE RECORD

module _ (bytes : List ℕ) (f : cannot_be bytes ≡ false) where
  -- where it is whole, its length is one of a record
  pub whole_possible : whole_in bytes ≡ true → impossible (length_at bytes 0) ≡ false
  whole_possible w = can_tells bytes f (whole_tells bytes w).0

  -- it has so many bytes
  pub record_size : whole_in bytes ≡ true → length (record_in bytes) ≡ past_at bytes 0
  record_size w = length-take-le (past_at bytes 0) bytes (whole_tells bytes w).1

  -- as many as a carry has room for
  pub record_fits : whole_in bytes ≡ true → past_at bytes 0 ≤ carry_size
  record_fits w = omega (arith, possible_tells (length_at bytes 0) (whole_possible w))

  -- and so it is while it is not whole
  pub begun_fits : whole_in bytes ≡ false → length bytes < carry_size
  begun_fits w = elim (dec_lt (length bytes) 2) [ yes l ↦ omega arith | no g ↦ two (omega arith) ]
    where
      two : 2 ≤ length bytes → length bytes < carry_size
      two h = omega (arith, not_whole_tells bytes w h, possible_tells (length_at bytes 0) (can_tells bytes f h))
