-- Bytes stored behind those carried: what one turn of the storing loop leaves, and what all of them do.
-- Assumes nothing.
use Prim.Native.Nat.{ℕ, ◌+◌, ◌-◌, ◌≤◌, ◌<◌}
use mathlib.Core.Path.{◌≡◌, sym, ap, ◌∙◌}
use mathlib.Core.List.{List, ◌++◌}
use native.Mathlib.Omega.{arith}
use native.Mathlib.Numerals.{add-one}
use lib.ListN.{length, get_or, take, drop, set, length-append}
use lib.Seq.{paste, paste-suc, take-length, length-take-le, take-append-add}
use Rattle.record.specs.Reader.{front}
use Rattle.pages.specs.Pages.{bytes_in}

module _ (before : List ℕ) (carried : ℕ) (part : List ℕ) where
  -- one more byte
  pub stored_more : (carry : List ℕ) (i : ℕ) → carry ≡ paste before carried part i → i < length part → carried + length part ≤ length before
      → set carry (carried + i) (get_or part i 0) ≡ paste before carried part (i + 1)
  stored_more carry i e h room =
      ap (λ (l : List ℕ). set l (carried + i) (get_or part i 0)) e ∙ paste-suc before carried part i 0 (omega arith) h
      ∙ ap (paste before carried part) (sym (add-one i))

  -- as many bytes as are in
  pub length_in : carried ≤ length before → length (bytes_in before carried part) ≡ carried + length part
  length_in h = length-append (take carried before) part ∙ omega (arith, length-take-le carried before h)

  -- all bytes
  pub stored_all : (carry : List ℕ) (i : ℕ) → carry ≡ paste before carried part i → i ≤ length part → length part ≤ i → carried + length part ≤ length before
      → carry ≡ front (bytes_in before carried part) before
  stored_all carry i e h k room =
      let n : i ≡ length part = omega arith in
      let p : take i part ≡ part = ap (λ (j : ℕ). take j part) n ∙ take-length part in
      let d : carried + i ≡ length (bytes_in before carried part) = omega (arith, length_in (omega arith)) in
      e ∙ ap (λ (l : List ℕ). take carried before ++ l ++ drop (carried + i) before) p ∙ ap (λ (j : ℕ). bytes_in before carried part ++ drop j before) d

  -- a front of what is in, where only so much of the part was stored as is missing there
  pub front_behind : (n : ℕ) → carried ≤ length before → carried ≤ n → front (bytes_in before carried (take (n - carried) part)) before ≡ front (take n (bytes_in before carried part)) before
  front_behind n h k =
      let e : n ≡ length (take carried before) + (n - carried) = omega (arith, length-take-le carried before h) in
      ap (λ (l : List ℕ). front l before) (sym (ap (λ (j : ℕ). take j (bytes_in before carried part)) e ∙ take-append-add (take carried before) part (n - carried)))
