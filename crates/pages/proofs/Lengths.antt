-- What the tests of a length and of a carry decide (R14, R48): a law for each return of the functions that test them.
-- Assumes nothing.
use Prim.Native.Nat.{ℕ, ◌+◌, ◌≤◌, ◌<◌}
use mathlib.Core.Path.{◌≡◌, sym, ap, ◌∙◌}
use mathlib.Core.Bool.{Bool, ◌&&◌}
use mathlib.Core.List.{List, [], ◌∷◌}
use native.Mathlib.Omega.{arith}
use borrow.Author.Tests.{le-ltb}
use lib.Dec.{eqb}
use lib.ListN.{length, get_or, take, get_or-append}
use lib.Seq.{length-take-le, get_or-take, get_or-append-add}
use Rattle.std.specs.Prelude.{if◌then◌else◌}
use Rattle.words.specs.Word.{word}
use Rattle.words.specs.Laws.{word_same}
use Rattle.record_log.specs.Log.{length_at}
use Rattle.pages.specs.declared.carry.Begun.{Begun}
use Rattle.pages.specs.declared.carry.Begun.TheVariants.{Short}
use Rattle.pages.specs.Pages.{carry_size, may_carry, bytes_in}
use Rattle.pages.specs.Steps.{sized_by, begun_in}
use Rattle.pages.proofs.Stored.{length_in}

-- WHAT MAY BE CARRIED

module _ (carry : List ℕ) (carried : ℕ) where
  -- the whole test of `may_carry`
  abbrev pub allowed : Bool
  allowed = eqb (length carry) carry_size && may_carry carry carried

-- HOW FAR A RECORD IS

module _ (carry : List ℕ) (carried : ℕ) (part : List ℕ) where
  length_all_in : carried ≤ length carry → 2 ≤ carried + length part → sized_by (length_at (bytes_in carry carried part) 0) ≡ begun_in (bytes_in carry carried part)
  length_all_in h l =
      sym (ap (λ (b : Bool). if b then Short else sized_by (length_at (bytes_in carry carried part) 0))
      (le-ltb (length (bytes_in carry carried part)) 2 (omega (arith, length_in carry carried part h))))

  -- byte by byte: what was carried, then the part
  carried_byte : (i : ℕ) → i < carried → carried ≤ length carry → get_or (bytes_in carry carried part) i 0 ≡ get_or carry i 0
  carried_byte i h k = get_or-append (take carried carry) part 0 i (omega (arith, length-take-le carried carry k)) ∙ get_or-take carried carry i 0 h

  part_byte : (i j : ℕ) → carried ≤ length carry → j ≡ carried + i → get_or (bytes_in carry carried part) j 0 ≡ get_or part i 0
  part_byte i j k e =
      let p : j ≡ length (take carried carry) + i = omega (arith, length-take-le carried carry k) in
      ap (λ (n : ℕ). get_or (bytes_in carry carried part) n 0) p ∙ get_or-append-add (take carried carry) part i 0

  -- a length that was carried
  pub length_carried : carried ≤ length carry → 2 ≤ carried → length_at (bytes_in carry carried part) 0 ≡ length_at carry 0
  length_carried h k = word_same 2 (bytes_in carry carried part) carry 0 0 (λ n l. carried_byte (0 + n) (omega arith) h)

  -- one that lies in both
  pub length_in_both : carried ≡ 1 → carried ≤ length carry → length_at (bytes_in carry carried part) 0 ≡ word 2 (get_or carry 0 0 ∷ get_or part 0 0 ∷ []) 0
  unfolding word
  length_in_both e h = omega (arith, carried_byte 0 (omega arith) h, part_byte 0 1 h (omega arith))

  -- the two returns of `how_far` that read what was carried
  pub far_carried : carried ≤ length carry → 2 ≤ carried → (w : ℕ) → w ≡ word 2 carry 0 → (r : Begun) → r ≡ sized_by w → r ≡ begun_in (bytes_in carry carried part)
  far_carried h k w q r e = e ∙ ap sized_by (q ∙ sym (length_carried h k)) ∙ length_all_in h (omega arith)

  pub far_in_both : carried ≤ length carry → carried ≡ 1 → 1 ≤ length part → (w : ℕ) → w ≡ word 2 (get_or carry 0 0 ∷ get_or part 0 0 ∷ []) 0 → (r : Begun) → r ≡ sized_by w
      → r ≡ begun_in (bytes_in carry carried part)
  far_in_both h o k w q r e = e ∙ ap sized_by (q ∙ sym (length_in_both o h)) ∙ length_all_in h (omega arith)
