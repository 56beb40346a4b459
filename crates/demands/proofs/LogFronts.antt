-- What the first bytes from a place of a log on tell of what stands there (R14), by the tests of R47: a whole record among them is the one that
-- stands there; a length that cannot be stands there as one; and a record that all the bytes left do not complete is torn.
-- Assumes nothing.
use Prim.Native.Nat.{ℕ, ◌+◌, ◌-◌, ◌≤◌}
use mathlib.Core.Path.{◌≡◌, refl, sym, ap, ◌∙◌}
use mathlib.Core.Bool.{true, false}
use mathlib.Core.List.{List}
use native.Mathlib.Omega.{arith}
use lib.ListN.{length, take, drop, length-take, length-drop}
use lib.Seq.{take-take}
use Rattle.words.specs.Laws.{word_drop}
use Rattle.record_log.specs.declared.found.Cut.TheVariants.{Torn, Impossible, Record}
use Rattle.record_log.specs.Log.{length_at, past_at, impossible, cut_at, part_of}
use Rattle.record_log.proofs.Stands.{record_found, torn_found, impossible_found}
use Rattle.record_log.proofs.Lengths.{possible_tells}
use Rattle.pages.specs.Pages.{cannot_be, whole_in, record_in}
use Rattle.pages.proofs.Rows.{cannot_tells, can_tells, whole_tells, whole_is, no_both}
use Rattle.pages.proofs.Fronts.{length_take_two, whole_possible}

module _ (log : List ℕ) (place k : ℕ) where
  -- the first k bytes from the place on
  abbrev bytes : List ℕ
  bytes = take k (drop place log)

  -- there are no more than k, and no more than are left
  size : length bytes ≤ k
  size = omega (arith, length-take k (drop place log))

  left : length bytes ≤ length log - place
  left = omega (arith, length-take k (drop place log), length-drop place log)

  -- the length that two of them say is the one at the place
  said : 2 ≤ length bytes → length_at bytes 0 ≡ length_at log place
  said two = length_take_two k (drop place log) (omega (arith, size)) ∙ word_drop 2 log place 0 ∙ ap (length_at log) (omega arith)

  -- a whole record among them stands there
  module _ (f : cannot_be bytes ≡ false) (w : whole_in bytes ≡ true) where
    pub record_stands : cut_at log place ≡ Record (past_at log place)
    record_stands =
        let (two, whole) = whole_tells bytes w in
        let p = possible_tells (length_at bytes 0) (whole_possible bytes f w) in
        record_found log place (past_at log place)
        (record { least = omega (arith, p, said two); most = omega (arith, p, said two); past = refl; inside = omega (arith, left, said two, whole) })

    pub record_past : past_at log place ≡ place + past_at bytes 0
    record_past = omega (arith, said (whole_tells bytes w).0)

    -- and is what is handed out
    pub record_handed : record_in bytes ≡ part_of (Record (past_at log place)) log place
    record_handed =
        let e : past_at bytes 0 ≡ past_at log place - place = omega (arith, record_past) in
        take-take (past_at bytes 0) k (drop place log) (omega (arith, size, (whole_tells bytes w).1))
        ∙ ap (λ (n : ℕ). take n (drop place log)) e

  -- where a length among them cannot be, that is what stands there
  pub cannot_stand : cannot_be bytes ≡ true → cut_at log place ≡ Impossible
  cannot_stand t =
      let (two, i) = cannot_tells bytes t in
      impossible_found log place (omega (arith, left, two)) (ap impossible (sym (said two)) ∙ i)

  -- where they are all that is left, are some, and are neither such a length nor a whole record, the log is torn
  pub torn_stands : length log ≤ place + k → place ≤ length log → (length bytes ≡ 0 → ⊥) → cannot_be bytes ≡ false → whole_in bytes ≡ false → cut_at log place ≡ Torn
  torn_stands all inside some can w =
      let every : length bytes ≡ length log - place = omega (arith, length-take k (drop place log), length-drop place log) in
      torn_found log place (λ e. some (omega (arith, every, e)))
      (λ here. let two : 2 ≤ length bytes = omega (arith, every) in ap impossible (sym (said two)) ∙ can_tells bytes can two)
      (λ next r.
      let two : 2 ≤ length bytes = omega (arith, every, r.past, r.inside) in
      no_both (whole_is bytes (omega (arith, every, said two, r.past, r.inside))) w)
