-- What version 2 has changed in reading a record, and what not (R54): bytes whose version byte does not say 2 are read as they were read before.
-- Assumes nothing.
use Prim.Native.Nat.{ℕ, ◌+◌, ◌≤◌}
use mathlib.Core.Path.{◌≡◌, sym, ◌∙◌}
use mathlib.Core.Bool.{Bool, true, ◌&&◌, true≢false}
use mathlib.Core.Option.{none}
use mathlib.Core.List.{List}
use native.Mathlib.Omega.{arith}
use lib.ListN.{length, get_or}
use lib.Dec.{leb, eqb}
use borrow.Author.Tests.{le-leb, leb-true, eq-eqb, eqb-true}
use Rattle.words.specs.Word.{word}
use Rattle.record.specs.Record.{version_for}
use Rattle.record.specs.Parse.{version_in, point_count, scan_count, first_point, counts_ok, head_ok, parse}
use Rattle.record.specs.Before.{head_ok_before, parse_before}
use Rattle.record.proofs.Cases.{by_case, and_split, both}
use Rattle.record.proofs.Versions.{version_1}
use Rattle.record.proofs.HeadLaws.{HeadRight, head_right, right_version, first_at, points_1, scans_1}

module _ (bs : List ℕ) where
  -- a head of version 1 that is right was right
  was_right : HeadRight bs → version_in bs ≡ 1 → point_count bs ≤ 64 → scan_count bs ≤ 8 → head_ok_before bs ≡ true
  unfolding head_ok_before
  was_right h v p s =
      both (le-leb 9 (length bs) (omega (arith, h.within, first_at bs 1 v))) (both (eq-eqb _ _ h.whole) (both (eq-eqb _ _ v)
      (both (le-leb (get_or bs 7 0) 64 (omega (arith, points_1 bs v))) (le-leb (get_or bs 8 0) 8 (omega (arith, scans_1 bs v))))))

  -- and one that was right is right
  is_right : head_ok_before bs ≡ true → head_ok bs ≡ true
  unfolding head_ok_before head_ok counts_ok
  is_right k =
      and_split _ _ k λ k1 k2. and_split _ _ k2 λ k3 k4. and_split _ _ k4 λ k5 k6. and_split _ _ k6 λ k7 k8.
      let v : version_in bs ≡ 1 = eqb-true _ _ k5 in
      let p : get_or bs 7 0 ≤ 64 = leb-true _ _ k7 in
      let s : get_or bs 8 0 ≤ 8 = leb-true _ _ k8 in
      let long : 9 ≤ length bs = leb-true _ _ k1 in
      simp (
        le-leb (first_point bs) (length bs) (omega (arith, first_at bs 1 v)),
        eq-eqb (word 2 bs 0 + 2) (length bs) (eqb-true _ _ k3),
        points_1 bs v,
        scans_1 bs v,
        le-leb (get_or bs 7 0) 1024 (omega arith),
        le-leb (get_or bs 8 0) 64 (omega arith),
        eq-eqb (version_for (get_or bs 7 0) (get_or bs 8 0)) (version_in bs) (version_1 (get_or bs 7 0) (get_or bs 8 0) p s ∙ sym v),
      )

  -- its version was 1
  was_version_1 : head_ok_before bs ≡ true → version_in bs ≡ 1
  unfolding head_ok_before
  was_version_1 k =
      let counts : Bool = leb (get_or bs 7 0) 64 && leb (get_or bs 8 0) 8 in
      and_split (leb 9 (length bs)) (eqb (word 2 bs 0 + 2) (length bs) && (eqb (version_in bs) 1 && counts)) k λ k1 k2.
      and_split (eqb (word 2 bs 0 + 2) (length bs)) (eqb (version_in bs) 1 && counts) k2 λ k3 k4.
      and_split (eqb (version_in bs) 1) counts k4 λ k5 k6. eqb-true (version_in bs) 1 k5

  -- R54: without version byte 2, what was read is read
  pub parse_as_before : (version_in bs ≡ 2 → ⊥) → parse bs ≡ parse_before bs
  unfolding parse parse_before
  parse_as_before n =
      by_case (head_ok bs)
      (λ k. let h = head_right bs k in
      right_version bs h (λ p s v. simp (k, was_right h v p s, points_1 bs v, scans_1 bs v, first_at bs 1 v)) (λ two. absurd (n two)))
      (λ k. by_case (head_ok_before bs) (λ b. absurd (true≢false (sym (is_right b) ∙ k))) (λ b. simp (k, b)))

  -- R54: and what has version byte 2 was malformed
  pub version_2_before : version_in bs ≡ 2 → parse_before bs ≡ none
  unfolding parse_before
  version_2_before two =
      by_case (head_ok_before bs)
      (λ k. let one : version_in bs ≡ 1 = was_version_1 k in absurd (omega arith))
      (λ k. simp k)
