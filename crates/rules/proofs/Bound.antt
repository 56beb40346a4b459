-- The looks of a search never exceed 65 + 64·(points + 2·scans).
-- The idea: below a node that the search goes on from there is a mark in its range, or else the footprint covers all of the range and
-- the newest leaf below is the conflict, so that the search ends there. A mark pays for two looks a level.
-- Assumes nothing.
use Prim.Native.Nat.{ℕ, suc, ◌+◌, ◌*◌, ◌^◌, ◌≤◌, ◌<◌}
use native.Mathlib.Omega.{arith}
use mathlib.Core.Path.{◌≡◌, sym, ap, ◌∙◌}
use mathlib.Core.Logic.{⊎_elim}
use mathlib.Core.Bool.{not, ◌&&◌}
use mathlib.Core.List.{List}
use mathlib.Core.Option.{some}
use lib.Dec.{T, ltb, ltb→lt, T_not}
use lib.ListN.{length}
use Rattle.record.specs.Record.{Rec, Valid, version_of}
use Rattle.record.proofs.Versions.{by_version}
use Rattle.record.specs.declared.point.Scan.{Scan}
use Rattle.rules.specs.State.{State, Lawful}
use Rattle.rules.specs.Footprint.{reach, meets}
use Rattle.rules.specs.Verdict.{Verdict, committed, conflict, too_old, no_room, malformed, ahead, positions_used_up, verdict}
use Rattle.rules.specs.Tree.{Tree, node, newest, Walked, stop, descend, walk, walk_of, looks_for, looks_of}
use Rattle.rules.proofs.Tests.{if_ind, is_true, is_false, le_or_lt, left_of_lem, right_of_lem, nor_left, nor_right}
use Rattle.rules.proofs.Reach.{hits_of}
use Rattle.rules.proofs.Sorted.{rising_mem}
use Rattle.rules.specs.Shape.{Canonical, none, one, two, on_left, on_right}
use Rattle.rules.proofs.Trees.{canonical_rising, double, tree_of_canonical}
use Rattle.rules.proofs.Newest.{newest_leaf}
use Rattle.rules.proofs.Search.{walk_complete}
use Rattle.rules.proofs.Marks.{marks, marks_cut, marks_all, Marked, covers, marks_of, marks_length, marks_marked, apart_ordered}

-- looks at a tree of height h with b marks in its range
record Few (w : Walked) (h b : ℕ) : Type 0 where
  quiet : T (not w.found) → w.looks ≤ 1 + 2 * (h * b)
  most : w.looks ≤ 1 + 2 * (h * (b + 1))

-- a search that stops
few_stop : (h b : ℕ) → Few stop h b
few_stop h b = record { quiet = λ _. omega arith; most = omega arith }

-- a tree that lies in the left half, with further marks on the right
few_left : {w : Walked} {h bl : ℕ} (br : ℕ) → Few w h bl → Few w (suc h) (bl + br)
few_left {w} {h} {bl} br x = record { quiet = λ t. omega (arith, x.quiet t); most = omega (arith, x.most) }

-- a tree that lies in the right half, with further marks on the left
few_right : {w : Walked} {h br : ℕ} (bl : ℕ) → Few w h br → Few w (suc h) (bl + br)
few_right {w} {h} {br} bl x = record { quiet = λ t. omega (arith, x.quiet t); most = omega (arith, x.most) }

-- a search that goes on into both halves
few_descend : {l r : Walked} {h bl br : ℕ} → Few l h bl → Few r h br → (T (not (descend l r).found) → 1 ≤ bl + br) → Few (descend l r) (suc h) (bl + br)
few_descend {l} {r} {h} {bl} {br} x y busy = record {
  quiet = λ t.
      let i = nor_left l.found r.found t in
      let c = busy t in
      rw (is_false l.found i) (omega (arith, x.quiet i, y.quiet (nor_right l.found r.found t)));
  most = if_ind (λ (n : ℕ). n ≤ 1 + 2 * (suc h * (bl + br + 1))) l.found (λ _. omega (arith, x.most)) (λ i. omega (arith, x.quiet i, y.most));
}

-- the marks in a range are those in its two halves
split : (ks : List ℕ) (h low : ℕ) → marks low (low + 2 ^ suc h) ks ≡ marks low (low + 2 ^ h) ks + marks (low + 2 ^ h) (low + 2 ^ h + 2 ^ h) ks
split ks h low = ap (λ (k : ℕ). marks low k ks) (double h low) ∙ sym (marks_cut low (low + 2 ^ h) (low + 2 ^ h + 2 ^ h) ks (omega arith) (omega arith))

module _ (s : ℕ) (f : List Scan) (ks : List ℕ) (mk : Marked f ks) where
  -- a node that the search goes on from has a mark in its range, or the conflict under it
  busy : {h low : ℕ} {l r : Tree} → Canonical (suc h) low (node (suc h) low l r) → T (ltb s (newest (node (suc h) low l r)) && meets f low (low + 2 ^ suc h))
      → T (not (descend (walk s f l) (walk s f r)).found) → 1 ≤ marks low (low + 2 ^ suc h) ks
  unfolding walk
  busy {h} {low} {l} {r} fit t n = ⊎_elim (λ (i : 1 ≤ marks low (low + 2 ^ suc h) ks). i)
      (λ (i : marks low (low + 2 ^ suc h) ks < 1).
      let go = ltb s (newest (node (suc h) low l r)) in
      let touch = meets f low (low + 2 ^ suc h) in
      let x = newest_leaf s (node (suc h) low l r) (ltb→lt s (newest (node (suc h) low l r)) (left_of_lem go touch t)) in
      let k = rising_mem (canonical_rising fit) x.1 in
      let c = covers f ks mk low (low + 2 ^ suc h) (right_of_lem go touch t) i x.0.key k.0 k.1 in
      absurd (T_not (descend (walk s f l) (walk s f r)).found n (rw (is_true (go && touch) t) at (walk_complete s f fit x.1 (hits_of s f x.0 x.2 c)))))
      (le_or_lt 1 (marks low (low + 2 ^ suc h) ks))

  -- the looks at a tree of the shape, by its height and the marks in its range
  few : {h low : ℕ} {t : Tree} → Canonical h low t → Few (walk s f t) h (marks low (low + 2 ^ h) ks)
  unfolding walk
  few none = record { quiet = λ _. omega arith; most = omega arith }
  few (one a b) = record { quiet = λ _. omega arith; most = omega arith }
  few (two {h = h} {low = low} {l = l} {r = r} a b x y) = rw (split ks h low)
      (if_ind (λ (w : Walked). Few w (suc h) (marks low (low + 2 ^ h) ks + marks (low + 2 ^ h) (low + 2 ^ h + 2 ^ h) ks))
      (ltb s (newest (node (suc h) low l r)) && meets f low (low + 2 ^ suc h))
      (λ t. few_descend (few x) (few y) (λ n. rw (split ks h low) at (busy (two a b x y) t n)))
      (λ _. few_stop (suc h) (marks low (low + 2 ^ h) ks + marks (low + 2 ^ h) (low + 2 ^ h + 2 ^ h) ks)))
  few (on_left {h = h} {low = low} x) = rw (split ks h low) (few_left (marks (low + 2 ^ h) (low + 2 ^ h + 2 ^ h) ks) (few x))
  few (on_right {h = h} {low = low} x) = rw (split ks h low) (few_right (marks low (low + 2 ^ h) ks) (few x))

  -- at most 65 looks, and 64 for each mark
  pub looks_bound : {low : ℕ} {t : Tree} → Canonical 32 low t → (walk s f t).looks ≤ 65 + 64 * length ks
  looks_bound {low} {t} x = omega (arith, (few x).most, marks_all low (low + 2 ^ 32) ks)

-- FOR A RECORD AND A STATE

-- what bounds the walk's looks bounds the looks reported
looks_for_bound : (w n : ℕ) (a : Verdict) → w ≤ n → looks_for w a ≤ n
looks_for_bound w n committed h = h
looks_for_bound w n conflict h = h
looks_for_bound w n too_old h = omega arith
looks_for_bound w n no_room h = h
looks_for_bound w n malformed h = omega arith
looks_for_bound w n ahead h = omega arith
looks_for_bound w n positions_used_up h = omega arith

-- R37, for any well-formed record and any state
pub looks_limit : {S : State} {r : Rec} → Lawful S → Valid r → looks_of S (some r) ≤ 65 + 64 * (length r.points + 2 * length r.scans)
unfolding looks_of
looks_limit {S} {r} l v = looks_for_bound (walk_of S (some r)).looks (65 + 64 * (length r.points + 2 * length r.scans)) (verdict S (some r))
    (rw (← (marks_length r)) (looks_bound r.snapshot (reach r) (marks_of r) (marks_marked r (apart_ordered 0 r.scans v.apart)) (tree_of_canonical 32 0 l.rising)))

-- R37 of the fullest record: 73,793
pub looks_fullest : {S : State} {r : Rec} → Lawful S → Valid r → looks_of S (some r) ≤ 73793
looks_fullest l v = omega (arith, looks_limit l v, v.few_points, v.few_scans)

-- and of the fullest of version 1: 5,185
pub looks_fullest_1 : {S : State} {r : Rec} → Lawful S → Valid r → version_of r ≡ 1 → looks_of S (some r) ≤ 5185
looks_fullest_1 {S} {r} l v e =
    by_version (length r.points) (length r.scans) (λ p c _. omega (arith, looks_limit l v)) (λ f. absurd (omega (arith, sym e ∙ f)))
