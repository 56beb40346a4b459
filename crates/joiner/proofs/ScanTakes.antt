-- What `take_scan` meets at each return: the first of the last scans of a record, and the run behind it. A run that was not taken is left alone: only
-- that it stays so is said. Assumes nothing.
use Prim.Native.Nat.{ℕ, zero, suc, ◌+◌, ◌-◌, ◌≤◌, ◌<◌}
use mathlib.Core.Path.{◌≡◌, refl, sym, ap, ◌∙◌, subst}
use mathlib.Core.Bool.{true}
use mathlib.Core.List.{List}
use native.Mathlib.Omega.{arith}
use native.Mathlib.Numerals.{sub-one}
use lib.ListN.{length}
use Rattle.std.specs.Prelude.{Option, Some, None}
use Rattle.record.specs.declared.point.Scan.{Scan}
use Rattle.record.specs.Parse.{Parsed, bad, took, also, after, scan_items, step_scan, parse_run, parse_scans, is_took, list_of}
use Rattle.writer.proofs.NamedLaws.{ScansInOrder}
use Rattle.record.specs.Steps.{scan_within}
use Rattle.joiner.specs.declared.left.Left.{Left}
use Rattle.joiner.specs.Left.{run_left, behind}
use Rattle.joiner.specs.ScanSteps.{BothTaken, StartsFrom, from_a, from_b, NextScan}
use Rattle.joiner.proofs.LastScans.{scan_found}
use Rattle.joiner.proofs.LeftRuns.{left_none, left_bad, left_first}

-- A SCAN, AND THE RUN BEHIND IT

-- a scan that was found keeps the rules
pub scan_kept : (floor : ℕ) (bs : List ℕ) (at : ℕ) (c : Scan) → step_scan floor bs at ≡ Some c → (floor ≤ c.low) × (c.low ≤ c.high)
scan_kept floor bs at c e = let f = scan_found floor bs at c e in (f.from, f.upright)

-- a scan in front of scans in order
order_also : (floor : ℕ) (c : Scan) (x : Parsed Scan) → floor ≤ c.low → c.low ≤ c.high → ScansInOrder (c.high + 1) (list_of x) → ScansInOrder floor (list_of (also c x))
order_also floor c bad a b o = tt
order_also floor c (took cs at) a b o = (a, b, o)

-- the scans after a step
order_after : (floor : ℕ) (s : Option Scan) (f : Scan → Parsed Scan) → ((c : Scan) → s ≡ Some c → (floor ≤ c.low) × (c.low ≤ c.high))
    → ((c : Scan) → ScansInOrder (c.high + 1) (list_of (f c))) → ScansInOrder floor (list_of (after s f))
order_after floor None f k o = tt
order_after floor (Some c) f k o = order_also floor c (f c) (k c refl).0 (k c refl).1 (o c)

-- the scans of a run are in order
pub scans_in_order : (n floor : ℕ) (bs : List ℕ) (at : ℕ) → ScansInOrder floor (list_of (parse_scans n floor bs at))
unfolding parse_run
scans_in_order zero floor bs at = tt
scans_in_order (suc n) floor bs at =
    order_after floor (step_scan floor bs at) (λ c. parse_scans n (c.high + 1) bs (at + 8)) (λ c e. scan_kept floor bs at c e) (λ c. scans_in_order n (c.high + 1) bs (at + 8))

-- a run with a scan in front starts with it
starts_also : (low : ℕ) (c : Scan) (x : Parsed Scan) → low ≤ c.low → StartsFrom low (list_of (also c x))
starts_also low c bad h = tt
starts_also low c (took cs at) h = h

-- TAKE_SCAN

module _ (bs : List ℕ) (l : Left) (low : ℕ) where
  -- a run with nothing left has no scan
  starts_none : l.count ≡ 0 → StartsFrom low (list_of (run_left scan_items bs l))
  starts_none e = rw (left_none scan_items bs l e) tt

  module _ (r : Option Scan) (c : Scan) (is : r ≡ step_scan l.least bs l.at) (found : r ≡ Some c) (more : l.count ≡ 0 → ⊥) where
    -- one with a scan starts with it
    starts_first : low ≤ c.low → StartsFrom low (list_of (run_left scan_items bs l))
    starts_first h = rw (left_first scan_items bs l r is more c found) (starts_also low c (run_left scan_items bs (behind scan_items l c)) h)

module _ (a : List ℕ) (l : Left) (b : List ℕ) (k : Left) where
  -- a's next is not well formed
  pub take_bad_a : (r : Option Scan) → r ≡ step_scan l.least a l.at → r ≡ None → (l.count ≡ 0 → ⊥) → BothTaken (run_left scan_items a l) (run_left scan_items b k) → ⊥
  take_bad_a r is e n w = left_bad scan_items a l r is n e w.0

  -- b's next is not well formed
  pub take_bad_b : (r : Option Scan) → r ≡ step_scan k.least b k.at → r ≡ None → (k.count ≡ 0 → ⊥) → BothTaken (run_left scan_items a l) (run_left scan_items b k) → ⊥
  take_bad_b r is e n w = left_bad scan_items b k r is n e w.1

  -- nor is it where a has none left
  pub take_bad_last : (r : Option Scan) → r ≡ step_scan k.least b k.at → r ≡ None → l.count ≡ 0 → 0 < l.count + k.count → BothTaken (run_left scan_items a l) (run_left scan_items b k) → ⊥
  take_bad_last r is e z h = take_bad_b r is e (λ n. omega arith)

  -- b's next, where a starts no lower
  b_next : (r : Option Scan) (c : Scan) (k' : Left) → r ≡ step_scan k.least b k.at → r ≡ Some c → k' ≡ behind scan_items k c → l.at ≤ length a → (k.count ≡ 0 → ⊥)
      → StartsFrom c.low (list_of (run_left scan_items a l)) → NextScan a l b k c l k'
  b_next r c k' is e rest w n s = rw rest (record {
    within_a = w;
    within_b = scan_within k.least b k.at c (sym is ∙ e);
    fewer = omega arith;
    whole = (scan_kept k.least b k.at c (sym is ∙ e)).1;
    next = from_b (left_first scan_items b k r is n c e) refl s;
  })

  -- a's next, where b starts no lower
  a_next : (r : Option Scan) (c : Scan) (l' : Left) → r ≡ step_scan l.least a l.at → r ≡ Some c → l' ≡ behind scan_items l c → k.at ≤ length b → (l.count ≡ 0 → ⊥)
      → StartsFrom c.low (list_of (run_left scan_items b k)) → NextScan a l b k c l' k
  a_next r c l' is e rest w n s = rw rest (record {
    within_a = scan_within l.least a l.at c (sym is ∙ e);
    within_b = w;
    fewer = omega arith;
    whole = (scan_kept l.least a l.at c (sym is ∙ e)).1;
    next = from_a (left_first scan_items a l r is n c e) refl s;
  })

  -- a has none left
  pub take_last_b : (r : Option Scan) (c : Scan) (k' : Left) → r ≡ step_scan k.least b k.at → r ≡ Some c → k' ≡ behind scan_items k c → l.at ≤ length a → l.count ≡ 0 → 0 < l.count + k.count
      → NextScan a l b k c l k'
  take_last_b r c k' is e rest w z h = b_next r c k' is e rest w (λ n. omega arith) (starts_none a l c.low z)

  -- b has none left
  pub take_last_a : (r : Option Scan) (c : Scan) (l' : Left) → r ≡ step_scan l.least a l.at → r ≡ Some c → l' ≡ behind scan_items l c → k.at ≤ length b → (l.count ≡ 0 → ⊥) → k.count ≡ 0
      → NextScan a l b k c l' k
  take_last_a r c l' is e rest w n z = a_next r c l' is e rest w n (starts_none b k c.low z)

  module _ (r : Option Scan) (c : Scan) (is-a : r ≡ step_scan l.least a l.at) (next_a : r ≡ Some c) (more-a : l.count ≡ 0 → ⊥)
      (q : Option Scan) (d : Scan) (is_b : q ≡ step_scan k.least b k.at) (next_b : q ≡ Some d) (more-b : k.count ≡ 0 → ⊥) where
    -- a's next starts no higher
    pub take_first_a : (l' : Left) → l' ≡ behind scan_items l c → k.at ≤ length b → c.low ≤ d.low → NextScan a l b k c l' k
    take_first_a l' rest w h = a_next r c l' is-a next_a rest w more-a (starts_first b k c.low q d is_b next_b more-b h)

    -- b's next starts lower
    pub take_first_b : (k' : Left) → k' ≡ behind scan_items k d → l.at ≤ length a → d.low < c.low → NextScan a l b k d l k'
    take_first_b k' rest w h = b_next q d k' is_b next_b rest w more-b (starts_first a l d.low r c is-a next_a more-a (omega arith))
