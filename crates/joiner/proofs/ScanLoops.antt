-- The turns of the two loops over scans, said of what the code knows: what `take_scan` gave, how the held scan grew, and what is left of both records.
-- The first loop keeps how many scans there are in all; the second keeps all the stores on the output as it was.
-- Assumes nothing.
use Prim.Native.Nat.{ℕ, ◌+◌, ◌*◌, ◌-◌, ◌^◌, ◌≤◌, ◌<◌}
use mathlib.Core.Path.{◌≡◌, refl, sym, ap, ◌∙◌, subst}
use mathlib.Core.Bool.{Bool, true}
use mathlib.Core.List.{List, [], ◌∷◌, ◌++◌, append_assoc}
use native.Mathlib.Omega.{arith}
use lib.ListN.{length, length-append}
use lib.Seq.{sets}
use Rattle.std.specs.Prelude.{Option, Some, None}
use Rattle.std.specs.Int.{from_bool}
use Rattle.std.specs.Option.{is_some}
use Rattle.words.specs.Laws.{sets_append}
use Rattle.record.specs.declared.point.Scan.{Scan}
use Rattle.record.specs.Record.{scan_bytes, scans_bytes}
use Rattle.record.specs.Parse.{took, scan_items, is_took, list_of}
use Rattle.joiner.specs.declared.left.Left.{Left}
use Rattle.joiner.specs.Left.{run_left}
use Rattle.joiner.specs.ScanSteps.{BothTaken, NextScan, ScanTaken, held_scans, ended, grown}
use Rattle.joiner.proofs.LeftRuns.{left_none}
use Rattle.joiner.proofs.ScanJoin.{to_come, come_last}
use Rattle.joiner.proofs.ScanHeld.{held_few, held_count}
use Rattle.joiner.proofs.ScanTurns.{Held, still_count, count_none, turn_held, turn_both, turn_come, turn_count}

-- what is to come of the held scan and of what is left of both records
abbrev pub left_to_come : Option Scan → List ℕ → Left → List ℕ → Left → List Scan
left_to_come held a l b k = to_come held (list_of (run_left scan_items a l)) (list_of (run_left scan_items b k))

-- scans one behind the other
bytes_append : (cs ds : List Scan) → scans_bytes (cs ++ ds) ≡ scans_bytes cs ++ scans_bytes ds
bytes_append [] ds = refl
bytes_append (c ∷ cs) ds = ap (λ (l : List ℕ). scan_bytes c ++ l) (bytes_append cs ds) ∙ sym (append_assoc (scan_bytes c) (scans_bytes cs) (scans_bytes ds))

-- one more at most fits
pub count_fits : (scans : ℕ) (h : Option Scan) (left x y : ℕ) (o : Bool) (n : ℕ) → o ≡ is_some h → n ≡ from_bool o → scans + left ≤ x + y → x ≤ 64 → y ≤ 64 → scans + n < 2 ^ 64
count_fits scans h left x y o n i j e p q = omega (arith, held_few h, held_count h o n i j)

-- A TURN

module _ (a : List ℕ) (l : Left) (b : List ℕ) (k : Left) (r : Option Scan) (l' k' : Left) (taken : ScanTaken a l b k r l' k') where
  -- no scan was taken
  pub loop_no : r ≡ None → BothTaken (run_left scan_items a l) (run_left scan_items b k) → ⊥
  loop_no e = subst (λ (z : Option Scan). ScanTaken a l b k z l' k') e taken

  -- so there is nothing to count
  pub loop_none : (end : Option ℕ) (scans : ℕ) (held : Option Scan) → end ≡ still_count scans held (run_left scan_items a l) (run_left scan_items b k) → r ≡ None → None ≡ end
  loop_none end scans held e z = count_none end scans held (run_left scan_items a l) (run_left scan_items b k) e (loop_no z)

  module _ (c : Scan) (is : r ≡ Some c) where
    -- a scan was taken
    loop_next : NextScan a l b k c l' k'
    loop_next = subst (λ (z : Option Scan). ScanTaken a l b k z l' k') is taken

    -- fewer are left
    pub loop_fewer : l'.count + k'.count < l.count + k.count
    loop_fewer = omega (arith, loop_next.fewer)

    pub loop_left : (n : ℕ) → l.count + k.count ≤ n → l'.count + k'.count ≤ n
    loop_left n h = omega (arith, loop_next.fewer)

    -- and they stand within the bytes
    pub loop_within_a : l'.at ≤ length a
    loop_within_a = loop_next.within_a

    pub loop_within_b : k'.at ≤ length b
    loop_within_b = loop_next.within_b

    -- no more are counted than were taken
    pub loop_bound : (scans : ℕ) (h : Option Scan) (o : Bool) (n m : ℕ) → o ≡ is_some h → n ≡ from_bool o → scans + (l.count + k.count) ≤ m
        → scans + n + (l'.count + k'.count) ≤ m
    loop_bound scans h o n m i j e = omega (arith, held_few h, held_count h o n i j, loop_next.fewer)

    module _ (held : Option Scan) (known : Held held (run_left scan_items a l) (run_left scan_items b k)) (h : Scan) (grows : h ≡ grown held c) where
      -- what is held next
      pub loop_held : Held (Some h) (run_left scan_items a l') (run_left scan_items b k')
      loop_held = turn_held held (run_left scan_items a l) (run_left scan_items b k) (run_left scan_items a l') (run_left scan_items b k') c h known loop_next.next grows loop_next.whole

      -- what is counted then
      pub loop_count : (end : Option ℕ) (scans : ℕ) (over : Option Scan) (o : Bool) (n : ℕ) → end ≡ still_count scans held (run_left scan_items a l) (run_left scan_items b k) → over ≡ ended held c.low
          → o ≡ is_some over → n ≡ from_bool o → end ≡ still_count (scans + n) (Some h) (run_left scan_items a l') (run_left scan_items b k')
      loop_count end scans over o n e f i j =
          turn_count held (run_left scan_items a l) (run_left scan_items b k) (run_left scan_items a l') (run_left scan_items b k') c h known loop_next.next grows end scans e
          ∙ ap (λ (m : ℕ). still_count (scans + m) (Some h) (run_left scan_items a l') (run_left scan_items b k')) (ap (λ (z : Option Scan). length (held_scans z)) (sym f) ∙ sym (held_count over o n i j))

      module _ (both : BothTaken (run_left scan_items a l) (run_left scan_items b k)) where
        -- both are still well formed
        pub loop_both : BothTaken (run_left scan_items a l') (run_left scan_items b k')
        loop_both = turn_both held (run_left scan_items a l) (run_left scan_items b k) (run_left scan_items a l') (run_left scan_items b k') c h known loop_next.next grows both

        -- the bytes of what is to come
        loop_bytes : scans_bytes (left_to_come held a l b k)
            ≡ scans_bytes (held_scans (ended held c.low)) ++ scans_bytes (left_to_come (Some h) a l' b k')
        loop_bytes =
            ap scans_bytes (turn_come held (run_left scan_items a l) (run_left scan_items b k) (run_left scan_items a l') (run_left scan_items b k') c h known loop_next.next grows loop_both)
            ∙ bytes_append (held_scans (ended held c.low)) (left_to_come (Some h) a l' b k')

        -- how many there are
        loop_size : length (scans_bytes (left_to_come held a l b k))
            ≡ length (scans_bytes (held_scans (ended held c.low))) + length (scans_bytes (left_to_come (Some h) a l' b k'))
        loop_size =
            ap length loop_bytes ∙ length-append (scans_bytes (held_scans (ended held c.low))) (scans_bytes (left_to_come (Some h) a l' b k'))

        module _ (at : ℕ) (o : Option Scan) (is_o : o ≡ ended held c.low) where
          -- the rest ends where the run ends
          pub loop_place : (e p : ℕ) → e ≡ at + length (scans_bytes (left_to_come held a l b k)) → p ≡ at + length (scans_bytes (held_scans o))
              → e ≡ p + length (scans_bytes (left_to_come (Some h) a l' b k'))
          loop_place e p x y = omega (arith, loop_size, ap (λ (z : Option Scan). length (scans_bytes (held_scans z))) is_o)

          -- the stores that are left
          pub loop_stores : (all s q : List ℕ) (p : ℕ) → all ≡ sets s at (scans_bytes (left_to_come held a l b k))
              → q ≡ sets s at (scans_bytes (held_scans o)) → p ≡ at + length (scans_bytes (held_scans o))
              → all ≡ sets q p (scans_bytes (left_to_come (Some h) a l' b k'))
          loop_stores all s q p x y z =
              x ∙ ap (sets s at) loop_bytes
              ∙ sets_append (scans_bytes (held_scans (ended held c.low))) (scans_bytes (left_to_come (Some h) a l' b k')) s at ∙ rw (y, z, is_o)

    -- there is room for what is over now
    pub loop_room : (held : Option Scan) → Held held (run_left scan_items a l) (run_left scan_items b k) → BothTaken (run_left scan_items a l) (run_left scan_items b k) → (o : Option Scan) → o ≡ ended held c.low
        → (at e m n : ℕ) → e ≡ at + length (scans_bytes (left_to_come held a l b k)) → e ≤ n → m ≡ n
        → at + length (scans_bytes (held_scans o)) ≤ m
    loop_room held known both o is_o at e m n x y z = omega (arith, loop_size held known (grown held c) refl both, ap (λ (w : Option Scan). length (scans_bytes (held_scans w))) is_o)

-- NOTHING IS LEFT

module _ (a : List ℕ) (l : Left) (b : List ℕ) (k : Left) (held : Option Scan) (none : l.count + k.count ≤ 0) where
  -- the held scan is what is to come
  end_a : run_left scan_items a l ≡ took [] l.at
  end_a = left_none scan_items a l (omega arith)

  end_b : run_left scan_items b k ≡ took [] k.at
  end_b = left_none scan_items b k (omega arith)

  last_come : left_to_come held a l b k ≡ held_scans held
  last_come = rw (end_a, end_b) (come_last held)

  -- the count
  pub last_count : (end : Option ℕ) (scans : ℕ) (o : Bool) (n : ℕ) → end ≡ still_count scans held (run_left scan_items a l) (run_left scan_items b k) → o ≡ is_some held → n ≡ from_bool o → Some (scans + n) ≡ end
  last_count end scans o n e i j =
      let size : length (left_to_come held a l b k) ≡ n = ap length last_come ∙ sym (held_count held o n i j) in
      sym (e ∙ simp (ap is_took end_a, ap is_took end_b, size))

  module _ (at : ℕ) where
    -- there is room for it
    pub last_room : (e m n : ℕ) → e ≡ at + length (scans_bytes (left_to_come held a l b k)) → e ≤ n → m ≡ n → at + length (scans_bytes (held_scans held)) ≤ m
    last_room e m n x y z = omega (arith, ap (λ (l : List Scan). length (scans_bytes l)) last_come)

    -- its stores are those that are left
    pub last_stores : (all o q : List ℕ) → all ≡ sets o at (scans_bytes (left_to_come held a l b k)) → q ≡ sets o at (scans_bytes (held_scans held)) → q ≡ all
    last_stores all o q x y = y ∙ ap (λ (l : List Scan). sets o at (scans_bytes l)) (sym last_come) ∙ sym x
