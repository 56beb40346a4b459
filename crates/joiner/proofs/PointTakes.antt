-- What `take_point` meets at each return: the runs behind the point that was taken, or that they cannot be joined.
-- Assumes nothing.
use Prim.Native.Nat.{ℕ, ◌+◌, ◌-◌, ◌≤◌, ◌<◌}
use mathlib.Core.Bool.{Bool, true, false, ◌&&◌, ◌||◌}
use mathlib.Core.Path.{◌≡◌, refl, sym, ap, ◌∙◌}
use mathlib.Core.List.{List, ◌∷◌}
use native.Mathlib.Omega.{arith}
use lib.ListN.{length}
use Rattle.std.specs.Prelude.{Option, Some, None}
use Rattle.record.specs.declared.point.Point.{Point}
use Rattle.record.specs.Record.{key_of, size_of}
use Rattle.record.specs.Parse.{Parsed, also, point_items, step_point, is_took, list_of}
use Rattle.record.specs.Steps.{point_within}
use Rattle.record.proofs.Cases.{took_also, place_also, list_also}
use Rattle.writer.proofs.NamedLaws.{PointsInOrder}
use Rattle.joiner.specs.declared.left.Left.{Left}
use Rattle.joiner.specs.Joined.{puts_or_deletes, entry_of, joined_points, scans_key}
use Rattle.joiner.specs.Left.{run_left, behind}
use Rattle.joiner.specs.PointSteps.{clashes_named, clashes_scanned, PointsJoin, PointNext, NextPoint}
use Rattle.joiner.proofs.LeftRuns.{left_none, left_bad, left_first}
use Rattle.joiner.proofs.PointJoin.{joined_first, joined_second, joined_both, key_entry, clash_first, clash_second, clash_both, clash_here}
use Rattle.joiner.proofs.PointRuns.{order_also, run_order}
use Rattle.joiner.proofs.ScansAhead.{clash_not_below}

-- A POINT IN FRONT OF A RUN

module _ (p : Point) (x : Parsed Point) (t : is_took (also p x) ≡ true) where
  -- the run behind it was taken
  behind_took : is_took x ≡ true
  behind_took = sym (took_also p x) ∙ t

  -- its list
  front_list : list_of (also p x) ≡ p ∷ list_of x
  front_list = list_also p x behind_took

-- a's first point lies below all of b's
next_a : (p : Point) (x y : Parsed Point) (changed : Bool) → PointsInOrder (key_of p + 1) (list_of x) → PointsInOrder (key_of p + 1) (list_of y) → changed ≡ puts_or_deletes p
    → PointNext (also p x) y x y p changed
next_a p x y changed r o c =
    record {
      same_a = sym (took_also p x);
      same_b = refl;
      end_a = sym (place_also p x);
      end_b = refl;
      joined = λ t u. ap (λ (l : List Point). joined_points l (list_of y)) (front_list p x t) ∙ joined_first p (list_of x) (list_of y) o;
      named = λ t u. ap (λ (l : List Point). clashes_named l (list_of y)) (front_list p x t) ∙ clash_first p (list_of x) (list_of y) o;
      scanned = λ t cs. ap (λ (l : List Point). clashes_scanned l cs) (front_list p x t) ∙ ap (λ (b : Bool). (b && scans_key (key_of p) cs) || clashes_scanned (list_of x) cs) (sym c);
      passed = λ cs. clash_not_below (key_of p) (key_of p + 1) (list_of x) cs (omega arith) r;
    }

-- b's first point lies below all of a's
next_b : (q : Point) (x y : Parsed Point) → PointsInOrder (key_of q + 1) (list_of x) → PointsInOrder (key_of q + 1) (list_of y) → PointNext x (also q y) x y q false
next_b q x y o r =
    record {
      same_a = refl;
      same_b = sym (took_also q y);
      end_a = refl;
      end_b = sym (place_also q y);
      joined = λ t u. ap (joined_points (list_of x)) (front_list q y u) ∙ joined_second q (list_of x) (list_of y) o r;
      named = λ t u. ap (clashes_named (list_of x)) (front_list q y u) ∙ clash_second (key_of q + 1) q (list_of x) (list_of y) (omega arith) o;
      scanned = λ t cs. refl;
      passed = λ cs. clash_not_below (key_of q) (key_of q + 1) (list_of x) cs (omega arith) o;
    }

-- both first points have one key, and a's is a read
next_both : (p q e : Point) (x y : Parsed Point) → key_of p ≡ key_of q → puts_or_deletes p ≡ false → e ≡ entry_of p q
    → PointsInOrder (key_of p + 1) (list_of x) → PointsInOrder (key_of q + 1) (list_of y) → PointNext (also p x) (also q y) x y e false
next_both p q e x y k w is o r =
    record {
      same_a = sym (took_also p x);
      same_b = sym (took_also q y);
      end_a = sym (place_also p x);
      end_b = sym (place_also q y);
      joined = λ t u. ap (λ (l : List Point). joined_points l (list_of (also q y))) (front_list p x t) ∙ ap (joined_points (p ∷ list_of x)) (front_list q y u)
          ∙ joined_both p q (list_of x) (list_of y) k r ∙ ap (λ (f : Point). f ∷ joined_points (list_of x) (list_of y)) (sym is);
      named = λ t u. ap (λ (l : List Point). clashes_named l (list_of (also q y))) (front_list p x t) ∙ ap (clashes_named (p ∷ list_of x)) (front_list q y u)
          ∙ clash_both p q (list_of x) (list_of y) k w o;
      scanned = λ t cs. ap (λ (l : List Point). clashes_scanned l cs) (front_list p x t) ∙ rw w;
      passed = λ cs. clash_not_below (key_of e) (key_of p + 1) (list_of x) cs (omega (arith, ap key_of is, key_entry p q k)) o;
    }

-- THE RETURNS

-- a run without points lies above any key
order_none : (low : ℕ) (bs : List ℕ) (l : Left) → l.count ≡ 0 → PointsInOrder low (list_of (run_left point_items bs l))
order_none low bs l e = rw (left_none point_items bs l e) tt

-- a run with a first point lies above any key below it
order_first : (low : ℕ) (bs : List ℕ) (l : Left) (p : Point) → run_left point_items bs l ≡ also p (run_left point_items bs (behind point_items l p)) → low ≤ key_of p
    → PointsInOrder low (list_of (run_left point_items bs l))
order_first low bs l p e h =
    rw e (order_also low p (run_left point_items bs (behind point_items l p)) h (run_order (l.count - 1) (key_of p + 1) bs (l.at + size_of p)))

module _ (a : List ℕ) (l : Left) (b : List ℕ) (k : Left) where
  -- a's next is not well formed
  pub bad_a : (r : Option Point) → r ≡ step_point l.least a l.at → r ≡ None → (l.count ≡ 0 → ⊥) → PointsJoin (run_left point_items a l) (run_left point_items b k) → ⊥
  bad_a r is e n j = left_bad point_items a l r is n e j.took_a

  -- b's is not well formed
  pub bad_b : (r : Option Point) → r ≡ step_point k.least b k.at → r ≡ None → (k.count ≡ 0 → ⊥) → PointsJoin (run_left point_items a l) (run_left point_items b k) → ⊥
  bad_b r is e n j = left_bad point_items b k r is n e j.took_b

  -- nor is it where a has no point left
  pub bad_last_b : (r : Option Point) → r ≡ step_point k.least b k.at → r ≡ None → 0 < l.count + k.count → l.count ≡ 0 → PointsJoin (run_left point_items a l) (run_left point_items b k) → ⊥
  bad_last_b r is e h z = bad_b r is e (λ n. omega arith)

  -- b's point is the next, below all of a's
  from_b : (r : Option Point) (q : Point) (k' : Left) → r ≡ step_point k.least b k.at → r ≡ Some q → (k.count ≡ 0 → ⊥) → k' ≡ behind point_items k q → l.at ≤ length a
      → PointsInOrder (key_of q + 1) (list_of (run_left point_items a l)) → NextPoint a l b k (record { point = q; changed = false }) l k'
  from_b r q k' is found more rest w o = rw rest (record {
    within_a = w;
    within_b = point_within k.least b k.at q (sym is ∙ found);
    fewer = omega arith;
    next = rw (left_first point_items b k r is more q found)
        (next_b q (run_left point_items a l) (run_left point_items b (behind point_items k q)) o (run_order (k.count - 1) (key_of q + 1) b (k.at + size_of q)));
  })

  -- a has no point left
  pub take_last_b : (r : Option Point) (q : Point) (k' : Left) → r ≡ step_point k.least b k.at → r ≡ Some q → k' ≡ behind point_items k q → l.at ≤ length a → 0 < l.count + k.count → l.count ≡ 0
      → NextPoint a l b k (record { point = q; changed = false }) l k'
  take_last_b r q k' is found rest w h z = from_b r q k' is found (λ n. omega arith) rest w (order_none (key_of q + 1) a l z)

  module _ (r : Option Point) (p : Point) (is : r ≡ step_point l.least a l.at) (found : r ≡ Some p) (more : l.count ≡ 0 → ⊥) (changed : Bool) (writes : changed ≡ puts_or_deletes p) where
    -- a's run
    run_a : run_left point_items a l ≡ also p (run_left point_items a (behind point_items l p))
    run_a = left_first point_items a l r is more p found

    -- what is behind its first
    order_a : PointsInOrder (key_of p + 1) (list_of (run_left point_items a (behind point_items l p)))
    order_a = run_order (l.count - 1) (key_of p + 1) a (l.at + size_of p)

    -- it stands within the bytes
    behind_a : l.at + size_of p ≤ length a
    behind_a = point_within l.least a l.at p (sym is ∙ found)

    -- a's point is the next, below all of b's
    from_a : (l' : Left) → l' ≡ behind point_items l p → k.at ≤ length b → PointsInOrder (key_of p + 1) (list_of (run_left point_items b k))
        → NextPoint a l b k (record { point = p; changed = changed }) l' k
    from_a l' rest w o = rw rest (record {
      within_a = behind_a;
      within_b = w;
      fewer = omega arith;
      next = rw run_a (next_a p (run_left point_items a (behind point_items l p)) (run_left point_items b k) changed order_a o writes);
    })

    -- b has no point left
    pub take_last_a : (l' : Left) → l' ≡ behind point_items l p → k.at ≤ length b → k.count ≡ 0 → NextPoint a l b k (record { point = p; changed = changed }) l' k
    take_last_a l' rest w z = from_a l' rest w (order_none (key_of p + 1) b k z)

    module _ (s : Option Point) (q : Point) (is_b : s ≡ step_point k.least b k.at) (found-b : s ≡ Some q) (more-b : k.count ≡ 0 → ⊥)
        (x y : ℕ) (is-x : x ≡ key_of p) (is-y : y ≡ key_of q) where
      -- b's run
      run_b : run_left point_items b k ≡ also q (run_left point_items b (behind point_items k q))
      run_b = left_first point_items b k s is_b more-b q found-b

      -- a's key is lower
      pub take_a : (l' : Left) → l' ≡ behind point_items l p → k.at ≤ length b → x < y → NextPoint a l b k (record { point = p; changed = changed }) l' k
      take_a l' rest w h = from_a l' rest w (order_first (key_of p + 1) b k q run_b (omega (arith, is-x, is-y)))

      -- b's key is lower
      pub take_b : (k' : Left) → k' ≡ behind point_items k q → l.at ≤ length a → y < x → NextPoint a l b k (record { point = q; changed = false }) l k'
      take_b k' rest w h = from_b s q k' is_b found-b more-b rest w (order_first (key_of q + 1) a l p run_a (omega (arith, is-x, is-y)))

      module _ (not_less : y ≤ x) (not_more : x ≤ y) where
        -- neither is
        same : key_of p ≡ key_of q
        same = omega (arith, is-x, is-y)

        -- a puts or deletes it
        pub take_clash : changed ≡ true → PointsJoin (run_left point_items a l) (run_left point_items b k) → ⊥
        take_clash c j =
            let x : Parsed Point = run_left point_items a (behind point_items l p) in
            let y : Parsed Point = run_left point_items b (behind point_items k q) in
            let t : is_took (also p x) ≡ true = ap is_took (sym run_a) ∙ j.took_a in
            let u : is_took (also q y) ≡ true = ap is_took (sym run_b) ∙ j.took_b in
            let e : clashes_named (list_of (run_left point_items a l)) (list_of (run_left point_items b k)) ≡ true =
            rw (run_a, run_b, front_list p x t, front_list q y u) (clash_here p q (list_of x) (list_of y) same (sym writes ∙ c)) in
            let z = j.clear in
            cc

        -- a reads it: the entry chosen is the next
        pub take_both : (e : Point) (l' k' : Left) → changed ≡ false → e ≡ entry_of p q → l' ≡ behind point_items l p → k' ≡ behind point_items k q
            → NextPoint a l b k (record { point = e; changed = false }) l' k'
        take_both e l' k' c is_e rest-a rest-b = rw (rest-a, rest-b) (record {
          within_a = behind_a;
          within_b = point_within k.least b k.at q (sym is_b ∙ found-b);
          fewer = omega arith;
          next = rw (run_a, run_b)
              (next_both p q e (run_left point_items a (behind point_items l p)) (run_left point_items b (behind point_items k q)) same (sym writes ∙ c) is_e
              order_a (run_order (k.count - 1) (key_of q + 1) b (k.at + size_of q)));
        })
