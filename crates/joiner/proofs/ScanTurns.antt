-- What the two loops over the scans of both records meet at each turn. What is left of a run is as well formed as the run; what is still to come is, after
-- a turn, one scan less if the held one is over, else the same. The first loop counts it, the second stores it.
-- Assumes nothing.
use Prim.Native.Nat.{ℕ, ◌+◌, ◌*◌, ◌-◌, ◌≤◌}
use mathlib.Core.Path.{◌≡◌, refl, sym, ap, ◌∙◌, subst}
use mathlib.Core.Bool.{true, ◌&&◌}
use mathlib.Core.List.{List, ◌∷◌, ◌++◌}
use native.Mathlib.Omega.{arith}
use lib.ListN.{length, length-append}
use lib.Dec.{ltb}
use Rattle.std.specs.Prelude.{if◌then◌else◌, Option, Some, None}
use Rattle.record.specs.declared.point.Scan.{Scan}
use Rattle.record.specs.Parse.{Parsed, bad, took, also, is_took, list_of, scan_items}
use Rattle.record.proofs.Cases.{by_case, and_split, took_also, list_also}
use Rattle.writer.proofs.NamedLaws.{ScansInOrder}
use Rattle.joiner.specs.declared.left.Left.{Left}
use Rattle.joiner.specs.Left.{run_left}
use Rattle.joiner.specs.ScanSteps.{BothTaken, scans_count, ScanNext, from_a, from_b, held_scans, ended, grown}
use Rattle.joiner.proofs.ScanJoin.{order_lower, order_from, to_come, Whole, low_held, Turn, turn_a, turn_b}
use Rattle.joiner.proofs.ScanTakes.{scans_in_order}

-- THE HELD SCAN AND WHAT IS LEFT

-- the held scan starts no higher than what is left of both runs
pub record Held (held : Option Scan) (x y : Parsed Scan) : Type 0 where
  pub whole : Whole held
  pub order_a : ScansInOrder (low_held held) (list_of x)
  pub order_b : ScansInOrder (low_held held) (list_of y)

-- at first nothing is held
pub held_first : (a : List ℕ) (l : Left) (b : List ℕ) (k : Left) → Held None (run_left scan_items a l) (run_left scan_items b k)
held_first a l b k = record {
  whole = tt;
  order_a = order_lower l.least 0 (list_of (run_left scan_items a l)) (omega arith) (scans_in_order l.count l.least a l.at);
  order_b = order_lower k.least 0 (list_of (run_left scan_items b k)) (omega arith) (scans_in_order k.count k.least b k.at);
}

-- the scans behind the first of a run lie above it
behind_first : (low : ℕ) (x x' : Parsed Scan) (c : Scan) → x ≡ also c x' → ScansInOrder low (list_of x) → ScansInOrder low (list_of x') × ScansInOrder c.low (list_of x')
behind_first low x x' c e o = behind x' (subst (λ (z : Parsed Scan). ScansInOrder low (list_of z)) e o) where
  behind : (z : Parsed Scan) → ScansInOrder low (list_of (also c z)) → ScansInOrder low (list_of z) × ScansInOrder c.low (list_of z)
  behind bad p = (tt, tt)
  behind (took cs at) p =
      let l = p.0 in
      let w = p.1 in
      (order_lower (c.high + 1) low cs (omega arith) p.2, order_lower (c.high + 1) c.low cs (omega arith) p.2)

-- what is held next is not empty
grown_whole : (held : Option Scan) (c : Scan) → Whole held → c.low ≤ c.high → (grown held c).low ≤ (grown held c).high
grown_whole None c k w = w
grown_whole (Some h) c k w = by_case (ltb h.high c.low) (λ e. simp e w) (λ e. simp e (omega arith))

-- and starts as low as c or as what was held
grown_order : (cs : List Scan) (held : Option Scan) (c : Scan) → ScansInOrder (low_held held) cs → ScansInOrder c.low cs → ScansInOrder (grown held c).low cs
grown_order cs None c p q = q
grown_order cs (Some h) c p q = by_case (ltb h.high c.low) (λ e. simp e q) (λ e. simp e p)

-- what a turn leaves when c is next
record Stepped (held : Option Scan) (x y x' y' : Parsed Scan) (c : Scan) : Type 0 where
  same_a : is_took x ≡ is_took x'
  same_b : is_took y ≡ is_took y'
  lower_a : ScansInOrder (low_held held) (list_of x')
  lower_b : ScansInOrder (low_held held) (list_of y')
  from_c_a : ScansInOrder c.low (list_of x')
  from_c_b : ScansInOrder c.low (list_of y')
  turn : is_took x' ≡ true → is_took y' ≡ true → Turn held c (list_of x) (list_of y) (list_of x') (list_of y')

-- c is a's first scan, or b's
stepped : (held : Option Scan) (x y x' y' : Parsed Scan) (c : Scan) → Held held x y → ScanNext x y x' y' c → Stepped held x y x' y' c
stepped held x y x' y' c known (from_a e f s) =
    let behind : ScansInOrder (low_held held) (list_of x') × ScansInOrder c.low (list_of x') = behind_first (low_held held) x x' c e known.order_a in
    let above : ScansInOrder c.low (list_of y) = order_from (low_held held) c.low (list_of y) s known.order_b in
    record {
      same_a = ap is_took e ∙ took_also c x';
      same_b = ap is_took (sym f);
      lower_a = behind.0;
      lower_b = subst (λ (z : Parsed Scan). ScansInOrder (low_held held) (list_of z)) (sym f) known.order_b;
      from_c_a = behind.1;
      from_c_b = subst (λ (z : Parsed Scan). ScansInOrder c.low (list_of z)) (sym f) above;
      turn = λ t u.
          let front : list_of x ≡ c ∷ list_of x' = ap list_of e ∙ list_also c x' t in
          subst (λ (z : Parsed Scan). Turn held c (list_of x) (list_of y) (list_of x') (list_of z)) (sym f)
          (subst (λ (l : List Scan). Turn held c l (list_of y) (list_of x') (list_of y)) (sym front)
          (turn_a held c (list_of x') (list_of y) known.whole (subst (λ (l : List Scan). ScansInOrder (low_held held) l) front known.order_a) above));
    }
stepped held x y x' y' c known (from_b e f s) =
    let behind : ScansInOrder (low_held held) (list_of y') × ScansInOrder c.low (list_of y') = behind_first (low_held held) y y' c e known.order_b in
    let above : ScansInOrder c.low (list_of x) = order_from (low_held held) c.low (list_of x) s known.order_a in
    record {
      same_a = ap is_took (sym f);
      same_b = ap is_took e ∙ took_also c y';
      lower_a = subst (λ (z : Parsed Scan). ScansInOrder (low_held held) (list_of z)) (sym f) known.order_a;
      lower_b = behind.0;
      from_c_a = subst (λ (z : Parsed Scan). ScansInOrder c.low (list_of z)) (sym f) above;
      from_c_b = behind.1;
      turn = λ t u.
          let front : list_of y ≡ c ∷ list_of y' = ap list_of e ∙ list_also c y' u in
          subst (λ (z : Parsed Scan). Turn held c (list_of x) (list_of y) (list_of z) (list_of y')) (sym f)
          (subst (λ (l : List Scan). Turn held c (list_of x) l (list_of x) (list_of y')) (sym front)
          (turn_b held c (list_of x) (list_of y') known.whole (subst (λ (l : List Scan). ScansInOrder (low_held held) l) front known.order_b) above));
    }

-- WHAT IS COUNTED

-- so many scans so far and those to come, if both runs are well formed
abbrev pub still_count : ℕ → Option Scan → Parsed Scan → Parsed Scan → Option ℕ
still_count scans held x y = if is_took x && is_took y then Some (scans + length (to_come held (list_of x) (list_of y))) else None

-- at first that is the whole
pub count_first : (x y : Parsed Scan) → scans_count x y ≡ still_count 0 None x y
count_first bad y = refl
count_first (took cs e) bad = refl
count_first (took cs e) (took ds f) = ap (λ (n : ℕ). Some n) (omega arith)

-- none, if one of the runs is not well formed
pub count_none : (end : Option ℕ) (scans : ℕ) (held : Option Scan) (x y : Parsed Scan) → end ≡ still_count scans held x y → (BothTaken x y → ⊥) → None ≡ end
count_none end scans held x y e n =
    by_case (is_took x && is_took y) (λ t. and_split (is_took x) (is_took y) t λ a b. absurd (n (a, b))) (λ t. sym (e ∙ simp t))

-- A TURN

module _ (held : Option Scan) (x y x' y' : Parsed Scan) (c h : Scan) (known : Held held x y) (next : ScanNext x y x' y' c) (is : h ≡ grown held c) where
  -- what c leaves
  step : Stepped held x y x' y' c
  step = stepped held x y x' y' c known next

  -- what is held next starts no higher than what is left then
  pub turn_held : c.low ≤ c.high → Held (Some h) x' y'
  turn_held w =
      subst (λ (g : Scan). Held (Some g) x' y') (sym is) (record {
        whole = grown_whole held c known.whole w;
        order_a = grown_order (list_of x') held c step.lower_a step.from_c_a;
        order_b = grown_order (list_of y') held c step.lower_b step.from_c_b;
      })

  -- both are still well formed
  pub turn_both : BothTaken x y → BothTaken x' y'
  turn_both w = (sym step.same_a ∙ w.0, sym step.same_b ∙ w.1)

  -- what is to come: what is over now, and what is to come then
  pub turn_come : BothTaken x' y' → to_come held (list_of x) (list_of y) ≡ held_scans (ended held c.low) ++ to_come (Some h) (list_of x') (list_of y')
  turn_come w =
      subst (λ (g : Scan). to_come held (list_of x) (list_of y) ≡ held_scans (ended held c.low) ++ to_come (Some g) (list_of x') (list_of y')) (sym is)
      (step.turn w.0 w.1)

  -- one is counted if the held scan is over
  pub turn_count : (end : Option ℕ) (scans : ℕ) → end ≡ still_count scans held x y → end ≡ still_count (scans + length (held_scans (ended held c.low))) (Some h) x' y'
  turn_count end scans e =
      by_case (is_took x' && is_took y')
      (λ t. and_split (is_took x') (is_took y') t λ a b.
      let n : length (to_come held (list_of x) (list_of y)) ≡ length (held_scans (ended held c.low)) + length (to_come (Some h) (list_of x') (list_of y')) =
      ap length (turn_come (a, b)) ∙ length-append (held_scans (ended held c.low)) (to_come (Some h) (list_of x') (list_of y')) in
      e ∙ simp (step.same_a, step.same_b, a, b) (ap (λ (n : ℕ). Some n) (omega arith)))
      (λ t. e ∙ simp (step.same_a, step.same_b, t))
