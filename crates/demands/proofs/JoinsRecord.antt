-- Two records and the one that they make, as a verdict sees them: what is named or scanned, and what is written.
-- The idea: the joined record names and scans what either does; a point that puts or deletes stands in it, b's in any case and a's since b names no key
-- of it.
-- Assumes nothing.
use Prim.Native.Nat.{ℕ, ◌+◌, ◌≤◌}
use native.Mathlib.Omega.{arith}
use mathlib.Core.Path.{◌≡◌, refl, sym, ap, ◌∙◌, subst}
use mathlib.Core.Logic.{◌⊎◌, inl, inr, ⊎_elim}
use mathlib.Core.Bool.{true, ◌&&◌, ◌||◌}
use mathlib.Core.Option.{Option, none, some}
use mathlib.Core.List.Memᴰ.{head as here}
use mathlib.Core.List.Memᴰ.{tail as there}
use mathlib.Core.List.{List, [], ◌∷◌, Memᴰ as Mem}
use lib.Dec.{T, leb, eqb, eqb→eq, leb→le, le→leb}
use Rattle.record.specs.declared.point.Point.{Point}
use Rattle.record.specs.declared.point.Scan.{Scan}
use Rattle.record.specs.Record.{Rec, key_of, PointsRise, Valid}
use Rattle.joiner.specs.Joined.{puts_or_deletes, names_key, scans_key, joined_of, can_join}
use Rattle.joiner.specs.ByKey.{entry_at, both_entries}
use Rattle.joiner.proofs.PointContent.{names_joined, entry_joined}
use Rattle.joiner.proofs.ScanContent.{scans_joined}
use Rattle.joiner.proofs.Content.{can_join_lem, clear_of}
use Rattle.rules.specs.Demands.{Reaches}
use Rattle.rules.proofs.Tests.{if_ind, is_true, or_left, or_right, or_cases, and_of, left_of_lem, right_of_lem, yes_eq, no_eq}

-- R57: j does what a and then b do: one snapshot; it reaches what either reaches; b reaches nothing that a puts or deletes; the points of both that put or
-- delete are j's, and the entry of each key is chosen by the rule
pub record AsOne (a b j : Rec) : Type 0 where
  pub same_a : a.snapshot ≡ j.snapshot
  pub same_b : b.snapshot ≡ j.snapshot
  pub reached : (k : ℕ) → Reaches j k → Reaches a k ⊎ Reaches b k
  pub a_reaches : (k : ℕ) → Reaches a k → Reaches j k
  pub b_reaches : (k : ℕ) → Reaches b k → Reaches j k
  pub clear : (q : Point) → Mem q a.points → puts_or_deletes q ≡ true → Reaches b (key_of q) → ⊥
  pub a_writes : (q : Point) → Mem q a.points → puts_or_deletes q ≡ true → Mem q j.points
  pub b_writes : (q : Point) → Mem q b.points → puts_or_deletes q ≡ true → Mem q j.points
  pub entries : (k : ℕ) → entry_at k j.points ≡ both_entries (entry_at k a.points) (entry_at k b.points)

-- WHAT IS REACHED

-- a key that is named has a point
names_mem : (k : ℕ) (ps : List Point) → T (names_key k ps) → (q : Point) × Mem q ps × (key_of q ≡ k)
names_mem k [] t = absurd t
names_mem k (p ∷ ps) t = ⊎_elim (λ (e : T (eqb (key_of p) k)). (p, here refl, eqb→eq (key_of p) k e))
    (λ (n : T (names_key k ps)). let x = names_mem k ps n in (x.0, there x.1, x.2)) (or_cases (eqb (key_of p) k) (names_key k ps) t)

-- and the reverse
mem_names : (k : ℕ) (ps : List Point) {q : Point} → Mem q ps → key_of q ≡ k → T (names_key k ps)
mem_names k [] {q = q} x'' h = elim x'' [ ]
mem_names k (p ∷ ps) (here e) h = or_left (eqb (key_of p) k) (names_key k ps) (yes_eq (ap key_of (sym e) ∙ h))
mem_names k (p ∷ ps) (there m) h = or_right (eqb (key_of p) k) (names_key k ps) (mem_names k ps m h)

-- a key that is scanned has a scan
scans_mem : (k : ℕ) (cs : List Scan) → T (scans_key k cs) → (c : Scan) × Mem c cs × (c.low ≤ k) × (k ≤ c.high)
scans_mem k [] t = absurd t
scans_mem k (c ∷ cs) t = ⊎_elim
    (λ (e : T (leb c.low k && leb k c.high)).
    (c, here refl, leb→le c.low k (left_of_lem (leb c.low k) (leb k c.high) e), leb→le k c.high (right_of_lem (leb c.low k) (leb k c.high) e)))
    (λ (n : T (scans_key k cs)). let x = scans_mem k cs n in (x.0, there x.1, x.2, x.3))
    (or_cases (leb c.low k && leb k c.high) (scans_key k cs) t)

-- and the reverse
mem_scans : (k : ℕ) (cs : List Scan) {c : Scan} → Mem c cs → c.low ≤ k → k ≤ c.high → T (scans_key k cs)
mem_scans k [] {c = c} x3 l h = elim x3 [ ]
mem_scans k (d ∷ cs) {c} (here e) l h =
    or_left (leb d.low k && leb k d.high) (scans_key k cs)
    (subst (λ (x : Scan). T (leb x.low k && leb k x.high)) e (and_of (leb c.low k) (leb k c.high) (le→leb c.low k l) (le→leb k c.high h)))
mem_scans k (d ∷ cs) (there m) l h = or_right (leb d.low k && leb k d.high) (scans_key k cs) (mem_scans k cs m l h)

-- R21: a record reaches a key exactly if it names or scans it
reaches_of : (r : Rec) (k : ℕ) → T (names_key k r.points) ⊎ T (scans_key k r.scans) → Reaches r k
reaches_of r k (inl t) = inl (names_mem k r.points t)
reaches_of r k (inr t) = inr (scans_mem k r.scans t)

of_reaches : (r : Rec) (k : ℕ) → Reaches r k → T (names_key k r.points) ⊎ T (scans_key k r.scans)
of_reaches r k (inl x) = inl (mem_names k r.points x.1 x.2)
of_reaches r k (inr x) = inr (mem_scans k r.scans x.1 x.2 x.3)

-- THE ENTRY OF A KEY

-- it is one of the points, and has the key
entry_mem : (k : ℕ) (ps : List Point) {q : Point} → entry_at k ps ≡ some q → Mem q ps × (key_of q ≡ k)
entry_mem k [] {q} = λ e. let z : ◌≡◌ {A = ℕ} 0 1 = cc in absurd (omega arith)
entry_mem k (p ∷ ps) {q} = if_ind (λ (o : Option Point). o ≡ some q → Mem q (p ∷ ps) × (key_of q ≡ k)) (eqb (key_of p) k)
    (λ t e. let z : q ≡ p = cc in (here z, ap key_of z ∙ eqb→eq (key_of p) k t))
    (λ _ e. let x = entry_mem k ps e in (there x.0, x.1))

-- the keys of points that rise from a number on are not below it
rise_mem : (low : ℕ) (ps : List Point) {q : Point} → PointsRise low ps → Mem q ps → low ≤ key_of q
rise_mem low [] {q = q} r x'' = elim x'' [ ]
rise_mem low (p ∷ ps) r (here e) = omega (arith, r.0, ap key_of e)
rise_mem low (p ∷ ps) r (there m) = omega (arith, r.0, rise_mem (key_of p + 1) ps r.3 m)

-- each of the points is the entry of its key
mem_entry : (low : ℕ) (ps : List Point) {q : Point} → PointsRise low ps → Mem q ps → entry_at (key_of q) ps ≡ some q
mem_entry low [] {q = q} r x'' = elim x'' [ ]
mem_entry low (p ∷ ps) {q} r (here e) = rw (is_true (eqb (key_of p) (key_of q)) (yes_eq (ap key_of (sym e)))) (ap some (sym e))
mem_entry low (p ∷ ps) {q} r (there m) = rw (no_eq {a = key_of p} {b = key_of q} (λ e. omega (arith, rise_mem (key_of p + 1) ps r.3 m))) (mem_entry (key_of p + 1) ps r.3 m)

-- R57: where b puts or deletes a key, the entry is b's
b_chosen : (x : Option Point) (q : Point) → puts_or_deletes q ≡ true → both_entries x (some q) ≡ some q
b_chosen none q w = refl
b_chosen (some p) q w = rw w

-- R57: where b does not name it, the entry is a's
a_chosen : (q : Point) (y : Option Point) → ((p : Point) → y ≡ some p → ⊥) → both_entries (some q) y ≡ some q
a_chosen q none n = refl
a_chosen q (some p) n = absurd (n p refl)

-- THE TWO AND THE ONE

module _ (a b : Rec) (va : Valid a) (vb : Valid b) (can : can_join a b ≡ true) where
  names : (k : ℕ) → names_key k (joined_of a b).points ≡ (names_key k a.points || names_key k b.points)
  names k = names_joined k a.points b.points

  scans : (k : ℕ) → scans_key k (joined_of a b).scans ≡ (scans_key k a.scans || scans_key k b.scans)
  scans k = scans_joined k 0 0 a.scans b.scans va.apart vb.apart

  chosen : (k : ℕ) → entry_at k (joined_of a b).points ≡ both_entries (entry_at k a.points) (entry_at k b.points)
  chosen k = entry_joined k 0 0 a.points b.points va.rising vb.rising

  free : (q : Point) → Mem q a.points → puts_or_deletes q ≡ true → Reaches b (key_of q) → ⊥
  free q m w x = let c = clear_of a.points b (can_join_lem a b can).1 q m w in
      ⊎_elim (λ (t : T (names_key (key_of q) b.points)). subst T c.0 t) (λ (t : T (scans_key (key_of q) b.scans)). subst T c.1 t) (of_reaches b (key_of q) x)

  -- R57: the joined record is the one
  pub as_one : AsOne a b (joined_of a b)
  as_one = record {
    same_a = refl;
    same_b = sym (can_join_lem a b can).0;
    reached = λ k x. ⊎_elim
        (λ (t : T (names_key k (joined_of a b).points)). ⊎_elim (λ (u : T (names_key k a.points)). inl (reaches_of a k (inl u))) (λ (u : T (names_key k b.points)). inr (reaches_of b k (inl u)))
        (or_cases (names_key k a.points) (names_key k b.points) (subst T (names k) t)))
        (λ (t : T (scans_key k (joined_of a b).scans)). ⊎_elim (λ (u : T (scans_key k a.scans)). inl (reaches_of a k (inr u))) (λ (u : T (scans_key k b.scans)). inr (reaches_of b k (inr u)))
        (or_cases (scans_key k a.scans) (scans_key k b.scans) (subst T (scans k) t)))
        (of_reaches (joined_of a b) k x);
    a_reaches = λ k x. reaches_of (joined_of a b) k (⊎_elim
        (λ (t : T (names_key k a.points)). inl (subst T (sym (names k)) (or_left (names_key k a.points) (names_key k b.points) t)))
        (λ (t : T (scans_key k a.scans)). inr (subst T (sym (scans k)) (or_left (scans_key k a.scans) (scans_key k b.scans) t)))
        (of_reaches a k x));
    b_reaches = λ k x. reaches_of (joined_of a b) k (⊎_elim
        (λ (t : T (names_key k b.points)). inl (subst T (sym (names k)) (or_right (names_key k a.points) (names_key k b.points) t)))
        (λ (t : T (scans_key k b.scans)). inr (subst T (sym (scans k)) (or_right (scans_key k a.scans) (scans_key k b.scans) t)))
        (of_reaches b k x));
    clear = free;
    a_writes = λ q m w. (entry_mem (key_of q) (joined_of a b).points
        (chosen (key_of q) ∙ ap (λ (o : Option Point). both_entries o (entry_at (key_of q) b.points)) (mem_entry 0 a.points va.rising m)
        ∙ a_chosen q (entry_at (key_of q) b.points) (λ p e. let x = entry_mem (key_of q) b.points e in free q m w (inl (p, x.0, x.1))))).0;
    b_writes = λ q m w. (entry_mem (key_of q) (joined_of a b).points
        (chosen (key_of q) ∙ ap (both_entries (entry_at (key_of q) a.points)) (mem_entry 0 b.points vb.rising m) ∙ b_chosen (entry_at (key_of q) a.points) q w)).0;
    entries = chosen;
  }
