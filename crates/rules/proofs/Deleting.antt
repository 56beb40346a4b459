-- What a record does goes by what it names, scans and writes; a delete of a key that is not live writes nothing, like a read (R22).
-- Assumes nothing.
use Prim.Native.Nat.{ℕ, ◌+◌, ◌≤◌}
use native.Mathlib.Omega.{arith}
use mathlib.Core.Path.{◌≡◌, refl, sym, ap, ◌∙◌, subst}
use mathlib.Core.Logic.{◌⊎◌, inl, inr}
use mathlib.Core.Bool.{Bool, true, false}
use mathlib.Core.List.Memᴰ.{append_cases as in-append}
use mathlib.Core.List.Memᴰ.{append_left as in_left}
use mathlib.Core.List.Memᴰ.{append_right as in_right}
use mathlib.Core.List.Memᴰ.{head as here}
use mathlib.Core.List.Memᴰ.{tail as there}
use mathlib.Core.List.{List, [], ◌∷◌, ◌++◌, map, Memᴰ as Mem}
use mathlib.Core.Option.{Option, none, some}
use lib.Dec.{ltb, leb}
use lib.ListN.{length}
use Rattle.record.specs.Record.{Rec}
use Rattle.record.specs.declared.point.Point.{Point}
use Rattle.record.specs.declared.point.Point.TheVariants.{Read, Put, Delete}
use Rattle.record.specs.declared.point.Scan.{Scan}
use Rattle.std.specs.Prelude.{if◌then◌else◌}
use Rattle.rules.specs.Lists.{keep, distinct}
use Rattle.rules.specs.State.{Entry, State, key_in, is_live, last_position, Lawful}
use Rattle.rules.specs.EntryFits.{EntryFits}
use Rattle.rules.specs.Footprint.{reach, stored_at, live_at, writes, writes_of}
use Rattle.rules.specs.Lookup.{absent, find, seen, payload_at, lookup}
use Rattle.rules.specs.Verdict.{Verdict, committed, no_room, positions_used_up, refusal_or, store_all, young, whole, drops, count, judge, verdict}
use Rattle.rules.specs.Before.{writes_before, count_before}
use Rattle.rules.specs.Tree.{looks_of, looks_for, walk, walk_of, tree_of}
use Rattle.rules.proofs.Counted.{once_le, distinct_of, of_distinct, distinct_once, count_whole, drops_whole}
use Rattle.rules.proofs.Tests.{if_ind, no_lt, mem_map, of_map}

-- TWO RECORDS THAT NAME, SCAN AND WRITE THE SAME

module _ (S : State) (ps ps' : List Point) (same : writes_of S ps' ≡ writes_of S ps) where
  -- they count the same for room
  pub count_by : count S ps' ≡ count S ps
  unfolding count
  count_by = ap (λ (ws : List Entry). length (distinct (map key_in (keep (young S.Z (S.p + 1)) S.kept) ++ map key_in ws))) same

  -- and for the drop
  pub drops_by : drops S ps' ≡ drops S ps
  unfolding drops
  drops_by = ap (λ (ws : List Entry). ltb S.N (length (distinct (map key_in S.kept ++ map key_in ws)))) same

module _ (S : State) (r r' : Rec) (snapshot : r'.snapshot ≡ r.snapshot) (reaches : reach r' ≡ reach r) (same : writes_of S r'.points ≡ writes_of S r.points) where
  -- they get the same answer
  pub verdict_by : verdict S (some r') ≡ verdict S (some r)
  unfolding verdict judge
  verdict_by =
      ap (λ (s : ℕ). answer s (reach r') (count S r'.points)) snapshot
      ∙ ap (λ (f : List Scan). answer r.snapshot f (count S r'.points)) reaches
      ∙ ap (λ (n : ℕ). answer r.snapshot (reach r) n) (count_by S r.points r'.points same)
    where
      answer : ℕ → List Scan → ℕ → Verdict
      answer s f n = if leb last_position S.p then positions_used_up else refusal_or S s f (if ltb S.N n then no_room else committed)

  -- in as many looks
  pub looks_by : looks_of S (some r') ≡ looks_of S (some r)
  unfolding looks_of
  looks_by =
      ap (λ (s : ℕ). looks_for (walk s (reach r') (tree_of 32 0 S.kept)).looks (verdict S (some r'))) snapshot
      ∙ ap (λ (f : List Scan). looks_for (walk r.snapshot f (tree_of 32 0 S.kept)).looks (verdict S (some r'))) reaches
      ∙ ap (looks_for (walk_of S (some r)).looks) verdict_by

-- A DELETE OF A KEY THAT IS NOT LIVE

-- what a lookup does not see is not live
pub absent_dead : (S : State) (k : ℕ) → lookup k S ≡ absent → live_at (find k S.kept) ≡ false
unfolding lookup
absent_dead S k = go (find k S.kept)
  where
    dead : (w : ℕ) (o : Option ℕ) → payload_at w o ≡ absent → is_live o ≡ false
    dead w none h = refl
    dead w (some x) h = let z : ◌≡◌ {A = ℕ} 0 1 = cc in absurd (omega arith)

    go : (o : Option Entry) → seen o ≡ absent → live_at o ≡ false
    go none h = refl
    go (some e) h = dead e.position e.payload h

-- R22: none of these points writes
pub nothing_written : (S : State) (ps : List Point) → ((q : Point) → Mem q ps → writes S q ≡ false) → writes_of S ps ≡ []
unfolding writes_of
nothing_written S [] h = refl
nothing_written S (q ∷ ps) h = rw (h q (here refl)) (nothing_written S ps (λ x m. h x (there m)))

-- what some of the points store, all store
some_stored : (f : Point → Bool) (v : ℕ) (ps : List Point) {e : Entry} → Mem e (stored_at v (keep f ps)) → Mem e (stored_at v ps)
some_stored f v [] = λ m. m
some_stored f v (q ∷ ps) {e} = if_ind (λ (qs : List Point). Mem e (stored_at v qs) → Mem e (stored_at v (q ∷ ps))) (f q) (λ _. same q (some_stored f v ps)) (λ _ m. more q (some_stored f v ps m))
  where
    same : (q : Point) → (Mem e (stored_at v (keep f ps)) → Mem e (stored_at v ps)) → Mem e (stored_at v (q ∷ keep f ps)) → Mem e (stored_at v (q ∷ ps))
    same (Read k) h m = h m
    same (Put k x) h (here p) = here p
    same (Put k x) h (there m) = there (h m)
    same (Delete k) h (here p) = here p
    same (Delete k) h (there m) = there (h m)

    more : (q : Point) → Mem e (stored_at v ps) → Mem e (stored_at v (q ∷ ps))
    more (Read k) m = m
    more (Put k x) m = there m
    more (Delete k) m = there m

-- R55: where every key that is deleted is live, the points write what they wrote when every delete did
pub writes_as_before : (S : State) (ps : List Point) → ((k : ℕ) → Mem (Delete k) ps → live_at (find k S.kept) ≡ true) → writes_of S ps ≡ writes_before S ps
unfolding writes_of
writes_as_before S [] h = refl
writes_as_before S (Read k ∷ ps) h = writes_as_before S ps (λ j m. h j (there m))
writes_as_before S (Put k x ∷ ps) h = ap (λ (ws : List Entry). record { key = k; position = S.p + 1; payload = some x } ∷ ws) (writes_as_before S ps (λ j m. h j (there m)))
writes_as_before S (Delete k ∷ ps) h =
    rw (h k (here refl)) (ap (λ (ws : List Entry). record { key = k; position = S.p + 1; payload = none } ∷ ws) (writes_as_before S ps (λ j m. h j (there m))))

-- R55: the points never write more than they did then, so no more keys have to find room
pub room_as_before : (S : State) (ps : List Point) → count S ps ≤ count_before S ps
unfolding count writes_of
room_as_before S ps = once_le (distinct_once now_counted) (distinct then_counted) (λ k m. of_distinct then_counted (among k (in-append stay (distinct_of now_counted m))))
  where
    stay : List ℕ
    stay = map key_in (keep (young S.Z (S.p + 1)) S.kept)

    now_counted : List ℕ
    now_counted = stay ++ map key_in (stored_at (S.p + 1) (keep (writes S) ps))

    then_counted : List ℕ
    then_counted = stay ++ map key_in (stored_at (S.p + 1) ps)

    among : (k : ℕ) → Mem k stay ⊎ Mem k (map key_in (stored_at (S.p + 1) (keep (writes S) ps))) → Mem k then_counted
    among k (inl m) = in_left (map key_in (stored_at (S.p + 1) ps)) m
    among k (inr m) =
        let x = of_map key_in (stored_at (S.p + 1) (keep (writes S) ps)) m in
        in_right stay (subst (λ (j : ℕ). Mem j (map key_in (stored_at (S.p + 1) ps))) (sym x.2) (mem_map key_in (some_stored (writes S) (S.p + 1) ps x.1)))

-- a record that writes nothing has room, and nothing is dropped for it
module _ {S : State} (ps : List Point) (l : Lawful S) (nothing : writes_of S ps ≡ []) where
  sized : (e : Entry) → Mem e (writes_of S ps) → EntryFits e
  sized e m = elim (subst (λ (ws : List Entry). Mem e ws) nothing m) [ ]

  as_kept : length (whole S ps) ≡ length S.kept
  unfolding store_all
  as_kept = ap (λ (ws : List Entry). length (store_all ws S.kept)) nothing

  pub room_for_nothing : count S ps ≤ S.N
  room_for_nothing = omega (arith, count_whole S ps l.rising sized, as_kept, l.few)

  pub nothing_dropped : drops S ps ≡ false
  nothing_dropped = drops_whole S ps l.rising sized ∙ no_lt {a = S.N} {b = length (whole S ps)} (omega (arith, as_kept, l.few))
