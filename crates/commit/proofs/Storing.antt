-- Entries stored one after the other: the state that it leaves, and how much it grows.
-- Assumes nothing.
use Prim.Native.Nat.{suc, ◌≤◌}
use mathlib.Core.Path.{◌≡◌, refl, sym, ap, ◌∙◌, subst}
use mathlib.Core.Bool.{Bool, true, false}
use mathlib.Core.List.Memᴰ.{head as here}
use mathlib.Core.List.Memᴰ.{tail as there}
use mathlib.Core.List.{List, [], ◌∷◌, map}
use native.Mathlib.Omega.{arith}
use lib.ListN.{length}
use lib.Dec.{ltb}
use Rattle.record.specs.declared.point.Point.{Point}
use Rattle.record.specs.declared.point.Point.TheVariants.{Read, Put, Delete}
use Rattle.record.specs.Record.{kind_of, key_of, payload_of}
use Rattle.std.specs.Prelude.{if◌then◌else◌}
use Rattle.rules.specs.State.{Entry, State}
use Rattle.rules.specs.Verdict.{store, store_all}
use Rattle.pool.specs.Image.{Arrangement, Arranged, state_of}
use Rattle.put.specs.Storing.{put_in}
use Rattle.put.proofs.Arranging.{Storable, state_put, arranged_put}
use Rattle.commit.specs.Applied.{points_in, store_in, AllStorable}

-- the lists of points are the points
pub points_in_lem : (ps : List Point) → points_in (map kind_of ps) (map key_of ps) (map payload_of ps) ≡ ps
unfolding points_in
points_in_lem [] = refl
points_in_lem (Read k ∷ ps) = ap (λ (qs : List Point). Read k ∷ qs) (points_in_lem ps)
points_in_lem (Put k x ∷ ps) = ap (λ (qs : List Point). Put k x ∷ qs) (points_in_lem ps)
points_in_lem (Delete k ∷ ps) = ap (λ (qs : List Point). Delete k ∷ qs) (points_in_lem ps)

-- storing never makes entries fewer
store_grows : (e : Entry) (es : List Entry) → length es ≤ length (store e es)
unfolding store
store_grows e [] = omega arith
store_grows e (x ∷ xs) = go (ltb e.key x.key) (ltb x.key e.key) (store_grows e xs)
  where
    go : (a b : Bool) → length xs ≤ length (store e xs) → suc (length xs) ≤ length (if a then e ∷ x ∷ xs else (if b then x ∷ store e xs else e ∷ xs))
    go true b h = omega arith
    go false true h = omega arith
    go false false h = omega arith

pub store_all_grows : (ws es : List Entry) → length es ≤ length (store_all ws es)
unfolding store_all
store_all_grows [] es = omega arith
store_all_grows (w ∷ ws) es = omega (arith, store_grows w es, store_all_grows ws (store w es))

pub first_storable : {A : Arrangement} {w : Entry} {ws : List Entry} → AllStorable A (w ∷ ws) → Storable A w
unfolding store_all
first_storable {A} {w} {ws} s =
    record {
      key_fits = (s.sized w (here refl)).0;
      payload_fits = (s.sized w (here refl)).1;
      written = omega (arith, s.at_p w (here refl), s.started);
      up_to_p = omega (arith, s.at_p w (here refl));
      room = omega (arith, s.room, store_all_grows ws (store w (state_of A).kept));
    }

pub rest_storable : {A : Arrangement} {w : Entry} {ws : List Entry} → Arranged A → AllStorable A (w ∷ ws) → AllStorable (put_in A w) ws
unfolding store_all
rest_storable {A} {w} {ws} q s =
    record {
      started = s.started;
      sized = λ e m. s.sized e (there m);
      at_p = λ e m. s.at_p e (there m);
      room = subst (λ (es : List Entry). length (store_all ws es) ≤ A.N) (sym (ap (λ (S : State). S.kept) (state_put A q w (first_storable s)))) s.room;
    }

-- the state afterwards is the state with all of them stored
pub state_store : (ws : List Entry) {A : Arrangement} → Arranged A → AllStorable A ws
    → state_of (store_in A ws) ≡ record { N = A.N; Z = A.Z; p = A.p; kept = store_all ws (state_of A).kept }
unfolding store_in store_all
state_store [] q s = refl
state_store (w ∷ ws) {A} q s =
    state_store ws (arranged_put A q w (first_storable s)) (rest_storable q s)
    ∙ ap (λ (S : State). record { N = A.N; Z = A.Z; p = A.p; kept = store_all ws S.kept }) (state_put A q w (first_storable s))
