-- The turns of the loop that applies points: what is stored so far, and storing what is left, make the whole.
-- Assumes nothing.
use Prim.Native.Nat.{ℕ, ◌+◌, ◌≤◌, ◌<◌}
use mathlib.Core.Path.{◌≡◌, sym, ap, ◌∙◌, subst}
use mathlib.Core.List.{List, [], ◌∷◌}
use native.Mathlib.Omega.{arith}
use native.Mathlib.Numerals.{add-one}
use lib.ListN.{length, get_or, drop, drop_of_length-le}
use lib.Seq.{drop-cons}
use Rattle.record.specs.declared.point.Point.{Point}
use Rattle.record.specs.declared.point.Point.TheVariants.{Read, Put, Delete}
use Rattle.rules.specs.State.{Entry}
use Rattle.rules.specs.Footprint.{stored_at}
use Rattle.rules.proofs.Written.{stored_at_lem}
use Rattle.pool.specs.Image.{Arrangement, Image}
use Rattle.put.specs.Values.{Value, entry_of}
use Rattle.put.specs.Storing.{put_in}
use Rattle.put.specs.Asks.{Roomy}
use Rattle.commit.specs.Applied.{point_from, points_in, value_of, store_in, writes_in, AllStorable, Applicable, Applies}
use Rattle.commit.proofs.Storing.{first_storable, rest_storable}

-- what is left to store, from point i on
abbrev pub rest_in : ℕ → List ℕ → List ℕ → List ℕ → ℕ → List Entry
rest_in v kinds ks xs i = writes_in v (drop i kinds) (drop i ks) (drop i xs)

-- an arrangement that the pool is the image of now, and from which storing the rest gives the whole
pub record Half (m kinds ks xs : List ℕ) (i : ℕ) (A : Arrangement) : Type 0 where
  pub present : Arrangement
  pub image : Image m present
  pub p_is : present.p ≡ A.p
  pub rest : store_in present (rest_in A.p kinds ks xs i) ≡ store_in A (writes_in A.p kinds ks xs)
  pub room : AllStorable A (writes_in A.p kinds ks xs) → AllStorable present (rest_in A.p kinds ks xs i)

-- so for every arrangement that the pool was the image of
pub record Going (m₀ kinds ks xs m : List ℕ) (i : ℕ) : Type 0 where
  pub within : i ≤ length ks
  pub same : length m ≡ length m₀
  pub halves : (A : Arrangement) → Image m₀ A → Half m kinds ks xs i A

-- all writes can be stored, for the arrangement that is asked for
all_storable : (m kinds ks xs : List ℕ) (a : Applicable m kinds ks xs) → AllStorable a.arrangement (writes_in a.arrangement.p kinds ks xs)
all_storable m kinds ks xs a =
    record { started = a.written_at; sized = a.sized; at_p = λ e w. stored_at_lem a.arrangement.p (points_in kinds ks xs) w; room = a.room }

module _ (m₀ kinds ks xs m : List ℕ) (i : ℕ) (a : Applicable m₀ kinds ks xs) (g : Going m₀ kinds ks xs m i) (more : i < length ks) where
  point : Point
  point = point_from (get_or kinds i 0) (get_or ks i 0) (get_or xs i 0)

  in_kinds : i < length kinds
  in_kinds = omega (arith, a.as_many_keys)

  in_payloads : i < length xs
  in_payloads = omega (arith, a.as_many_keys, a.as_many_payloads)

  -- the points from i on are this one and those behind it
  here_is : points_in (drop i kinds) (drop i ks) (drop i xs) ≡ point ∷ points_in (drop (i + 1) kinds) (drop (i + 1) ks) (drop (i + 1) xs)
  unfolding points_in point
  here_is = rw (add-one, drop-cons kinds i 0 in_kinds, drop-cons ks i 0 more, drop-cons xs i 0 in_payloads)

  rest_is : (v : ℕ) (q : Point) → q ≡ point → rest_in v kinds ks xs i ≡ stored_at v (q ∷ points_in (drop (i + 1) kinds) (drop (i + 1) ks) (drop (i + 1) xs))
  rest_is v q e = ap (stored_at v) (here_is ∙ ap (λ (z : Point). z ∷ points_in (drop (i + 1) kinds) (drop (i + 1) ks) (drop (i + 1) xs)) (sym e))

  -- a point that writes nothing is passed over
  pub passed_over : (q : Point) (k : ℕ) → q ≡ point_from (get_or kinds i 0) (get_or ks i 0) (get_or xs i 0) → q ≡ Read k → Going m₀ kinds ks xs m (i + 1)
  unfolding point
  passed_over q k e r =
      let n : (v : ℕ) → rest_in v kinds ks xs i ≡ rest_in v kinds ks xs (i + 1) = λ v. rest_is v (Read k) (sym r ∙ e) in
      record {
        within = omega arith;
        same = g.same;
        halves = λ A w.
            let h = g.halves A w in
            record {
              present = h.present;
              image = h.image;
              p_is = h.p_is;
              rest = rw (n A.p) at h.rest;
              room = λ s. rw (n A.p) at (h.room s);
            };
      }

  -- a write is the first of what is left to store
  pub record Writes (k : ℕ) (x : Value) : Type 0 where
    pub first : (v : ℕ) → rest_in v kinds ks xs i ≡ entry_of k v x ∷ rest_in v kinds ks xs (i + 1)

  -- whichever of the two it is: k' is its key and v what is stored for it
  pub is_put : (q q' : Point) (k k' x : ℕ) (v : Value) → q ≡ point_from (get_or kinds i 0) (get_or ks i 0) (get_or xs i 0) → q ≡ Put k x → q' ≡ Put k x → k' ≡ k → v ≡ value_of q' → Writes k' v
  unfolding point
  is_put q q' k k' x v e r s t u = record { first = λ p. rest_is p (Put k x) (sym r ∙ e) ∙ rw (t, u, s) }

  pub is_delete : (q q' : Point) (k k' : ℕ) (v : Value) → q ≡ point_from (get_or kinds i 0) (get_or ks i 0) (get_or xs i 0) → q ≡ Delete k → q' ≡ Delete k → k' ≡ k → v ≡ value_of q' → Writes k' v
  unfolding point
  is_delete q q' k k' v e r s t u = record { first = λ p. rest_is p (Delete k) (sym r ∙ e) ∙ rw (t, u, s) }

  module _ (k : ℕ) (x : Value) (w : Writes k x) where
    -- there is room for it
    pub has_room : Roomy m k x
    has_room =
        let h = g.halves a.arrangement a.image in
        let s = rw (w.first a.arrangement.p) at (h.room (all_storable m₀ kinds ks xs a)) in
        let t = first_storable s in
        record {
          arrangement = h.present;
          image = h.image;
          started = s.started;
          room = rw h.p_is t.room;
        }

    -- and storing it moves on
    pub moved_on_lem : (m' : List ℕ) → length m' ≡ length m → ((A : Arrangement) → Image m A → Image m' (put_in A (entry_of k A.p x))) → Going m₀ kinds ks xs m' (i + 1)
    unfolding store_in
    moved_on_lem m' l f =
        record {
          within = omega arith;
          same = l ∙ g.same;
          halves = λ A z.
              let h = g.halves A z in
              record {
                present = put_in h.present (entry_of k A.p x);
                image = subst (λ (v : ℕ). Image m' (put_in h.present (entry_of k v x))) h.p_is (f h.present h.image);
                p_is = h.p_is;
                rest = rw (w.first A.p) at h.rest;
                room = λ s. rest_storable h.image.arranged (rw (w.first A.p) at (h.room s));
              };
        }

pub loop_ends : (m₀ kinds ks xs m : List ℕ) (i : ℕ) → Applicable m₀ kinds ks xs → Going m₀ kinds ks xs m i → length ks ≤ i → Applies m₀ kinds ks xs m
unfolding points_in store_in
loop_ends m₀ kinds ks xs m i a g h A q =
    let d : drop i kinds ≡ [] = drop_of_length-le kinds {i = i} (omega (arith, a.as_many_keys)) in
    let r = g.halves A q in
    subst (λ (B : Arrangement). Image m B) (rw d at r.rest) r.image
