-- The fakes of R43 keep no promise: for each, a small pool on which it would have to answer otherwise.
-- Assumes nothing.
use Prim.Native.Nat.{ℕ}
use mathlib.Core.Path.{◌≡◌, refl, sym, ap, ◌∙◌, subst}
use mathlib.Core.Option.{Option, some}
use mathlib.Core.List.{List, [], ◌∷◌}
use native.Mathlib.Omega.{arith}
use native.Mathlib.Decide.{dec_lt}
use lib.ListN.{length, take, get_or, replicate, get_or-replicate, length-replicate, get_or-eq_default}
use Rattle.words.specs.Word.{Bytes, big_endian}
use Rattle.record.specs.declared.answer.Answer.{Answer}
use Rattle.record.specs.declared.point.Point.TheVariants.{Put}
use Rattle.record.specs.Record.{Rec, Valid, bytes_of, version_for}
use Rattle.record.specs.Parse.{first_point, head_ok, parse}
use Rattle.record.proofs.RoundTrip.{parse_bytes_of, valid_bytes}
use Rattle.rules.specs.State.{State, fresh}
use Rattle.rules.specs.Footprint.{reach, meets, writes_of}
use Rattle.rules.specs.Verdict.{hits, refusal_or, store, store_all, young, drops, apply, count, judge, verdict, next}
use Rattle.rules.specs.Lookup.{lookup}
use Rattle.rules.specs.Refresh.{refresh}
use Rattle.create.specs.Fresh.{limits_ok}
use Rattle.create.proofs.Only.{fresh_state}
use Rattle.meld.specs.declared.kept.Lookup.{Lookup}
use Rattle.meld.specs.declared.kept.Lookup.TheVariants.{Unfit, Absent, Found}
use Rattle.meld.specs.declared.melding.Melded.{Melded}
use Rattle.meld.specs.Lookups.{lookup_of}
use Rattle.meld.specs.Melds.{melded_of}
use Rattle.meld.proofs.Lookups.{lookup_case}
use Rattle.refresh.specs.Refreshed.{RefreshOutcome, refresh_outcome, left_by, refreshed_of}
use Rattle.demands.specs.Runs.{Means}
use Rattle.demands.specs.Fakes.{Library, AlwaysRefuses, AlwaysCommits, StoresNothing, advanced, OnlyFirst, Copies, AlwaysAhead, InventsLooks}
use Rattle.demands.proofs.Following.{meld_means}

-- THE SAMPLES

-- snapshot s, nothing
abbrev nothing : ℕ → Rec
nothing s = record { snapshot = s; points = []; scans = [] }

-- snapshot s, put 10 = x
abbrev put : ℕ → ℕ → Rec
put s x = record { snapshot = s; points = Put 10 x ∷ []; scans = [] }

valid_nothing : Valid (nothing 0)
valid_nothing = record { snapshot_fits = omega arith; few_points = omega arith; few_scans = omega arith; rising = tt; apart = tt }

valid_first : Valid (put 0 100)
valid_first = record { snapshot_fits = omega arith; few_points = omega arith; few_scans = omega arith; rising = (omega arith, omega arith, omega arith, tt); apart = tt }

valid_second : Valid (put 1 5)
valid_second = record { snapshot_fits = omega arith; few_points = omega arith; few_scans = omega arith; rising = (omega arith, omega arith, omega arith, tt); apart = tt }

no_bytes : Bytes []
no_bytes = record { byte = λ i. omega arith }

-- bytes to lend for a pool with N = 1
lent : List ℕ
lent = replicate 128 0

lent_size : length lent ≡ 128
unfolding lent
lent_size = refl

zeros : (n : ℕ) → Bytes (replicate n 0)
zeros n = record {
  byte = λ i. elim (dec_lt i n) [
    | yes l ↦ rw (get_or-replicate {A = ℕ} n i 0 0 l) (omega arith)
    | no g ↦ rw (get_or-eq_default {A = ℕ} (replicate n 0) 0 {n = i} (omega (arith, length-replicate {A = ℕ} n 0))) (omega arith)
  ];
}

lent_bytes : Bytes lent
unfolding lent
lent_bytes = zeros 128

module _ (L : Library) where
  -- a new pool with N = 1, Z = 1
  new : List ℕ
  new = (L.create lent 1 1).1

  new_means : Means new (fresh 1 1)
  unfolding limits_ok new
  new_means =
      let c = (L.create_keeps lent 1 1 lent_bytes).made (ap (limits_ok 1 1) lent_size) in
      record { arrangement = _; image = c.1; state = fresh_state 1 1 }

  -- what melding a record says, and what the pool means then
  module _ (m : List ℕ) (S : State) (means : Means m S) (r : Rec) (v : Valid r) where
    melded : ((L.meld m (bytes_of r)).0 ≡ melded_of S (some r)) × Means (L.meld m (bytes_of r)).1 (next S (some r))
    melded =
        let x = meld_means S means (valid_bytes r v) (L.meld_keeps m (bytes_of r) means.image.bytes (valid_bytes r v)) in
        (x.0 ∙ ap (melded_of S) (parse_bytes_of r v), subst (λ (o : Option Rec). Means (L.meld m (bytes_of r)).1 (next S o)) (parse_bytes_of r v) x.1)

    refreshed : (output : List ℕ) → Bytes output → refresh_outcome (L.refresh m (bytes_of r) output).0 (L.refresh m (bytes_of r) output).1 ≡ refreshed_of S (some r) output
    refreshed output b =
        (L.refresh_keeps m (bytes_of r) output means.image.bytes (valid_bytes r v) b).fit means.arrangement means.image
        ∙ ap (λ (T : State). refreshed_of T (parse (bytes_of r)) output) means.state ∙ ap (λ (o : Option Rec). refreshed_of S o output) (parse_bytes_of r v)

  -- what a lookup sees
  sees : (m : List ℕ) (S : State) (k : ℕ) → Means m S → L.lookup m k ≡ lookup_of (lookup k S)
  sees m S k means = lookup_case m k (L.lookup m k) (L.lookup_keeps m k means.image.bytes) means.arrangement means.image ∙ ap (λ (T : State). lookup_of (lookup k T)) means.state

  -- THE FAKES

  -- a record that says nothing commits in a new pool
  pub not_always_refuses : AlwaysRefuses L → ⊥
  unfolding verdict judge reach meets writes_of hits refusal_or count store store_all young drops apply
  not_always_refuses f =
      f new (bytes_of (nothing 0)) new_means.image.bytes (valid_bytes (nothing 0) valid_nothing)
      (ap (λ (x : Melded). x.answer) (melded new (fresh 1 1) new_means (nothing 0) valid_nothing).0)

  -- no bytes at all are malformed
  pub not_always_commits : AlwaysCommits L → ⊥
  unfolding verdict parse head_ok first_point
  not_always_commits f =
      let x = (meld_means (fresh 1 1) new_means no_bytes (L.meld_keeps new [] new_means.image.bytes no_bytes)).0 in
      omega (arith, ap (λ (a : Answer). a.number) (sym (f new [] new_means.image.bytes no_bytes) ∙ ap (λ (y : Melded). y.answer) x))

  -- the pool after put 10 = 100
  first : List ℕ
  first = (L.meld new (bytes_of (put 0 100))).1

  first_means : Means first (next (fresh 1 1) (some (put 0 100)))
  unfolding first
  first_means = (melded new (fresh 1 1) new_means (put 0 100) valid_first).1

  -- the payload seen, 0 for none
  abbrev payload : Lookup → ℕ
  payload Unfit = 0
  payload Absent = 0
  payload (Found x w) = x

  -- a new pool has no payload of 10; after put 10 = 100 it is 100
  pub not_stores_nothing : StoresNothing L → ⊥
  unfolding first lookup verdict judge reach meets writes_of hits refusal_or count store store_all young drops apply next
  not_stores_nothing f =
      let e : L.lookup first 10 ≡ L.lookup new 10 = f new (bytes_of (put 0 100)) 10 new_means.image.bytes (valid_bytes (put 0 100) valid_first) in
      let a : payload (L.lookup first 10) ≡ 100 = ap payload (sees first (next (fresh 1 1) (some (put 0 100))) 10 first_means) in
      let b : payload (L.lookup new 10) ≡ 0 = ap payload (sees new (fresh 1 1) 10 new_means) in
      omega (arith, ap payload e)

  -- after put 10 = 5 at position 2 it is 5, where one that only advances still has 100
  pub not_only_first : OnlyFirst L → ⊥
  unfolding first lookup verdict judge reach meets writes_of hits refusal_or count store store_all young drops apply next
  not_only_first f =
      let S : State = next (fresh 1 1) (some (put 0 100)) in
      let second : List ℕ = (L.meld first (bytes_of (put 1 5))).1 in
      let stays : Means second (advanced S) = f.advances first (bytes_of (put 1 5)) S first_means (valid_bytes (put 1 5) valid_second) (omega arith) (omega arith) in
      let a : payload (L.lookup second 10) ≡ 5 = ap payload (sees second (next S (some (put 1 5))) 10 (melded first S first_means (put 1 5) valid_second).1) in
      let b : payload (L.lookup second 10) ≡ 100 = ap payload (sees second (advanced S) 10 stays) in
      omega arith

  -- nine bytes of output
  nine : Bytes (replicate 9 0)
  nine = zeros 9

  -- a refresh at position 0 of a record with snapshot 0 answers 0
  pub not_always_ahead : AlwaysAhead L → ⊥
  unfolding refresh left_by reach meets hits refusal_or big_endian version_for
  not_always_ahead f =
      let x = refreshed new (fresh 1 1) new_means (nothing 0) valid_nothing (replicate 9 0) nine in
      omega (arith, ap (λ (a : Answer). a.number) (sym (f new (bytes_of (nothing 0)) (replicate 9 0) new_means.image.bytes (valid_bytes (nothing 0) valid_nothing) nine) ∙ ap (λ (o : RefreshOutcome). o.answer) x))

  -- at position 1 the byte of weight 1 of its snapshot is 1, not 0
  pub not_copies : Copies L → ⊥
  unfolding first lookup verdict judge reach meets writes_of hits refusal_or count store store_all young drops apply next refresh left_by big_endian version_for
  not_copies f =
      let S : State = next (fresh 1 1) (some (put 0 100)) in
      let x = refreshed first S first_means (nothing 0) valid_nothing (replicate 9 0) nine in
      let e = f first (bytes_of (nothing 0)) (replicate 9 0) first_means.image.bytes (valid_bytes (nothing 0) valid_nothing) nine (ap (λ (o : RefreshOutcome). o.answer) x) in
      let a : get_or (take 9 (L.refresh first (bytes_of (nothing 0)) (replicate 9 0)).1) 6 0 ≡ 1 = ap (λ (o : RefreshOutcome). get_or (take 9 o.output) 6 0) x in
      let b : get_or (take 9 (L.refresh first (bytes_of (nothing 0)) (replicate 9 0)).1) 6 0 ≡ 0 = ap (λ (l : List ℕ). get_or l 6 0) e in
      omega arith

  -- the looks are those of the walk
  pub no_invented_looks : InventsLooks L → ⊥
  no_invented_looks f =
      f.other (ap (λ (x : Melded). x.looks) (meld_means f.S f.means f.lent (L.meld_keeps f.m f.bytes f.means.image.bytes f.lent)).0)
