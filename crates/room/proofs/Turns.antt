-- The turns of the loop that settles points: what is counted so far and what the points from i on add make the whole, and so it is with the kinds.
-- Assumes nothing.
use Prim.Native.Nat.{ℕ, ◌+◌, ◌≤◌, ◌<◌}
use mathlib.Core.Path.{◌≡◌, sym, ◌∙◌}
use mathlib.Core.Bool.{Bool, true, false}
use mathlib.Core.List.{List, [], ◌++◌, append_assoc, append-nil}
use native.Mathlib.Omega.{arith}
use native.Mathlib.Numerals.{add-one}
use lib.ListN.{length, get_or, set, take, drop, drop_of_length-le}
use lib.Seq.{drop-cons, drop-set-lt}
use lib.Dec.{eqb, leb}
use Rattle.std.proofs.lemmas.List.{take_more_set, take_all}
use Rattle.std.specs.Prelude.{if◌then◌else◌}
use Rattle.rules.specs.State.{Entry}
use Rattle.pool.specs.Image.{Arrangement, Image, Fit, state_of}
use Rattle.find.specs.declared.Found.{Found}
use Rattle.find.specs.declared.Found.TheVariants.{Absent, Live, Tombstone}
use Rattle.find.specs.Found.{found_in}
use Rattle.room.specs.declared.tally.Tally.{Tally}
use Rattle.room.specs.declared.tally.Settled.{Settled}
use Rattle.room.specs.Tally.{one_if_absent, one_if_revived, settled_in, Settles, adds, tally_of, SettledAs, TallyIs}

-- ONE POINT

-- at most one each
pub small_absent : (f : Found) → one_if_absent f ≤ 1
small_absent Absent = omega arith
small_absent (Live x w) = omega arith
small_absent (Tombstone w) = omega arith

pub small_revived : (limit : ℕ) (f : Found) → one_if_revived limit f ≤ 1
small_revived limit Absent = omega arith
small_revived limit (Live x w) = omega arith
small_revived limit (Tombstone w) = go (leb w limit)
  where
    go : (b : Bool) → (if b then 1 else 0) ≤ 1
    go true = omega arith
    go false = omega arith

pub small_adds : (f : Found → ℕ) → ((x : Found) → f x ≤ 1) → (kind k : ℕ) (es : List Entry) → adds f kind k es ≤ 1
small_adds f h kind k es = go (eqb kind 2)
  where
    go : (b : Bool) → (if b then f (found_in k es) else 0) ≤ 1
    go true = h (found_in k es)
    go false = omega arith

-- THE LOOP

-- counted and settled so far, and still to come: the kinds were kinds₀, and are kinds now
pub record Going (m kinds₀ ks : List ℕ) (limit : ℕ) (kinds : List ℕ) (t : Tally) (i : ℕ) : Type 0 where
  pub few_absent : t.absent ≤ i
  pub few_revived : t.revived ≤ i
  pub absent_so_far : (A : Arrangement) → Image m A → t.absent + tally_of one_if_absent (drop i kinds) (drop i ks) (state_of A).kept ≡ tally_of one_if_absent kinds₀ ks (state_of A).kept
  pub revived_so_far : (A : Arrangement) → Image m A
      → t.revived + tally_of (one_if_revived limit) (drop i kinds) (drop i ks) (state_of A).kept ≡ tally_of (one_if_revived limit) kinds₀ ks (state_of A).kept
  pub settled_so_far : (A : Arrangement) → Image m A → take i kinds ++ settled_in (drop i kinds) (drop i ks) (state_of A).kept ≡ settled_in kinds₀ ks (state_of A).kept

module _ (m kinds₀ ks : List ℕ) (limit : ℕ) where
  module _ (fit : Fit m) (kinds : List ℕ) (t : Tally) (i : ℕ) (g : Going m kinds₀ ks limit kinds t i) (inside : i < length kinds) (more : i < length ks) (r : Settled)
      (one : (A : Arrangement) → Image m A → SettledAs (get_or kinds i 0) (get_or ks i 0) limit (state_of A).kept r) where
    small : (r.adds.absent ≤ 1) × (r.adds.revived ≤ 1)
    small =
        let o = one fit.arrangement fit.image in
        let es = (state_of fit.arrangement).kept in (
          omega (arith, o.absent_is, small_adds one_if_absent small_absent (get_or kinds i 0) (get_or ks i 0) es),
          omega (arith, o.revived_is, small_adds (one_if_revived limit) (small_revived limit) (get_or kinds i 0) (get_or ks i 0) es),
        )

    -- the kinds behind this one are as they were
    behind : drop (i + 1) (set kinds i r.kind) ≡ drop (i + 1) kinds
    behind = drop-set-lt (i + 1) kinds i r.kind (omega arith)

    turn : (f : Found → ℕ) (es : List Entry)
        → tally_of f (drop i kinds) (drop i ks) es ≡ adds f (get_or kinds i 0) (get_or ks i 0) es + tally_of f (drop (i + 1) (set kinds i r.kind)) (drop (i + 1) ks) es
    unfolding tally_of
    turn f es = rw (behind, add-one, drop-cons kinds i 0 inside, drop-cons ks i 0 more)

    -- this one is settled, and then those behind it
    settles : (A : Arrangement) → Image m A → take i kinds ++ settled_in (drop i kinds) (drop i ks) (state_of A).kept
        ≡ take (i + 1) (set kinds i r.kind) ++ settled_in (drop (i + 1) (set kinds i r.kind)) (drop (i + 1) ks) (state_of A).kept
    unfolding settled_in
    settles A q = rw (take_more_set kinds i r.kind inside, behind, append_assoc, add-one, drop-cons kinds i 0 inside, drop-cons ks i 0 more, (one A q).kind_is)

    pub goes_on_lem : Going m kinds₀ ks limit (set kinds i r.kind) (record { absent = t.absent + r.adds.absent; revived = t.revived + r.adds.revived }) (i + 1)
    goes_on_lem =
        record {
          few_absent = omega (arith, g.few_absent, small);
          few_revived = omega (arith, g.few_revived, small);
          absent_so_far = λ A q. omega (arith, g.absent_so_far A q, turn one_if_absent (state_of A).kept, (one A q).absent_is);
          revived_so_far = λ A q. omega (arith, g.revived_so_far A q, turn (one_if_revived limit) (state_of A).kept, (one A q).revived_is);
          settled_so_far = λ A q. sym (settles A q) ∙ g.settled_so_far A q;
        }

  module _ (kinds : List ℕ) (t : Tally) (i : ℕ) (g : Going m kinds₀ ks limit kinds t i) (all : length kinds ≤ i) where
    no_kinds : drop i kinds ≡ []
    no_kinds = drop_of_length-le kinds {i = i} all

    none_left : (f : Found → ℕ) (es : List Entry) → tally_of f (drop i kinds) (drop i ks) es ≡ 0
    unfolding tally_of
    none_left f es = rw no_kinds

    pub tally_ends : (A : Arrangement) → Image m A → TallyIs kinds₀ ks limit (state_of A).kept t
    tally_ends A q =
        record {
          absent_is = omega (arith, g.absent_so_far A q, none_left one_if_absent (state_of A).kept);
          revived_is = omega (arith, g.revived_so_far A q, none_left (one_if_revived limit) (state_of A).kept);
        }

    -- all are settled
    pub settle_ends : Settles m kinds₀ ks kinds
    unfolding settled_in
    settle_ends A q =
        let e : take i kinds ++ settled_in [] (drop i ks) (state_of A).kept ≡ settled_in kinds₀ ks (state_of A).kept = rw no_kinds at (g.settled_so_far A q) in
        sym (take_all i kinds all) ∙ sym (append-nil (take i kinds)) ∙ e
