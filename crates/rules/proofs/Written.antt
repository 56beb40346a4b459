-- What a well-formed record writes: keys of 32 bits that rise, and payloads of eight bytes, at the record's position.
-- Assumes nothing.
use Prim.Native.Nat.{ℕ, ◌+◌, ◌^◌, ◌≤◌}
use native.Mathlib.Omega.{arith}
use mathlib.Core.Path.{◌≡◌, refl, sym, ap, subst}
use mathlib.Core.Bool.{Bool}
use mathlib.Core.List.Memᴰ.{head as here}
use mathlib.Core.List.Memᴰ.{tail as there}
use mathlib.Core.List.{List, [], ◌∷◌, Memᴰ as Mem}
use mathlib.Core.Option.{Option, none, some}
use Rattle.record.specs.Record.{Rec, key_of, PointsRise}
use Rattle.record.specs.declared.point.Point.{Point}
use Rattle.record.specs.declared.point.Point.TheVariants.{Read, Put, Delete}
use Rattle.rules.specs.Lists.{keep}
use Rattle.rules.specs.EntryFits.{EntryFits}
use Rattle.rules.specs.State.{Entry, State, Rising, end, link}
use Rattle.rules.specs.Footprint.{stored_at, writes, writes_of}
use Rattle.rules.specs.Verdict.{points_of}
use Rattle.rules.specs.Log.{ValidIf}
use Rattle.rules.proofs.Tests.{if_ind}
use Rattle.rules.proofs.Sorted.{rising_lower}

-- POINTS

-- what points store fits its bytes
pub stored_sized : (v low : ℕ) (ps : List Point) → PointsRise low ps → (e : Entry) → Mem e (stored_at v ps) → EntryFits e
stored_sized v low [] h e m = elim m [ ]
stored_sized v low (Read k ∷ ps) h e m = stored_sized v (k + 1) ps h.3 e m
stored_sized v low (Put k x ∷ ps) h e (here p) = subst EntryFits (sym p) (h.1, h.2)
stored_sized v low (Put k x ∷ ps) h e (there m) = stored_sized v (k + 1) ps h.3 e m
stored_sized v low (Delete k ∷ ps) h e (here p) = subst EntryFits (sym p) (h.1, tt)
stored_sized v low (Delete k ∷ ps) h e (there m) = stored_sized v (k + 1) ps h.3 e m

-- it rises by key
stored_rising : (v low : ℕ) (ps : List Point) → low ≤ 2 ^ 32 → PointsRise low ps → Rising (2 ^ 32) low (stored_at v ps)
stored_rising v low [] l h = end l
stored_rising v low (Read k ∷ ps) l h = rising_lower (omega (arith, h.0)) (stored_rising v (k + 1) ps (omega (arith, h.1)) h.3)
stored_rising v low (Put k x ∷ ps) l h = link h.0 (stored_rising v (k + 1) ps (omega (arith, h.1)) h.3)
stored_rising v low (Delete k ∷ ps) l h = link h.0 (stored_rising v (k + 1) ps (omega (arith, h.1)) h.3)

-- it stands at its position
pub stored_at_lem : (v : ℕ) (ps : List Point) {x : Entry} → Mem x (stored_at v ps) → x.position ≡ v
stored_at_lem v [] m = elim m [ ]
stored_at_lem v (Read k ∷ ps) m = stored_at_lem v ps m
stored_at_lem v (Put k y ∷ ps) (here e) = ap (λ (x : Entry). x.position) e
stored_at_lem v (Put k y ∷ ps) (there m) = stored_at_lem v ps m
stored_at_lem v (Delete k ∷ ps) (here e) = ap (λ (x : Entry). x.position) e
stored_at_lem v (Delete k ∷ ps) (there m) = stored_at_lem v ps m

-- points that rise from a number rise from a smaller one
rise_lower : (low low' : ℕ) (ps : List Point) → low ≤ low' → PointsRise low' ps → PointsRise low ps
rise_lower low low' [] l h = h
rise_lower low low' (q ∷ ps) l h = (omega (arith, h.0), h.1, h.2, h.3)

-- some of them rise as all do
some_rise : (f : Point → Bool) (low : ℕ) (ps : List Point) → PointsRise low ps → PointsRise low (keep f ps)
some_rise f low [] h = h
some_rise f low (q ∷ ps) h =
    let rest = some_rise f (key_of q + 1) ps h.3 in
    if_ind (PointsRise low) (f q) (λ _. (h.0, h.1, h.2, rest)) (λ _. rise_lower low (key_of q + 1) (keep f ps) (omega (arith, h.0)) rest)

-- A RECORD

-- what is written fits its bytes
pub written_sized : (S : State) (low : ℕ) (ps : List Point) → PointsRise low ps → (e : Entry) → Mem e (writes_of S ps) → EntryFits e
unfolding writes_of
written_sized S low ps h = stored_sized (S.p + 1) low (keep (writes S) ps) (some_rise (writes S) low ps h)

-- it rises by key
pub writes_rising : (S : State) (low : ℕ) (ps : List Point) → low ≤ 2 ^ 32 → PointsRise low ps → Rising (2 ^ 32) low (writes_of S ps)
unfolding writes_of
writes_rising S low ps l h = stored_rising (S.p + 1) low (keep (writes S) ps) l (some_rise (writes S) low ps h)

-- it stands at the position of its record
pub writes_at : (S : State) (ps : List Point) {x : Entry} → Mem x (writes_of S ps) → x.position ≡ S.p + 1
unfolding writes_of
writes_at S ps = stored_at_lem (S.p + 1) (keep (writes S) ps)

-- no points write nothing
pub writes_none : (S : State) → writes_of S [] ≡ []
unfolding writes_of
writes_none S = refl

-- what a record writes fits its bytes
pub record_sized : (S : State) (m : Option Rec) → ValidIf m → (e : Entry) → Mem e (writes_of S (points_of m)) → EntryFits e
record_sized S none w = written_sized S 0 [] tt
record_sized S (some r) w = written_sized S 0 r.points (w r refl).rising
