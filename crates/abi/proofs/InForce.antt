-- One law for each return of the record in force: after 0 the part lies in the refreshed buffer exactly if it is not empty, since a record
-- that the log rule finds is never empty; after any other answer it lies in the original.
-- Assumes nothing.
use Prim.Native.Nat.{ℕ, ◌≤◌}
use mathlib.Core.Path.{◌≡◌, refl, sym, ap, ◌∙◌, subst}
use mathlib.Core.Bool.{Bool, true, false, cond}
use mathlib.Core.List.{List}
use native.Mathlib.Omega.{arith}
use lib.ListN.{length}
use lib.Dec.{ltb, eqb}
use borrow.Author.Tests.{ne_eqb, eq-eqb, lt-ltb}
use denote.Ref.{Bor}
use Rattle.record_log.specs.declared.found.Cut.{Cut}
use Rattle.record_log.specs.declared.found.Cut.TheVariants.{End, Torn, Impossible, Record}
use Rattle.record_log.specs.Log.{cut_at, part_of}
use Rattle.record_log.proofs.Stands.{record_tells}
use Rattle.record_log.proofs.Walk.{sized_at, sized_range}
use Rattle.in_force.specs.InForce.{Source, original, nothing, source_of, if_cut, bytes_from, InForce}
use Rattle.record_abi.specs.Numbers.{answer}
use Rattle.abi.specs.Told.{in_refreshed, InForceAs}

module _ (n : ℕ) (o b r : Bor (List ℕ)) (h : InForce (answer n) o b r) where
  -- what the bytes are decides the length
  long : length r.now ≡ length (bytes_from (source_of (answer n) b.now) o.now b.now)
  long = ap length h.bytes

  -- after any other answer than 0
  pub after_other : (n ≡ 0 → ⊥) → InForceAs n o.now b.now false 0 (length r.now)
  unfolding source_of
  after_other e = record { slice = of_tests (eqb n 5); start = refl; bytes = long }
    where
      of_tests : (t : Bool) → false ≡ in_refreshed (cond t original (cond (eqb n 0) (if_cut (cut_at b.now 0)) nothing))
      of_tests true = refl
      of_tests false = simp (ne_eqb n 0 e)

  -- after 0 the log rule decides
  source : n ≡ 0 → source_of (answer n) b.now ≡ if_cut (cut_at b.now 0)
  unfolding source_of
  source e =
      let not_ahead : n ≡ 5 → ⊥ = λ f. omega arith in
      simp (ne_eqb n 5 not_ahead, eq-eqb n 0 e)

  -- a record that it finds is not empty
  filled : (c : Cut) → cut_at b.now 0 ≡ c → ltb 0 (length (bytes_from (if_cut c) o.now b.now)) ≡ in_refreshed (if_cut c)
  filled End f = refl
  filled Torn f = refl
  filled Impossible f = refl
  filled (Record next) f =
      let least : 9 ≤ length (part_of (Record next) b.now 0) = (sized_range (sized_at b.now 0 next (record_tells b.now 0 next f))).0 in
      lt-ltb 0 (length (part_of (cut_at b.now 0) b.now 0)) (rw f (omega arith))

  -- after 0
  pub after_zero : n ≡ 0 → InForceAs n o.now b.now (ltb 0 (length r.now)) 0 (length r.now)
  after_zero e = record {
    slice = ap (ltb 0) long
        ∙ subst (λ (s : Source). ltb 0 (length (bytes_from s o.now b.now)) ≡ in_refreshed s) (sym (source e)) (filled (cut_at b.now 0) refl);
    start = refl;
    bytes = long;
  }
