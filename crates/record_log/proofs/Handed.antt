-- One law for each return of `part`, and for what its range asks: what `cut` has said decides where the part lies and what it holds.
-- Assumes nothing.
use mathlib.Core.Path.{◌≡◌, refl, sym, ap, ◌∙◌}
use Prim.Native.Nat.{ℕ, ◌+◌, ◌-◌}
use mathlib.Core.List.{List, []}
use native.Mathlib.Omega.{arith}
use lib.ListN.{take, drop}
use denote.Ref.{Bor}
use Rattle.record_log.specs.declared.found.Cut.{Cut}
use Rattle.record_log.specs.declared.found.Cut.TheVariants.{End, Torn, Impossible, Record}
use Rattle.record_log.specs.Log.{cut_at, part_of, start_of, HandedOut, RecordAt}
use Rattle.record_log.proofs.Stands.{record_tells}

-- where `cut` answers a record, one stands there
pub stands : (log : List ℕ) (place next : ℕ) (c : Cut) → c ≡ cut_at log place → c ≡ Record next → RecordAt log place next
stands log place next c is found = record_tells log place next (sym is ∙ found)

module _ (log : Bor (List ℕ)) (place : ℕ) (c : Cut) (is : c ≡ cut_at log.now place) where
  -- none of them, where no record stands
  pub hands_none : ((next : ℕ) → c ≡ Record next → ⊥) → HandedOut log place (record { ref_ptr = log.ref_ptr; now = [] })
  hands_none other =
      record {
        bytes = sym (ap (λ (x : Cut). part_of x log.now place) (sym is) ∙ no_part c other);
        block = refl;
        start = omega (arith, ap (λ (x : Cut). start_of x place) (sym is) ∙ no_start c other);
      }
    where
      no_part : (x : Cut) → ((next : ℕ) → x ≡ Record next → ⊥) → part_of x log.now place ≡ []
      no_part End other = refl
      no_part Torn other = refl
      no_part Impossible other = refl
      no_part (Record n) other = absurd (other n refl)

      no_start : (x : Cut) → ((next : ℕ) → x ≡ Record next → ⊥) → start_of x place ≡ 0
      no_start End other = refl
      no_start Torn other = refl
      no_start Impossible other = refl
      no_start (Record n) other = absurd (other n refl)

  -- the bytes from the first to the last of them, where those are the record's
  pub hands_record : (next : ℕ) → c ≡ Record next → (first last : ℕ) → first ≡ place → last ≡ next
      → HandedOut log place (record { ref_ptr = (log.ref_ptr.0, first + log.ref_ptr.1); now = take (last - first) (drop first log.now) })
  hands_record next found first last from to =
      let e : cut_at log.now place ≡ Record next = sym is ∙ found in
      record {
        bytes = ap (λ (i : ℕ). take (i - first) (drop first log.now)) to ∙ ap (λ (i : ℕ). take (next - i) (drop i log.now)) from ∙ simp e;
        block = refl;
        start = simp e (omega arith);
      }
