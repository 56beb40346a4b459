-- The two numbers of a cut tell the four cases apart: a record's place past it is above its place.
-- Assumes nothing.
use Prim.Native.Nat.{ℕ}
use mathlib.Core.Path.{◌≡◌, refl, sym, ap, ◌∙◌}
use mathlib.Core.List.{List}
use native.Mathlib.Omega.{arith}
use Rattle.record_log.specs.declared.found.Cut.{Cut}
use Rattle.record_log.specs.declared.found.Cut.TheVariants.{End, Torn, Impossible, Record}
use Rattle.record_log.specs.Log.{cut_at}
use Rattle.record_log.proofs.Stands.{record_tells}
use Rattle.record_abi.specs.declared.numbers.CutNumbers.{CutNumbers}
use Rattle.record_abi.specs.Numbers.{found, of_cut}
use Rattle.record_abi.specs.Told.{CutsAs, CutTells}

pub cut_tells : (log : List ℕ) (place n next : ℕ) → CutsAs log place (found n next) → CutTells log place n next
cut_tells log place n next h = go (cut_at log place) refl h
  where
    go : (c : Cut) → cut_at log place ≡ c → found n next ≡ of_cut c place → CutTells log place n next
    go End is q =
        let a : n ≡ 0 = ap (λ (t : CutNumbers). t.number) q in
        let b : next ≡ place = ap (λ (t : CutNumbers). t.next) q in
        record { torn_is = λ e. absurd (omega arith); impossible_is = λ e. absurd (omega arith); end_is = λ _ _. is; record_is = λ _ e. absurd (omega arith) }
    go Torn is q =
        let a : n ≡ 10 = ap (λ (t : CutNumbers). t.number) q in
        record { torn_is = λ _. is; impossible_is = λ e. absurd (omega arith); end_is = λ e _. absurd (omega arith); record_is = λ e _. absurd (omega arith) }
    go Impossible is q =
        let a : n ≡ 11 = ap (λ (t : CutNumbers). t.number) q in
        record { torn_is = λ e. absurd (omega arith); impossible_is = λ _. is; end_is = λ e _. absurd (omega arith); record_is = λ e _. absurd (omega arith) }
    go (Record past) is q =
        let a : n ≡ 0 = ap (λ (t : CutNumbers). t.number) q in
        let b : next ≡ past = ap (λ (t : CutNumbers). t.next) q in
        let beyond = record_tells log place past is in
        record {
          torn_is = λ e. absurd (omega arith);
          impossible_is = λ e. absurd (omega arith);
          end_is = λ _ e. absurd (omega (arith, beyond.past));
          record_is = λ _ _. is ∙ ap Record (sym b);
        }
