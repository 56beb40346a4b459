-- What `cut` has promised, carried over to the numbers that C is given.
-- Assumes nothing.
use Prim.Native.Nat.{ℕ}
use mathlib.Core.Path.{◌≡◌, sym, ap, ◌∙◌}
use mathlib.Core.List.{List}
use Rattle.record_log.specs.declared.found.Cut.{Cut}
use Rattle.record_log.specs.Log.{cut_at, CutTold, CutIs}
use Rattle.record_abi.specs.declared.numbers.CutNumbers.{CutNumbers}
use Rattle.record_abi.specs.Numbers.{cut_numbers, of_cut}

-- the numbers of a case of a cut that is known
pub known_cut : (c v : Cut) (place : ℕ) → c ≡ v → of_cut v place ≡ of_cut c place
known_cut c v place e = sym (ap (λ (x : Cut). of_cut x place) e)

-- a cut's numbers
pub cut_carried : (log : List ℕ) (place : ℕ) (c : Cut) → CutIs log place c → (t : CutNumbers) → t ≡ of_cut c place → t ≡ of_cut (cut_at log place) place
cut_carried log place c h t e = e ∙ ap (λ (x : CutTold). cut_numbers x place) h.told
