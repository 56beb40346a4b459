-- No second answer of `fit`.
-- Assumes nothing.
use mathlib.Core.Path.{◌≡◌, refl, sym}
use mathlib.Core.Bool.{Bool, true, false}
use Rattle.fit.specs.Whole.{Decides}

pub only : (P : Type 0) (r r' : Bool) → Decides P r → Decides P r' → r ≡ r'
only P true true d e = refl
only P true false d e = sym (e.complete (d.sound refl))
only P false true d e = d.complete (e.sound refl)
only P false false d e = refl
