-- What a reason tells says which case it is: the case can be read back out of what is told.
-- Assumes nothing.
use Prim.Native.Nat.{ℕ}
use mathlib.Core.Path.{◌≡◌, refl, sym, ap, ◌∙◌}
use mathlib.Core.Option.{Option, none, some}
use Rattle.words.specs.Choice.{value_or}
use Rattle.reason.specs.declared.told.Touch.{Touch}
use Rattle.reason.specs.declared.told.Touch.TheVariants as Touches
use Rattle.reason.specs.declared.told.Reason.{Reason}
use Rattle.reason.specs.declared.told.Reason.TheVariants.{Nothing, Conflict, TooOld, NoRoom}
use Rattle.reason.specs.Reason.{ReasonTold, reason_told}

-- the case, out of what is told
abbrev of_point : Option ℕ → ℕ → Touch
of_point none j = Touches.Scan j
of_point (some i) j = Touches.Point i

abbrev of_keys : Option ℕ → Reason
of_keys none = Nothing
of_keys (some n) = NoRoom n

abbrev of_lag : Option ℕ → Reason → Reason
of_lag none x = x
of_lag (some n) x = TooOld n

abbrev of_position : Option ℕ → ℕ → Touch → Reason → Reason
of_position none k t x = x
of_position (some w) k t x = Conflict k w t

abbrev of_told : ReasonTold → Reason
of_told t =
    of_position t.position (value_or 0 t.key) (of_point t.point (value_or 0 t.scan)) (of_lag t.lag (of_keys t.keys))

back : (x : Reason) → of_told (reason_told x) ≡ x
back Nothing = refl
back (Conflict k w (Touches.Point i)) = refl
back (Conflict k w (Touches.Scan i)) = refl
back (TooOld n) = refl
back (NoRoom n) = refl

-- reasons that are told alike are one
pub reason_told_apart : (x y : Reason) → reason_told x ≡ reason_told y → x ≡ y
reason_told_apart x y e = sym (back x) ∙ ap of_told e ∙ back y
