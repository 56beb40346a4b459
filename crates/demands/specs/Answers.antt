-- No second answer meets a promise (R43).
-- Assumes nothing: these are definitions.
use Rattle.std.specs.Prelude.{◌≡◌}

-- R43: two answers that meet a promise are the same. An answer here is all that a call gives back and all that it may change, together
abbrev pub OneAnswer : {A : Type 0} → (A → Type 0) → Type 0
OneAnswer {A} Promise = (x y : A) → Promise x → Promise y → x ≡ y
