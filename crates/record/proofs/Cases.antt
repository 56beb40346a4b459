-- Small laws of cases: by the value of a test, by what a run of points or scans came to, and what cannot be.
-- Assumes nothing.
use Prim.Native.Nat.{ℕ}
use mathlib.Core.Path.{◌≡◌, refl, ap}
use mathlib.Core.Bool.{Bool, true, false, ◌&&◌}
use mathlib.Core.Option.{Option, none, some}
use mathlib.Core.List.{List, ◌∷◌}
use Rattle.std.specs.Prelude.{Option as Optional, Some, None}
use Rattle.record.specs.Parse.{Parsed, bad, took, also, after, end_of, is_took, list_of, place_of}

-- a test is true or false
pub by_case : {P : Type 0} (b : Bool) → (b ≡ true → P) → (b ≡ false → P) → P
by_case true f g = f refl
by_case false f g = g refl

-- both parts of a conjunction that is true
pub and_split : {P : Type 0} (a b : Bool) → (a && b) ≡ true → (a ≡ true → b ≡ true → P) → P
and_split true true e k = k refl refl
and_split true false e k = k refl e
and_split false b e k = cc

-- a conjunction of two that are true
pub both : {a b : Bool} → a ≡ true → b ≡ true → (a && b) ≡ true
both e f = rw (e, f)

-- no value is a value
pub no_some : {A P : Type 0} {a : A} → ◌≡◌ {A = Option A} none (some a) → P
no_some e = cc

-- a run was refused or taken
pub took_or : {A P : Type 0} (x : Parsed A) → (x ≡ bad → P) → ((xs : List A) (at : ℕ) → x ≡ took xs at → P) → P
took_or bad f g = f refl
took_or (took xs at) f g = g xs at refl

-- a run without an end was refused
pub bad_end : {A : Type 0} (x : Parsed A) → end_of x ≡ None → x ≡ bad
bad_end bad e = refl
bad_end (took xs at) e = cc

-- a run with an end was taken
pub took_at : {A : Type 0} (x : Parsed A) (e : ℕ) → end_of x ≡ Some e → x ≡ took (list_of x) e
took_at bad e h = cc
took_at (took xs at) e h = let z : at ≡ e = cc in ap (took xs) z

-- a run that was taken ends at its place
pub took_end : {A : Type 0} (x : Parsed A) → is_took x ≡ true → end_of x ≡ Some (place_of x)
took_end bad w = cc
took_end (took xs at) w = refl

-- one more in front changes neither whether the run was taken nor where it ends
pub end_also : {A : Type 0} (a : A) (x : Parsed A) → end_of (also a x) ≡ end_of x
end_also a bad = refl
end_also a (took xs at) = refl

pub took_also : {A : Type 0} (a : A) (x : Parsed A) → is_took (also a x) ≡ is_took x
took_also a bad = refl
took_also a (took xs at) = refl

pub place_also : {A : Type 0} (a : A) (x : Parsed A) → place_of (also a x) ≡ place_of x
place_also a bad = refl
place_also a (took xs at) = refl

pub list_also : {A : Type 0} (a : A) (x : Parsed A) → is_took x ≡ true → list_of (also a x) ≡ a ∷ list_of x
list_also a bad e = cc
list_also a (took xs at) e = refl

-- a run that was taken and has one in front came of a run that was taken
pub also_took : {A P : Type 0} (a : A) (x : Parsed A) (ys : List A) (e : ℕ) → also a x ≡ took ys e
    → ((xs : List A) → x ≡ took xs e → ys ≡ a ∷ xs → P) → P
also_took a bad ys e h k = cc
also_took a (took xs at) ys e h k = k xs (let z : at ≡ e = cc in ap (took xs) z) (cc)

-- a run that was taken: its first item, and the run after it
pub after_took : {A P : Type 0} (s : Optional A) (f : A → Parsed A) (xs : List A) (e : ℕ) → after s f ≡ took xs e
    → ((a : A) (ys : List A) → s ≡ Some a → f a ≡ took ys e → xs ≡ a ∷ ys → P) → P
after_took None f xs e h k = cc
after_took (Some a) f xs e h k = also_took a (f a) xs e h (λ ys b d. k a ys refl b d)
