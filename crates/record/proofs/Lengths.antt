-- A run that was taken has as many points or scans as were asked for.
-- Assumes nothing.
use Prim.Native.Nat.{ℕ, zero, suc, ◌+◌}
use mathlib.Core.Path.{◌≡◌, refl, sym, ap, ◌∙◌}
use mathlib.Core.Bool.{true}
use mathlib.Core.List.{List}
use lib.ListN.{length}
use Rattle.std.specs.Prelude.{Option, Some, None}
use Rattle.record.specs.Parse.{Items, Parsed, also, after, parse_run, list_of, is_took}
use Rattle.record.proofs.Cases.{took_also, list_also}

-- one more in front
length_also : {A : Type 0} (n : ℕ) (a : A) (x : Parsed A) → (is_took x ≡ true → length (list_of x) ≡ n) → is_took (also a x) ≡ true → length (list_of (also a x)) ≡ suc n
length_also n a x h w = let v : is_took x ≡ true = sym (took_also a x) ∙ w in ap length (list_also a x v) ∙ ap suc (h v)

-- one item, and then what follows it
length_after : {A : Type 0} (n : ℕ) (s : Option A) (f : A → Parsed A) → ((a : A) → is_took (f a) ≡ true → length (list_of (f a)) ≡ n)
    → is_took (after s f) ≡ true → length (list_of (after s f)) ≡ suc n
length_after n None f h w = cc
length_after n (Some a) f h w = length_also n a (f a) (h a) w

-- a run
pub run_length : {A : Type 0} (k : Items A) (n least : ℕ) (bs : List ℕ) (at : ℕ) → is_took (parse_run k n least bs at) ≡ true → length (list_of (parse_run k n least bs at)) ≡ n
unfolding parse_run
run_length k zero least bs at w = refl
run_length k (suc n) least bs at w =
    length_after n (k.step least bs at) (λ a. parse_run k n (k.above a) bs (at + k.size a)) (λ a v. run_length k n (k.above a) bs (at + k.size a) v) w
