-- A turn of the loops that fill the lists: what is left of a run, and the stores that are left.
-- Assumes nothing.
use Prim.Native.Nat.{ℕ, ◌+◌, ◌-◌, ◌≤◌, ◌<◌}
use mathlib.Core.Path.{◌≡◌, refl, sym, ap, ◌∙◌}
use mathlib.Core.Bool.{true, false}
use mathlib.Core.List.{List, map}
use borrow.Author.Rules.{rules}
use native.Mathlib.Numerals.{add-one}
use lib.ListN.{set}
use lib.Seq.{sets}
use Rattle.std.specs.Prelude.{Option, Some, None, IsSome}
use Rattle.record.specs.Parse.{Items, Parsed, bad, also, parse_run, list_of, is_took, place_of}
use Rattle.record.proofs.Cases.{took_also, place_also, list_also}
use Rattle.record.proofs.Runs.{run_none, run_some, run_done}

-- A RUN WITH ONE IN FRONT

-- the rest of a run that was taken is taken
turn_whole : {A : Type 0} (x rest : Parsed A) (a : A) → x ≡ also a rest → is_took x ≡ true → is_took rest ≡ true
turn_whole x rest a h w = sym (took_also a rest) ∙ sym (ap is_took h) ∙ w

-- one store made, the stores that are left
turn_list : {A : Type 0} (x rest : Parsed A) (a : A) → x ≡ also a rest → is_took x ≡ true
    → (f : A → ℕ) (l g : List ℕ) (i v : ℕ) → g ≡ sets l i (map f (list_of x)) → v ≡ f a → g ≡ sets (set l i v) (i + 1) (map f (list_of rest))
turn_list {A} x rest a h w f l g i v e k =
    e ∙ ap (λ (y : Parsed A). sets l i (map f (list_of y))) h
    ∙ ap (λ (y : List A). sets l i (map f y)) (list_also a rest (turn_whole x rest a h w))
    ∙ rw (add-one i, k)

-- a run that was taken is not refused
no_took : {A : Type 0} (x : Parsed A) → x ≡ bad → is_took x ≡ true → ⊥
no_took x b w = let z : true ≡ false = sym w ∙ ap is_took b in cc

-- A TURN

module _ {A : Type 0} (k : Items A) (bs : List ℕ) (least at count i : ℕ) where
  module _ (r : Option A) (is : r ≡ k.step least bs at) (more : i < count) (whole : is_took (parse_run k (count - i) least bs at) ≡ true) where
    -- there is an item here
    pub fill_some : IsSome r
    fill_some = some_of r refl
      where
        some_of : (x : Option A) → r ≡ x → IsSome x
        some_of None b = absurd (no_took (parse_run k (count - i) least bs at) (run_none k bs least at count i r is more b) whole)
        some_of (Some a) b = search rules

    module _ (a : A) (size next : ℕ) (b : r ≡ Some a) (s : size ≡ k.size a) (n : next ≡ k.above a) where
      rest : Parsed A
      rest = parse_run k (count - (i + 1)) next bs (at + size)

      -- it stands in front of the rest
      here : parse_run k (count - i) least bs at ≡ also a rest
      unfolding rest
      here = run_some k bs least at count i r is more a size next b s n

      -- the rest is taken
      pub fill_whole : is_took (parse_run k (count - (i + 1)) next bs (at + size)) ≡ true
      unfolding rest
      fill_whole = turn_whole (parse_run k (count - i) least bs at) rest a here whole

      -- the rest ends where the run ends
      pub fill_place : (m : ℕ) → m ≡ place_of (parse_run k (count - i) least bs at) → m ≡ place_of (parse_run k (count - (i + 1)) next bs (at + size))
      unfolding rest
      fill_place m e = e ∙ ap place_of here ∙ place_also a rest

      -- one store made, the stores that are left
      pub fill_list : (f : A → ℕ) (l g : List ℕ) (v : ℕ) → g ≡ sets l i (map f (list_of (parse_run k (count - i) least bs at))) → v ≡ f a
          → g ≡ sets (set l i v) (i + 1) (map f (list_of (parse_run k (count - (i + 1)) next bs (at + size))))
      unfolding rest
      fill_list f l g v e h = turn_list (parse_run k (count - i) least bs at) rest a here whole f l g i v e h

  module _ (no_more : count ≤ i) where
    -- the run ends here
    pub done_place : (m : ℕ) → m ≡ place_of (parse_run k (count - i) least bs at) → at ≡ m
    done_place m e = sym (e ∙ ap place_of (run_done k bs least at count i no_more))

    -- no store is left
    pub done_list : (f : A → ℕ) (l g : List ℕ) → g ≡ sets l i (map f (list_of (parse_run k (count - i) least bs at))) → l ≡ g
    done_list f l g e = sym (e ∙ ap (λ (x : Parsed A). sets l i (map f (list_of x))) (run_done k bs least at count i no_more))
