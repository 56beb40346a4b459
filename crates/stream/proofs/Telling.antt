-- What reads one behind the other leave.
-- Assumes nothing.
use Prim.Native.Nat.{ℕ, ◌≤◌}
use mathlib.Core.Path.{◌≡◌, refl, sym, ap, ◌∙◌}
use mathlib.Core.List.{List}
use native.Mathlib.Omega.{arith}
use lib.ListN.{length, take}
use lib.Seq.{take-take}
use Rattle.stream.specs.declared.input.Filled.{Filled}
use Rattle.stream.specs.Buffer.{Refilled, Reads, none_yet, one_more, FilledUp, full, stopped}

-- what reads one behind the other leave: no more bytes are held than were lent, and none less than at first, and those are as they were
pub record Front (held₀ : ℕ) (before : List ℕ) (held : ℕ) (after : List ℕ) : Type 0 where
  pub inside : held ≤ length after
  pub as_long : length after ≡ length before
  pub least : held₀ ≤ held
  pub kept : take held₀ after ≡ take held₀ before

-- the first bytes of the bytes kept are kept
pub fewer_kept : (k n : ℕ) (after before : List ℕ) → k ≤ n → take n after ≡ take n before → take k after ≡ take k before
fewer_kept k n after before h e = sym (take-take k n after h) ∙ ap (take k) e ∙ take-take k n before h

-- one read more
front_on : {held₀ held : ℕ} {before after after' : List ℕ} {r : Filled} → Front held₀ before held after → Refilled held after after' r
    → Front held₀ before r.held after'
front_on {held₀ = held₀} {held = held} {after = after} {after' = after'} f k =
    record {
      inside = k.most;
      as_long = k.as_long ∙ f.as_long;
      least = omega (arith, f.least, k.least);
      kept = fewer_kept held₀ held after' after f.least k.kept ∙ f.kept;
    }

reads_front : {held₀ : ℕ} {before : List ℕ} {held : ℕ} {after : List ℕ} → held₀ ≤ length before → Reads held₀ before held after → Front held₀ before held after
reads_front h none_yet = record { inside = h; as_long = refl; least = omega arith; kept = refl }
reads_front h (one_more t k some) = front_on (reads_front h t) k

-- and of a buffer filled up
pub filled_front : (held₀ : ℕ) (before after : List ℕ) (r : Filled) → held₀ ≤ length before → FilledUp held₀ before after r → Front held₀ before r.held after
filled_front held₀ before after r h (full t all) = reads_front h t
filled_front held₀ before after r h (stopped t k none) = front_on (reads_front h t) k
