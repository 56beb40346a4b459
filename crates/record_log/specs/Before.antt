-- The log rule as it was until there was version 2 (R54): a length could be 7 to 903. What was no record and not the end is one case here: once it
-- was 10 whatever it was, then 10 or 11 as today (R14).
-- Assumes nothing: these are definitions.
use Rattle.std.specs.Prelude.{ℕ, ◌+◌, ◌-◌, ◌≤◌, ◌≡◌, Bool, ◌||◌, List, [], ◌∷◌, length, take, drop, ltb}
use Rattle.std.specs.Prelude.{if◌then◌else◌}
use Rattle.record_log.specs.declared.found.Cut.{Cut}
use Rattle.record_log.specs.declared.found.Cut.TheVariants.{End, Torn, Impossible, Record}
use Rattle.record_log.specs.Log.{length_at, past_at, ends_at}

-- R14 as it was: what could stand at a place
pub data CutBefore : Type 0 where
  -- the place was exactly the log's end
  ended : CutBefore
  -- 10 or 11
  broken : CutBefore
  -- a record, and the place past it
  whole : ℕ → CutBefore

-- R14 as it was, the rows of 10 and 11, said of a place that is not exactly at the end: past it, fewer than two bytes left, a length below 7 or above 903, a
-- record that runs past the end
abbrev pub broken_before : List ℕ → ℕ → Bool
broken_before log place =
    ltb (length log) (place + 2) || ltb (length log) place || ltb (length_at log place) 7 || ltb 903 (length_at log place)
    || ltb (length log) (past_at log place)

-- R14 as it was: what stood at a place, the first row that applied
unfoldable pub cut_before : List ℕ → ℕ → CutBefore
cut_before log place =
    if ends_at log place then ended else
    if broken_before log place then broken else
    whole (past_at log place)

-- R14: what is said today, in the words of then
abbrev pub said_before : Cut → CutBefore
said_before End = ended
said_before Torn = broken
said_before Impossible = broken
said_before (Record next) = whole next

-- R14 as it was, R15: the steps of then led from a place to "end", and handed out these parts
pub data EndedBefore (log : List ℕ) : ℕ → List (List ℕ) → Type 0 where
  ends : {place : ℕ} → cut_before log place ≡ ended → EndedBefore log place []
  hands : {place next : ℕ} {parts : List (List ℕ)} → cut_before log place ≡ whole next → EndedBefore log next parts
      → EndedBefore log place (take (next - place) (drop place log) ∷ parts)

-- R8 as it was: each of these parts has 905 bytes at the most
abbrev pub SmallBefore : List (List ℕ) → Type 0
SmallBefore [] = Unit
SmallBefore (part ∷ parts) = (length part ≤ 905) × SmallBefore parts
