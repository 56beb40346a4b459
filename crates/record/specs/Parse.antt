-- Reading a record's bytes, by one walk with a place. `parse_is` (proofs/RoundTrip.antt) says what it means: the bytes parse to r
-- exactly if r keeps the rules and the bytes are r's.
-- Assumes nothing: these are definitions.
use Rattle.std.specs.Prelude.{ℕ, zero, suc, ◌+◌, Bool, true, false, ◌&&◌, ◌≡◌, List, [], ◌∷◌, length, get_or, leb, ltb, eqb}
use Rattle.std.proofs.Math.Option.{Option, none, some}
use Rattle.std.specs.Prelude.{Option as Optional, Some, None}
use Rattle.std.specs.Prelude.{if◌then◌else◌}
use Rattle.words.specs.Word.{word}
use Rattle.record.specs.declared.answer.Answer.{Answer}
use Rattle.record.specs.declared.point.Point.{Point}
use Rattle.record.specs.declared.point.Point.TheVariants.{Read, Put, Delete}
use Rattle.record.specs.declared.point.Scan.{Scan}
use Rattle.record.specs.declared.checker.Head.{Head}
use Rattle.record.specs.Answer.{committed, malformed}
use Rattle.record.specs.Record.{Rec, key_of, size_of, max_points, max_scans, version_for, count_width, head_size}

-- the point of the kind given whose bytes stand at a place
abbrev pub point_as : ℕ → List ℕ → ℕ → Optional Point
point_as kind bs at =
    if eqb kind 1 then Some (Read (word 4 bs (at + 1))) else
    if eqb kind 3 then Some (Delete (word 4 bs (at + 1))) else
    if eqb kind 2 then (if ltb (length bs) (at + 13) then None else Some (Put (word 4 bs (at + 1)) (word 8 bs (at + 5)))) else
    None

-- the point at a place, if its kind is known, it lies within the bytes and its key is at least low
unfoldable pub step_point : ℕ → List ℕ → ℕ → Optional Point
step_point low bs at =
    if ltb (length bs) (at + 5) then None else
    if ltb (word 4 bs (at + 1)) low then None else
    point_as (get_or bs at 0) bs at

-- the scan at a place, if it lies within the bytes, its low is at least the floor and at most its high
unfoldable pub step_scan : ℕ → List ℕ → ℕ → Optional Scan
step_scan floor bs at =
    if ltb (length bs) (at + 8) then None else
    if ltb (word 4 bs at) floor then None else
    if ltb (word 4 bs (at + 4)) (word 4 bs at) then None else
    Some (record { low = word 4 bs at; high = word 4 bs (at + 4) })

-- how items stand one behind the other: the item at a place, if it keeps the rules and is no lower than a number; how many bytes it has; and the
-- number that the item behind it must reach
pub record Items (A : Type 0) : Type 0 where
  pub step : ℕ → List ℕ → ℕ → Optional A
  pub size : A → ℕ
  pub above : A → ℕ

-- each key is above the one before
abbrev pub point_items : Items Point
point_items = record { step = step_point; size = size_of; above = λ p. key_of p + 1 }

-- each low is above the high before it
abbrev pub scan_items : Items Scan
scan_items = record { step = step_scan; size = λ c. 8; above = λ c. c.high + 1 }

-- what a run of items comes to: a list of them and the place past them, or a refusal
pub data Parsed (A : Type 0) : Type 0 where
  bad : Parsed A
  took : List A → ℕ → Parsed A

-- one more in front
abbrev pub also : {A : Type 0} → A → Parsed A → Parsed A
also a bad = bad
also a (took xs at) = took (a ∷ xs) at

-- an item, if there is one, and then what follows it
abbrev pub after : {A : Type 0} → Optional A → (A → Parsed A) → Parsed A
after None rest = bad
after (Some a) rest = also a (rest a)

-- n items from a place on, the first no lower than a number
unfoldable pub parse_run : {A : Type 0} → Items A → ℕ → ℕ → List ℕ → ℕ → Parsed A
parse_run k zero low bs at = took [] at
parse_run k (suc n) low bs at = after (k.step low bs at) (λ a. parse_run k n (k.above a) bs (at + k.size a))

-- n points from a place on, the first key at least low, each above the one before
abbrev pub parse_points : ℕ → ℕ → List ℕ → ℕ → Parsed Point
parse_points = parse_run point_items

-- n scans from a place on, the first low at least the floor, each above the high before it
abbrev pub parse_scans : ℕ → ℕ → List ℕ → ℕ → Parsed Scan
parse_scans = parse_run scan_items

-- where a run ends
abbrev pub end_of : {A : Type 0} → Parsed A → Optional ℕ
end_of bad = None
end_of (took xs at) = Some at

-- whether a run was taken, its list, and the place past it (0 for a refusal)
abbrev pub is_took : {A : Type 0} → Parsed A → Bool
is_took bad = false
is_took (took xs at) = true

abbrev pub list_of : {A : Type 0} → Parsed A → List A
list_of bad = []
list_of (took xs at) = xs

abbrev pub place_of : {A : Type 0} → Parsed A → ℕ
place_of bad = 0
place_of (took xs at) = at

-- the version stands at 2, the snapshot at 3, the two counts from 7 on, as wide as the version says, and the first point behind them
abbrev pub version_in : List ℕ → ℕ
version_in bs = get_or bs 2 0

unfoldable pub point_count : List ℕ → ℕ
point_count bs = word (count_width (version_in bs)) bs 7

unfoldable pub scan_count : List ℕ → ℕ
scan_count bs = word (count_width (version_in bs)) bs (7 + count_width (version_in bs))

unfoldable pub first_point : List ℕ → ℕ
first_point bs = head_size (version_in bs)

-- R6, R7, R53: counts that are not too large, and the version is theirs
unfoldable pub counts_ok : ℕ → ℕ → ℕ → Bool
counts_ok version points scans = leb points max_points && (leb scans max_scans && eqb (version_for points scans) version)

-- the bytes reach behind the counts, the length is theirs, and the version and the counts are right
unfoldable pub head_ok : List ℕ → Bool
head_ok bs =
    leb (first_point bs) (length bs) && (eqb (word 2 bs 0 + 2) (length bs) && counts_ok (version_in bs) (point_count bs) (scan_count bs))

-- how many points and scans there are, and where the first point stands, if version and counts are right
unfoldable pub head_for : ℕ → ℕ → ℕ → Optional Head
head_for version points scans =
    if counts_ok version points scans then Some (record { points = points; scans = scans; start = head_size version }) else None

-- the same of bytes
abbrev pub head_in : List ℕ → Head
head_in bs = record { points = point_count bs; scans = scan_count bs; start = first_point bs }

-- if the whole head is right
unfoldable pub head_of : List ℕ → Optional Head
head_of bs = if head_ok bs then Some (head_in bs) else None

abbrev pub on_took : {A B : Type 0} → Parsed A → (List A → ℕ → Option B) → Option B
on_took bad f = none
on_took (took xs at) f = f xs at

-- the record that the bytes are, if they are well formed
unfoldable pub parse : List ℕ → Option Rec
parse bs =
    if head_ok bs
    then (on_took (parse_points (point_count bs) 0 bs (first_point bs)) λ ps at.
    on_took (parse_scans (scan_count bs) 0 bs at) λ cs end.
    if eqb end (length bs) then some (record { snapshot = word 4 bs 3; points = ps; scans = cs }) else none)
    else none

-- the head of a record that is well formed
abbrev pub well_formed : Option Rec → List ℕ → Optional Head
well_formed none bs = None
well_formed (some r) bs = Some (head_in bs)

-- R53: the version byte says 2; a record with another is malformed or has at most 64 points and at most 8 scans
abbrev pub is_large : List ℕ → Bool
is_large bs = eqb (version_in bs) 2

-- 0 for a well-formed record, else 4
abbrev pub check_of : Option Rec → Answer
check_of none = malformed
check_of (some r) = committed

-- R11: what `check` promises of its answer
abbrev pub CheckIs : List ℕ → Answer → Type 0
CheckIs bytes a = a ≡ check_of (parse bytes)
