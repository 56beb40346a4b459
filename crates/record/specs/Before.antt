-- The record rule as it was until there was version 2 (R54): version 1 alone, each count in one byte, at most 64 points and 8 scans.
-- Assumes nothing: these are definitions.
use Rattle.std.specs.Prelude.{ℕ, ◌+◌, Bool, ◌&&◌, List, length, get_or, leb, eqb}
use Rattle.std.proofs.Math.Option.{Option, none, some}
use Rattle.std.specs.Prelude.{if◌then◌else◌}
use Rattle.words.specs.Word.{word}
use Rattle.record.specs.Record.{Rec}
use Rattle.record.specs.Parse.{parse_points, parse_scans, on_took}

-- R54: the length, the version and the two counts were right
unfoldable pub head_ok_before : List ℕ → Bool
head_ok_before bs =
    leb 9 (length bs) && (eqb (word 2 bs 0 + 2) (length bs) && (eqb (get_or bs 2 0) 1 && (leb (get_or bs 7 0) 64 && leb (get_or bs 8 0) 8)))

-- R54: the record that the bytes were, if they were well formed then
unfoldable pub parse_before : List ℕ → Option Rec
parse_before bs =
    if head_ok_before bs
    then (on_took (parse_points (get_or bs 7 0) 0 bs 9) λ ps at.
    on_took (parse_scans (get_or bs 8 0) 0 bs at) λ cs end.
    if eqb end (length bs) then some (record { snapshot = word 4 bs 3; points = ps; scans = cs }) else none)
    else none
