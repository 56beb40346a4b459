-- What storing and counting the held scan meets. Assumes nothing.
use Prim.Native.Nat.{ℕ, ◌+◌, ◌≤◌}
use mathlib.Core.Path.{◌≡◌, sym, ap, ◌∙◌}
use mathlib.Core.Bool.{Bool}
use mathlib.Core.List.{List, append-nil}
use native.Mathlib.Omega.{arith}
use lib.ListN.{length}
use lib.Seq.{sets}
use Rattle.std.specs.Prelude.{Option, Some, None}
use Rattle.std.specs.Int.{from_bool}
use Rattle.std.specs.Option.{is_some}
use Rattle.record.specs.declared.point.Scan.{Scan}
use Rattle.record.specs.Record.{scan_bytes, scans_bytes}
use Rattle.record.proofs.Sizes.{scan_bytes_size}
use Rattle.joiner.specs.ScanSteps.{held_scans}

-- it is one or none
pub held_few : (h : Option Scan) → length (held_scans h) ≤ 1
held_few None = omega arith
held_few (Some c) = omega arith

-- and that is what is counted
pub held_count : (h : Option Scan) (b : Bool) (n : ℕ) → b ≡ is_some h → n ≡ from_bool b → n ≡ length (held_scans h)
held_count None b n i e = e ∙ rw i
held_count (Some c) b n i e = e ∙ rw i

module _ (h : Option Scan) (c : Scan) (is : h ≡ Some c) where
  -- its bytes
  held_bytes : scans_bytes (held_scans h) ≡ scan_bytes c
  held_bytes = rw is (append-nil (scan_bytes c))

  -- there are eight of them
  held_size : length (scans_bytes (held_scans h)) ≡ 8
  held_size = ap length held_bytes ∙ scan_bytes_size c

  -- there is room for it
  pub held_room : (at n : ℕ) → at + length (scans_bytes (held_scans h)) ≤ n → at + 8 ≤ n
  held_room at n r = omega (arith, held_size)

  -- it is stored
  pub held_stored : (at : ℕ) (s q : List ℕ) → q ≡ sets s at (scan_bytes c) → q ≡ sets s at (scans_bytes (held_scans h))
  held_stored at s q e = e ∙ ap (sets s at) (sym held_bytes)

  -- the place behind it
  pub held_place : (at : ℕ) → at + 8 ≡ at + length (scans_bytes (held_scans h))
  held_place at = omega (arith, held_size)
