-- NO SECOND ANSWER meets a promise. The logs are lent by `&`, so no byte of them changes: the answer is all there is to fix.
-- Assumes nothing.
use mathlib.Core.Path.{◌≡◌, sym, ◌∙◌}
use Prim.Native.Nat.{ℕ}
use mathlib.Core.List.{List}
use denote.Ref.{Bor}
use Rattle.record_log.specs.declared.found.Cut.{Cut}
use Rattle.record_log.specs.Log.{CutIs, HandedOut, SameSlice}
use Rattle.record_log.proofs.Told.{cut_told_apart}

-- `cut`: one answer for each log and place
pub only_cut : (log : List ℕ) (place : ℕ) (r q : Cut) → CutIs log place r → CutIs log place q → r ≡ q
only_cut log place r q a b = cut_told_apart r q (a.told ∙ sym b.told)

-- `part`: one slice for each log and place
pub only_part : (log : Bor (List ℕ)) (place : ℕ) (r q : Bor (List ℕ)) → HandedOut log place r → HandedOut log place q → SameSlice r q
only_part log place r q a b =
    record { bytes = a.bytes ∙ sym b.bytes; block = a.block ∙ sym b.block; start = a.start ∙ sym b.start }
