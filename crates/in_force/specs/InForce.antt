-- The record in force (R39).
-- Assumes nothing: these are definitions.
use Rattle.std.specs.Prelude.{ℕ, ◌≡◌, List, [], eqb}
use Rattle.std.specs.Borrow.{Bor}
use Rattle.std.specs.Prelude.{if◌then◌else◌}
use Rattle.record.specs.declared.answer.Answer.{Answer}
use Rattle.record.specs.Answer.{committed, ahead}
use Rattle.record_log.specs.declared.found.Cut.{Cut}
use Rattle.record_log.specs.declared.found.Cut.TheVariants.{End, Torn, Impossible, Record}
use Rattle.record_log.specs.Log.{cut_at, part_of}

-- R39: which of the two lent slices the record in force is a part of
pub data Source : Type 0 where
  original : Source
  refreshed : Source
  nothing : Source

-- R39: after 0, the record at the front of the refreshed buffer, if R14 finds one there
abbrev pub if_cut : Cut → Source
if_cut End = nothing
if_cut Torn = nothing
if_cut Impossible = nothing
if_cut (Record next) = refreshed

-- R39: by the answer and the refreshed buffer
unfoldable pub source_of : Answer → List ℕ → Source
source_of a buffer =
    if eqb a.number ahead.number then original else
    if eqb a.number committed.number then if_cut (cut_at buffer 0) else
    nothing

-- R39: the bytes handed back
abbrev pub bytes_from : Source → List ℕ → List ℕ → List ℕ
bytes_from original o b = o
bytes_from refreshed o b = part_of (cut_at b 0) b 0
bytes_from nothing o b = []

-- R39: where they lie: at the start of the one or of the other
abbrev pub place_from : {P : Type 0} → Source → P → P → P
place_from original o b = o
place_from refreshed o b = b
place_from nothing o b = o

-- R39: what `in_force` promises of the slice that it returns: its bytes, and that it starts where the one or the other starts
pub record InForce (a : Answer) (o b r : Bor (List ℕ)) : Type 0 where
  pub bytes : r.now ≡ bytes_from (source_of a b.now) o.now b.now
  pub block : r.ref_ptr.0 ≡ place_from (source_of a b.now) o.ref_ptr.0 b.ref_ptr.0
  pub start : r.ref_ptr.1 ≡ place_from (source_of a b.now) o.ref_ptr.1 b.ref_ptr.1
