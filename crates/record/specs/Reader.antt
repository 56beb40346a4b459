-- What the reader answers, and what it leaves in the five lists that it is lent.
-- Assumes nothing: these are definitions.
use Rattle.std.specs.Prelude.{ℕ, Bool, true, ◌&&◌, ◌≡◌, List, ◌++◌, map, length, take, drop, leb, Result, Ok, Err}
use Rattle.std.proofs.Math.Option.{Option, none, some}
use Rattle.std.specs.Prelude.{if◌then◌else◌}
use Rattle.record.specs.declared.answer.Answer.{Answer}
use Rattle.record.specs.declared.point.Scan.{Scan}
use Rattle.record.specs.declared.reader.Reading.{Reading}
use Rattle.record.specs.Answer.{malformed, output_short}
use Rattle.record.specs.Parse.{parse}
use Rattle.record.specs.Record.{Rec, kind_of, key_of, payload_of}

-- R7: a scan's low
abbrev pub low_of : Scan → ℕ
low_of c = c.low

-- R7: a scan's high
abbrev pub high_of : Scan → ℕ
high_of c = c.high

-- R10: the points as three lists and the scans as two
pub record Lists : Type 0 where
  pub kinds : List ℕ
  pub keys : List ℕ
  pub payloads : List ℕ
  pub lows : List ℕ
  pub highs : List ℕ

-- R10: the five together
abbrev pub lists : List ℕ → List ℕ → List ℕ → List ℕ → List ℕ → Lists
lists ks es xs ls hs = record { kinds = ks; keys = es; payloads = xs; lows = ls; highs = hs }

-- R11: what a call gives back and what it leaves in the lists
pub record ReadOutcome : Type 0 where
  pub reading : Result Reading Answer
  pub left : Lists

-- R11: the two together
abbrev pub read_outcome : Result Reading Answer → Lists → ReadOutcome
read_outcome r l = record { reading = r; left = l }

-- R10, R11: vs at the front of l, and the rest of l as before
abbrev pub front : List ℕ → List ℕ → List ℕ
front vs l = vs ++ drop (length vs) l

-- R11: each list has room for what goes into it
abbrev pub roomy : Rec → Lists → Bool
roomy r l =
    leb (length r.points) (length l.kinds) && (leb (length r.points) (length l.keys)
    && (leb (length r.points) (length l.payloads)
    && (leb (length r.scans) (length l.lows) && leb (length r.scans) (length l.highs))))

-- R11: the lists have room for the record that the bytes are, if they are one
abbrev pub RoomFor : List ℕ → Lists → Type 0
RoomFor bytes l = (r : Rec) → parse bytes ≡ some r → roomy r l ≡ true

-- R11: the lists with the record at their fronts
abbrev pub filled : Rec → Lists → Lists
filled r l =
    lists (front (map kind_of r.points) l.kinds) (front (map key_of r.points) l.keys) (front (map payload_of r.points) l.payloads)
    (front (map low_of r.scans) l.lows) (front (map high_of r.scans) l.highs)

-- what the reader gives back for a record that it has read (R11): its snapshot and both counts
abbrev pub reading_of : Rec → Reading
reading_of r = record { snapshot = r.snapshot; points = length r.points; scans = length r.scans }

-- R11: how many points were read; none with a refusal
abbrev pub points_read : Result Reading Answer → ℕ
points_read (Ok q) = q.points
points_read (Err a) = 0

-- R11: how many scans were read; none with a refusal
abbrev pub scans_read : Result Reading Answer → ℕ
scans_read (Ok q) = q.scans
scans_read (Err a) = 0

-- R11: what the reader answers and leaves, the first row that applies
unfoldable pub read_of : Option Rec → Lists → ReadOutcome
read_of none l = read_outcome (Err malformed) l
read_of (some r) l =
    if roomy r l
    then read_outcome (Ok (reading_of r)) (filled r l)
    else read_outcome (Err output_short) l

-- the points and scans at the fronts of the lists after a reading, as many as it has counted (R11)
abbrev pub fronts : Reading → Lists → Lists
fronts q l =
    lists (take q.points l.kinds) (take q.points l.keys) (take q.points l.payloads) (take q.scans l.lows) (take q.scans l.highs)

-- R11: what `read` promises of bytes and of the lists as they were: the reading or the refusal r, and the lists afterwards
abbrev pub ReadsAs : List ℕ → Lists → Result Reading Answer → Lists → Type 0
ReadsAs bytes before r after = read_outcome r after ≡ read_of (parse bytes) before
