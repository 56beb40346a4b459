-- The answer to a record and what it leaves behind (R23 to R29): 6, 4, 5, 2, 1, 3, 0 in this order. (7 to 10 concern bytes.)
-- Assumes nothing: these are definitions.
use Rattle.std.specs.Prelude.{ℕ, ◌+◌, ◌-◌, Bool, ◌&&◌, ◌||◌, List, [], ◌∷◌, ◌++◌, map, ltb, leb, length}
use Rattle.std.proofs.Math.Option.{Option, none, some}
use Rattle.record.specs.Record.{Rec}
use Rattle.record.specs.Answer as Names
use Rattle.record.specs.declared.answer.Answer.{Answer}
use Rattle.record.specs.declared.point.Point.{Point}
use Rattle.record.specs.declared.point.Scan.{Scan}
use Rattle.std.specs.Prelude.{if◌then◌else◌}
use Rattle.rules.specs.Lists.{any, keep, distinct}
use Rattle.rules.specs.State.{Entry, State, key_in, is_live, last_position}
use Rattle.rules.specs.Footprint.{reach, meets, writes_of}

-- R23: what a meld can answer where the pool is fit
pub data Verdict : Type 0 where
  committed : Verdict
  conflict : Verdict
  too_old : Verdict
  no_room : Verdict
  malformed : Verdict
  ahead : Verdict
  positions_used_up : Verdict

-- R3: the number of each
abbrev pub verdict_answer : Verdict → Answer
verdict_answer committed = Names.committed
verdict_answer conflict = Names.conflict
verdict_answer too_old = Names.too_old
verdict_answer no_room = Names.no_room
verdict_answer malformed = Names.malformed
verdict_answer ahead = Names.ahead
verdict_answer positions_used_up = Names.positions_used_up

-- AHEAD, TOO OLD, CONFLICT

-- R24: an entry that is named or scanned, and written above s
unfoldable pub hits : ℕ → List Scan → Entry → Bool
hits s f e = ltb s e.position && meets f e.key (e.key + 1)

-- R24, for a snapshot s and what is named or scanned: some kept key of it was last written above s
abbrev pub conflicts_at : State → ℕ → List Scan → Bool
conflicts_at S s f = any (hits s f) S.kept

-- R24, for a record
abbrev pub conflicts : State → Rec → Bool
conflicts S r = conflicts_at S r.snapshot (reach r)

-- R23's rows 5, 2 and 1, for a snapshot s and what is named or scanned: the first that applies, and where none does, this other answer
unfoldable pub refusal_or : State → ℕ → List Scan → Verdict → Verdict
refusal_or S s f other =
    if ltb S.p s then ahead else
    if ltb S.Z (S.p - s) then too_old else
    if conflicts_at S s f then conflict else
    other

-- WHAT A COMMIT LEAVES

-- R28: an entry in its place among entries that rise by key, instead of the one of its key
unfoldable pub store : Entry → List Entry → List Entry
store e [] = e ∷ []
store e (x ∷ xs) =
    if ltb e.key x.key then e ∷ x ∷ xs else
    if ltb x.key e.key then x ∷ store e xs else
    e ∷ xs

-- R28: several, one after the other
unfoldable pub store_all : List Entry → List Entry → List Entry
store_all [] kept = kept
store_all (e ∷ es) kept = store_all es (store e kept)

-- R26: live at v, or a tombstone w with w + Z > v; R27: the others are old
unfoldable pub young : ℕ → ℕ → Entry → Bool
young Z v e = is_live e.payload || ltb v (e.position + Z)

-- R28: what the record writes stored at v, in all that is kept
abbrev pub whole : State → List Point → List Entry
whole S ps = store_all (writes_of S ps) S.kept

-- R28, where the old tombstones are dropped first
abbrev pub lean : State → List Point → List Entry
lean S ps = store_all (writes_of S ps) (keep (young S.Z (S.p + 1)) S.kept)

-- the keys that R27 takes: the kept ones and those that the record writes
abbrev pub kept_or_written : State → List Point → List ℕ
kept_or_written S ps = map key_in S.kept ++ map key_in (writes_of S ps)

-- R27: the old tombstones are dropped if these keys, each counted once, are more than N
unfoldable pub drops : State → List Point → Bool
drops S ps = ltb S.N (length (distinct (kept_or_written S ps)))

-- R27 and R28
unfoldable pub apply : State → List Point → List Entry
apply S ps = if drops S ps then lean S ps else whole S ps

-- NO ROOM

-- the keys that R26 takes: the live ones, those with a tombstone w with w + Z > v, and those that the record writes
abbrev pub counted : State → List Point → List ℕ
counted S ps = map key_in (keep (young S.Z (S.p + 1)) S.kept) ++ map key_in (writes_of S ps)

-- R26: how many keys have to find room
unfoldable pub count : State → List Point → ℕ
count S ps = length (distinct (counted S ps))

-- R23's rows 3 and 0: no room if they are more than N (R26)
abbrev pub no_room_or_committed : State → List Point → Verdict
no_room_or_committed S ps = if ltb S.N (count S ps) then no_room else committed

-- THE VERDICT

-- R23: rows 5, 2, 1, 3 and 0
unfoldable pub judge : State → Rec → Verdict
judge S r = refusal_or S r.snapshot (reach r) (no_room_or_committed S r.points)

-- R23: row 4 before them; none stands for bytes that are no well-formed record
abbrev pub formed : State → Option Rec → Verdict
formed S none = malformed
formed S (some r) = judge S r

-- R23: row 6 before all. Row 7 concerns bytes that mean no state
unfoldable pub verdict : State → Option Rec → Verdict
verdict S m = if leb last_position S.p then positions_used_up else formed S m

-- LEFT BEHIND

-- R9: the points of a record, none where it is malformed
abbrev pub points_of : Option Rec → List Point
points_of none = []
points_of (some r) = r.points

-- R29: p + 1, with these entries
abbrev pub step : State → List Entry → State
step S es = record { N = S.N; Z = S.Z; p = S.p + 1; kept = es }

-- R23's last column
abbrev pub left : State → List Point → Verdict → State
left S ps committed = step S (apply S ps)
left S ps conflict = step S S.kept
left S ps too_old = step S S.kept
left S ps no_room = step S S.kept
left S ps malformed = step S S.kept
left S ps ahead = step S S.kept
left S ps positions_used_up = S

-- R29: the state after a record
unfoldable pub next : State → Option Rec → State
next S m = left S (points_of m) (verdict S m)
