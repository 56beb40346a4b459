-- The pool's answers and results, put together from the plain numbers that C is given. Those of the record part stand in `record_abi`.
-- Assumes nothing: these are definitions.
use Rattle.std.specs.Prelude.{ℕ, eqb, Result, Ok, Err}
use Rattle.record.specs.declared.answer.Answer.{Answer}
use Rattle.words.specs.Choice.{value_or}
use Rattle.std.specs.Prelude.{if◌then◌else◌}
use Rattle.record_abi.specs.Numbers.{answer, number_in}
use Rattle.meld.specs.declared.kept.Lookup.{Lookup}
use Rattle.meld.specs.declared.kept.Status.{Status}
use Rattle.meld.specs.declared.melding.Melded.{Melded}
use Rattle.meld.specs.Lookups.{LookupTold, lookup_told}
use Rattle.pages.specs.declared.told.Happened.{Happened}
use Rattle.pages.specs.declared.told.Happened.TheVariants.{Decided, Refused, More, End}
use Rattle.pages.specs.declared.told.Fed.{Fed}
use Rattle.reason.specs.declared.told.Touch.{Touch}
use Rattle.reason.specs.declared.told.Reason.{Reason}
use Rattle.reason.specs.declared.told.Explained.{Explained}
use Rattle.reason.specs.Reason.{ReasonTold, reason_told, point_in, scan_in}
use Rattle.abi.specs.declared.numbers.StatusNumbers.{StatusNumbers}
use Rattle.abi.specs.declared.numbers.LookupNumbers.{LookupNumbers}
use Rattle.abi.specs.declared.numbers.HappenedNumbers.{HappenedNumbers}
use Rattle.abi.specs.declared.numbers.TouchNumbers.{TouchNumbers}
use Rattle.abi.specs.declared.numbers.ReasonNumbers.{ReasonNumbers}

-- what meld gives back, from the number and the looks
abbrev pub melded : ℕ → ℕ → Melded
melded n looks = record { answer = answer n; looks = looks }

-- the six numbers of a status: the answer's and the five others
abbrev pub status_from : ℕ → ℕ → ℕ → ℕ → ℕ → ℕ → StatusNumbers
status_from n N Z p kept tombstones = record { number = n; limit = N; zone = Z; position = p; kept = kept; tombstones = tombstones }

-- so 0 with what is told, and a refusal's number with five times 0 (R45)
abbrev pub of_status : Result Status Answer → StatusNumbers
of_status (Ok s) = status_from 0 s.limit s.zone s.position s.kept s.tombstones
of_status (Err a) = status_from a.number 0 0 0 0 0

-- the three numbers of a lookup
abbrev pub looked_up : ℕ → ℕ → ℕ → LookupNumbers
looked_up n x w = record { number = n; payload = x; position = w }

-- what a lookup tells, as numbers: the payload and the position are 0 where none is told
abbrev pub lookup_numbers : LookupTold → LookupNumbers
lookup_numbers t = looked_up (number_in t.answer) (value_or 0 t.payload) (value_or 0 t.position)

-- so 7, 0 and 0 for an unfit pool; 0, 0 and 0 for an absent key; 0, the payload and the position for one that is found (R31)
abbrev pub of_lookup : Lookup → LookupNumbers
of_lookup l = lookup_numbers (lookup_told l)

-- what a call of feed has done, as a number of its own, and the answer's number, 0 where there is none
abbrev pub happened_numbers : ℕ → ℕ → HappenedNumbers
happened_numbers happened n = record { happened = happened; number = n }

-- so 0 and its answer for a refusal, 1 and the verdict for a record that was decided, 2 and 0 for more, 3 and 0 for the end (R47)
abbrev pub of_happened : Happened → HappenedNumbers
of_happened (Decided a) = happened_numbers 1 a.number
of_happened (Refused a) = happened_numbers 0 a.number
of_happened More = happened_numbers 2 0
of_happened End = happened_numbers 3 0

-- the five numbers of a call of feed
pub record FedNumbers : Type 0 where
  pub said : HappenedNumbers
  pub looks : ℕ
  pub taken : ℕ
  pub carried : ℕ

-- put together: what happened, the answer's number, the looks, how many bytes were taken and how many are carried
abbrev pub fed_numbers : ℕ → ℕ → ℕ → ℕ → ℕ → FedNumbers
fed_numbers happened n looks taken carried = record { said = happened_numbers happened n; looks = looks; taken = taken; carried = carried }

-- what feed gives back, as numbers
abbrev pub of_fed : Fed → FedNumbers
of_fed r = record { said = of_happened r.happened; looks = r.looks; taken = r.taken; carried = r.carried }

-- and put together again from them
abbrev pub happened_from : HappenedNumbers → Happened
happened_from t =
    if eqb t.happened 0 then Refused (answer t.number) else
    if eqb t.happened 1 then Decided (answer t.number) else
    if eqb t.happened 2 then More else
    End

abbrev pub fed_from : FedNumbers → Fed
fed_from t = record { happened = happened_from t.said; looks = t.looks; taken = t.taken; carried = t.carried }

-- what touches a key, as numbers: that of the point or that of the scan, and 0 for the other
abbrev pub of_touch : Touch → TouchNumbers
of_touch t = record { point = value_or 0 (point_in t); scan = value_or 0 (scan_in t) }

-- the six numbers of a reason
abbrev pub reason_from : ℕ → ℕ → ℕ → ℕ → ℕ → ℕ → ReasonNumbers
reason_from key position point scan lag keys = record { key = key; position = position; point = point; scan = scan; lag = lag; keys = keys }

-- what a reason tells, as numbers: 0 for what is not told
abbrev pub reason_numbers : ReasonTold → ReasonNumbers
reason_numbers t =
    reason_from (value_or 0 t.key) (value_or 0 t.position) (value_or 0 t.point) (value_or 0 t.scan) (value_or 0 t.lag) (value_or 0 t.keys)

-- so the key, the position and the point or the scan with a conflict, the lag with too old, the keys with no room, and 0 for all others (R50)
abbrev pub of_reason : Reason → ReasonNumbers
of_reason x = reason_numbers (reason_told x)

-- the eight numbers of a call of explain
pub record ExplainedNumbers : Type 0 where
  pub number : ℕ
  pub looks : ℕ
  pub reason : ReasonNumbers

-- put together: the answer's number, the looks, and the six of the reason
abbrev pub explained_numbers : ℕ → ℕ → ℕ → ℕ → ℕ → ℕ → ℕ → ℕ → ExplainedNumbers
explained_numbers n looks key position point scan lag keys = record { number = n; looks = looks; reason = reason_from key position point scan lag keys }

-- what explain gives back, as numbers
abbrev pub of_explained : Explained → ExplainedNumbers
of_explained x = record { number = x.answer.number; looks = x.looks; reason = of_reason x.reason }
