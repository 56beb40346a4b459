-- A cut depends only on the record's own bytes: where a record stands at a place of one log, it stands there in every log that has
-- the same bytes up to its end; and a part of the right size stands wherever its bytes stand.
-- Assumes nothing.
use mathlib.Core.Path.{◌≡◌, sym, ap, ◌∙◌}
use Prim.Native.Nat.{ℕ, ◌+◌, ◌-◌, ◌≤◌}
use mathlib.Core.List.{List, ◌++◌}
use native.Mathlib.Omega.{arith}
use lib.ListN.{length, get_or, take, drop, length-append, length-take, get_or-append}
use lib.Seq.{get_or-take, get_or-append-add, take-add, drop_at, length-take-le}
use Rattle.words.specs.Laws.{word_same}
use Rattle.record_log.specs.declared.found.Cut.TheVariants.{Record}
use Rattle.record_log.specs.Log.{cut_at, length_at, part_of, RecordAt}
use Rattle.record_log.specs.Walk.{Agree}
use Rattle.record_log.specs.PartSized.{PartSized}
use Rattle.record_log.proofs.Stands.{record_tells, record_found}

-- then the length said there is the same
pub same_length : (log other : List ℕ) (place next : ℕ) → place + 2 ≤ next → Agree log other place next → length_at other place ≡ length_at log place
same_length log other place next h a = word_same 2 other log place place (λ n l. a.byte (place + n) (omega arith) (omega arith))

-- the bytes of the record are enough
pub cut_by_bytes : (log other : List ℕ) (place next : ℕ) → cut_at log place ≡ Record next → next ≤ length other → Agree log other place next
    → cut_at other place ≡ Record next
cut_by_bytes log other place next e h a = record_found other place next (moved (record_tells log place next e))
  where
    moved : RecordAt log place next → RecordAt other place next
    moved r =
        let same : length_at other place ≡ length_at log place = same_length log other place next (omega (arith, r.past)) a in
        record { least = omega (arith, r.least); most = omega (arith, r.most); past = omega (arith, r.past); inside = h }

-- logs that have the same bytes up to a place
pub agree_up_to : (log other : List ℕ) (place next : ℕ) → take next other ≡ take next log → Agree log other place next
agree_up_to log other place next e =
    record { byte = λ i _ l. sym (get_or-take next other i 0 l) ∙ ap (λ (s : List ℕ). get_or s i 0) e ∙ get_or-take next log i 0 l }

-- a record is found in every log that has the same bytes up to its end
pub cut_same : (log other : List ℕ) (place next : ℕ) → cut_at log place ≡ Record next → take next other ≡ take next log → cut_at other place ≡ Record next
cut_same log other place next e same =
    let inside : next ≤ length log = (record_tells log place next e).inside in
    let size : length (take next other) ≡ next = ap (length {A = ℕ}) same ∙ length-take-le next log inside in
    cut_by_bytes log other place next e (omega (arith, length-take next other)) (agree_up_to log other place next same)

-- the bytes from a place to another, out of the bytes up to the other
pub part_up_to : (log : List ℕ) (place next : ℕ) → place ≤ next → place ≤ length log → drop place (take next log) ≡ take (next - place) (drop place log)
part_up_to log place next h l =
    let whole : place + (next - place) ≡ next = omega arith in
    let e : take next log ≡ take place log ++ take (next - place) (drop place log) =
    ap (λ (i : ℕ). take i log) (sym whole) ∙ take-add place (next - place) log in
    ap (drop place) e ∙ drop_at (take place log) (take (next - place) (drop place log)) place (length-take-le place log l)

-- and so is the part handed out there
pub part_same : (log other : List ℕ) (place next : ℕ) → cut_at log place ≡ Record next → take next other ≡ take next log
    → part_of (Record next) other place ≡ part_of (Record next) log place
part_same log other place next e same =
    let r : RecordAt log place next = record_tells log place next e in
    let t : RecordAt other place next = record_tells other place next (cut_same log other place next e same) in
    sym (part_up_to other place next (omega (arith, r.past)) (omega (arith, r.past, t.inside)))
    ∙ ap (drop place) same
    ∙ part_up_to log place next (omega (arith, r.past)) (omega (arith, r.past, r.inside))

-- a part of the right size stands wherever its bytes stand
pub cut_here : (before part after : List ℕ) → PartSized part → cut_at (before ++ (part ++ after)) (length before) ≡ Record (length before + length part)
cut_here before part after s =
    record_found (before ++ (part ++ after)) (length before) (length before + length part)
    (record {
      least = omega (arith, said, s.least);
      most = omega (arith, said, s.most);
      past = omega (arith, said, s.size);
      inside = omega (arith, length-append before (part ++ after), length-append part after);
    })
  where
    said : length_at (before ++ (part ++ after)) (length before) ≡ length_at part 0
    said =
        word_same 2 (before ++ (part ++ after)) part (length before) 0
        (λ n l. get_or-append-add before (part ++ after) n 0 ∙ get_or-append part after 0 n (omega (arith, s.size)) ∙ ap (λ (i : ℕ). get_or part i 0) (omega arith))
