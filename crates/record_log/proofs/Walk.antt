-- The walk over a log: every log has one and only one; each part has the size that its length says; and the parts of a walk that
-- ends with "end", back to back, are the log. The reverse too: parts of the right size, back to back, walk to "end".
-- Assumes nothing.
use mathlib.Core.Path.{◌≡◌, refl, sym, ap, subst, ◌∙◌}
use Prim.Native.Nat.{ℕ, zero, suc, ◌+◌, ◌-◌, ◌≤◌, ◌<◌}
use mathlib.Core.List.{List, [], ◌∷◌, ◌++◌, append_assoc}
use native.Mathlib.Omega.{arith}
use lib.ListN.{length, get_or, take, drop, length-append, length-drop, take-append-drop, drop_of_length-le}
use lib.Seq.{get_or-take, get_or-drop, drop-drop, length-take-le, drop-append_seam, take-append_seam}
use Rattle.words.specs.Laws.{word_same}
use Rattle.record_log.specs.declared.found.Cut.{Cut}
use Rattle.record_log.specs.declared.found.Cut.TheVariants.{End, Torn, Impossible, Record}
use Rattle.record_log.specs.Log.{cut_at, length_at, part_of, RecordAt}
use Rattle.record_log.specs.Walk.{Walks, HasWalk, ends, tears, cannot_be, hands, joined}
use Rattle.record_log.specs.PartSized.{PartSized, PartsSized, no_part, one_more}
use Rattle.record_log.proofs.Stands.{record_tells, end_tells, end_found, end_not_record, torn_not_record, impossible_not_record, same_next}
use Rattle.record_log.proofs.Same.{cut_here}

-- EVERY LOG HAS A WALK

-- one step of it, where the rest is had wherever a record stands
walked_step : (log : List ℕ) (place : ℕ) → ((next : ℕ) → RecordAt log place next → HasWalk log next) → (c : Cut) → cut_at log place ≡ c → HasWalk log place
walked_step log place rest End e = record { parts = []; last = End; walks = ends e }
walked_step log place rest Torn e = record { parts = []; last = Torn; walks = tears e }
walked_step log place rest Impossible e = record { parts = []; last = Impossible; walks = cannot_be e }
walked_step log place rest (Record next) e =
    let w : HasWalk log next = rest next (record_tells log place next e) in
    record { parts = part_of (Record next) log place ∷ w.parts; last = w.last; walks = hands e w.walks }

-- with a bound on the bytes left: each record takes some
walked_within : (log : List ℕ) (bound place : ℕ) → length log < place + bound → HasWalk log place
walked_within log zero place h = walked_step log place (λ next r. absurd (omega (arith, r.past, r.inside))) (cut_at log place) refl
walked_within log (suc bound) place h = walked_step log place (λ next r. walked_within log bound next (omega (arith, r.past))) (cut_at log place) refl

-- every log has a walk, from every place
pub walked : (log : List ℕ) (place : ℕ) → HasWalk log place
walked log place = walked_within log (suc (length log)) place (omega arith)

-- AND ONLY ONE

-- where no record stands, a walk hands nothing out and ends with what stands there
pub walk_stops : {log : List ℕ} {place : ℕ} {parts : List (List ℕ)} {last : Cut} → Walks log place parts last → (c : Cut) → cut_at log place ≡ c
    → ((next : ℕ) → c ≡ Record next → ⊥) → (parts ≡ []) × (last ≡ c)
walk_stops (ends d) c e no_record = (refl, sym d ∙ e)
walk_stops (tears d) c e no_record = (refl, sym d ∙ e)
walk_stops (cannot_be d) c e no_record = (refl, sym d ∙ e)
walk_stops (hands {next = next} d v) c e no_record = absurd (no_record next (sym e ∙ d))

-- two walks from one place hand out the same parts and end alike
pub walks_once : {log : List ℕ} {place : ℕ} {parts : List (List ℕ)} {last : Cut} → Walks log place parts last
    → (others : List (List ℕ)) (end : Cut) → Walks log place others end → (parts ≡ others) × (last ≡ end)
walks_once (ends e) others end v = let (p, q) = walk_stops v End e (λ n. end_not_record) in (sym p, sym q)
walks_once (tears e) others end v = let (p, q) = walk_stops v Torn e (λ n. torn_not_record) in (sym p, sym q)
walks_once (cannot_be e) others end v = let (p, q) = walk_stops v Impossible e (λ n. impossible_not_record) in (sym p, sym q)
walks_once (hands e w) _ _ (ends d) = end_not_record (sym d ∙ e)
walks_once (hands e w) _ _ (tears d) = torn_not_record (sym d ∙ e)
walks_once (hands e w) _ _ (cannot_be d) = impossible_not_record (sym d ∙ e)
walks_once {log = log} {place = place} (hands {next = next} {parts = parts} {last = last} e w) _ _ (hands {next = other} {parts = others} {last = end} d v) =
    let same : other ≡ next = same_next (sym d ∙ e) in
    let (p, q) = walks_once w others end (subst (λ (n : ℕ). Walks log n others end) same v) in
    (ap (λ (n : ℕ). part_of (Record n) log place ∷ parts) (sym same) ∙ ap (λ (ps : List (List ℕ)). part_of (Record other) log place ∷ ps) p, q)

-- EACH PART HAS THE SIZE THAT ITS LENGTH SAYS

-- where a record stands
pub sized_at : (log : List ℕ) (place next : ℕ) → RecordAt log place next → PartSized (part_of (Record next) log place)
sized_at log place next r =
    record { size = omega (arith, long, said, r.past); least = omega (arith, said, r.least); most = omega (arith, said, r.most) }
  where
    long : length (take (next - place) (drop place log)) ≡ next - place
    long = length-take-le (next - place) (drop place log) (omega (arith, length-drop place log, r.inside))

    said : length_at (take (next - place) (drop place log)) 0 ≡ length_at log place
    said =
        word_same 2 (take (next - place) (drop place log)) log 0 place
        (λ n l. get_or-take (next - place) (drop place log) (0 + n) 0 (omega (arith, r.past)) ∙ get_or-drop place log (0 + n) 0
        ∙ ap (λ (i : ℕ). get_or log i 0) (omega arith))

-- and so in a whole walk
pub walks_sized : {log : List ℕ} {place : ℕ} {parts : List (List ℕ)} {last : Cut} → Walks log place parts last → PartsSized parts
walks_sized (ends e) = no_part
walks_sized (tears e) = no_part
walks_sized (cannot_be e) = no_part
walks_sized {log = log} {place = place} (hands {next = next} e w) = one_more (sized_at log place next (record_tells log place next e)) (walks_sized w)

-- R8: 9 to 13,835 bytes
pub sized_range : {part : List ℕ} → PartSized part → (9 ≤ length part) × (length part ≤ 13835)
sized_range s = (omega (arith, s.size, s.least), omega (arith, s.size, s.most))

-- THE PARTS ARE THE LOG

-- from a place on
pub walks_rest : {log : List ℕ} {place : ℕ} {parts : List (List ℕ)} → Walks log place parts End → drop place log ≡ joined parts
walks_rest {log = log} {place = place} (ends e) = let h : length log ≤ place = omega (arith, end_tells log place e) in drop_of_length-le log h
walks_rest {log = log} {place = place} (hands {next = next} e w) =
    let k : ℕ = next - place in
    let on : place + k ≡ next = omega (arith, (record_tells log place next e).past) in
    sym (take-append-drop k (drop place log))
    ∙ ap (λ (l : List ℕ). take k (drop place log) ++ l) (drop-drop k place log ∙ ap (λ (i : ℕ). drop i log) on ∙ walks_rest w)

-- a log that walks to "end" is its parts, back to back
pub walks_joined : {log : List ℕ} {parts : List (List ℕ)} → Walks log 0 parts End → log ≡ joined parts
walks_joined w = walks_rest w

-- PARTS OF THE RIGHT SIZE WALK TO "END"

-- the part that stands behind the bytes before it
part_here : (before part after : List ℕ) → part_of (Record (length before + length part)) (before ++ (part ++ after)) (length before) ≡ part
part_here before part after =
    let k : length before + length part - length before ≡ length part = omega arith in
    ap (λ (i : ℕ). take i (drop (length before) (before ++ (part ++ after)))) k
    ∙ ap (take (length part)) (drop-append_seam before (part ++ after))
    ∙ take-append_seam part after

-- behind any bytes
pub joined_walks_from : (before : List ℕ) {parts : List (List ℕ)} → PartsSized parts → Walks (before ++ joined parts) (length before) parts End
joined_walks_from before no_part = ends (end_found (before ++ []) (length before) (omega (arith, length-append before [])))
joined_walks_from before (one_more {part = part} {parts = parts} s each) =
    let log : List ℕ = before ++ (part ++ joined parts) in
    let w : Walks ((before ++ part) ++ joined parts) (length (before ++ part)) parts End = joined_walks_from (before ++ part) each in
    let v : Walks log (length before + length part) parts End =
    subst (λ (n : ℕ). Walks log n parts End) (length-append before part)
    (subst (λ (l : List ℕ). Walks l (length (before ++ part)) parts End) (append_assoc before part (joined parts)) w) in
    subst (λ (q : List ℕ). Walks log (length before) (q ∷ parts) End) (part_here before part (joined parts))
    (hands (cut_here before part (joined parts) s) v)

-- from the start
pub joined_walks : {parts : List (List ℕ)} → PartsSized parts → Walks (joined parts) 0 parts End
joined_walks each = joined_walks_from [] each
