-- A card that has read some records of a log has melded the first of the parts that the log's walk hands out.
-- Assumes nothing.
use Prim.Native.Nat.{ℕ, zero, suc, ◌+◌, ◌-◌, ◌≤◌}
use mathlib.Core.Path.{◌≡◌, refl, sym, ap, ◌∙◌, subst}
use mathlib.Core.List.{List, [], ◌∷◌, ◌++◌}
use native.Mathlib.Omega.{arith}
use lib.ListN.{length, take, drop, length-drop}
use denote.Ref.{Bor}
use Rattle.words.specs.Word.{Bytes}
use Rattle.words.specs.Laws.{bytes_drop, bytes_take}
use Rattle.record_log.specs.declared.found.Cut.{Cut}
use Rattle.record_log.specs.declared.found.Cut.TheVariants.{Record}
use Rattle.record_log.specs.Log.{cut_at, part_of, start_of, CutIs, HandedOut}
use Rattle.record_log.specs.Walk.{Walks, ends, tears, cannot_be, hands}
use Rattle.record_log.proofs.Told.{cut_case}
use Rattle.record_log.proofs.Stands.{record_tells, end_not_record, torn_not_record, impossible_not_record, same_next}
use Rattle.pool.specs.Image.{Fit}
use Rattle.meld.specs.declared.melding.Melded.{Melded}
use Rattle.meld.specs.Melds.{Melds}
use Rattle.pages.proofs.Decided.{meld_stays_fit}
use Rattle.demands.specs.Runs.{Melding, none_left, ReadingOn, so_far, is_over}
use Rattle.demands.proofs.Following.{AllBytes, no_bytes, more_bytes}

-- A LOG'S PARTS ARE BYTES

-- what the walk hands out
pub parts_bytes : {log : List ℕ} {place : ℕ} {parts : List (List ℕ)} {last : Cut} → Bytes log → Walks log place parts last → AllBytes parts
parts_bytes b (ends e) = no_bytes
parts_bytes b (tears e) = no_bytes
parts_bytes b (cannot_be e) = no_bytes
parts_bytes {log = log} {place = place} b (hands {next = next} e w) = more_bytes (bytes_take (next - place) (drop place log) (bytes_drop place log b)) (parts_bytes b w)

-- the first of several
pub first_bytes : (n : ℕ) {parts : List (List ℕ)} → AllBytes parts → AllBytes (take n parts)
first_bytes zero b = no_bytes
first_bytes (suc n) no_bytes = no_bytes
first_bytes (suc n) (more_bytes b bs) = more_bytes b (first_bytes n bs)

-- WHAT WAS READ IS THE FRONT OF THE WALK

-- so many parts were handed out, and the walk goes on from the place
pub record Front (log : List ℕ) (place : ℕ) (m : List ℕ) (xs : List Melded) (m' : List ℕ) (parts : List (List ℕ)) (last : Cut) : Type 0 where
  pub few : length xs ≤ length parts
  pub melding : Melding m (take (length xs) parts) xs m'
  pub rest : Walks log place (drop (length xs) parts) last

-- what `cut` has found stands there
case : {log : List ℕ} {place next : ℕ} → CutIs log place (Record next) → Record next ≡ cut_at log place
case {log = log} {place = place} {next = next} c = cut_case log place (Record next) c

-- one record, where the walk hands out the same
pub reading_front : {log : List ℕ} {place place' : ℕ} {m m' : List ℕ} {xs : List Melded} {parts : List (List ℕ)} {last : Cut}
    → ReadingOn log place m xs place' m' → Walks log place parts last → Front log place' m xs m' parts last
reading_front so_far w = record { few = omega arith; melding = none_left; rest = w }
reading_front (ReadingOn.one_more l c h d t) (ends e) = end_not_record (sym e ∙ sym (case c))
reading_front (ReadingOn.one_more l c h d t) (tears e) = torn_not_record (sym e ∙ sym (case c))
reading_front (ReadingOn.one_more l c h d t) (cannot_be e) = impossible_not_record (sym e ∙ sym (case c))
reading_front {log = log} {place = place} {m = m} (ReadingOn.one_more {next = next} {m' = m₁} {a = a} {lent = lent} {part = part} l c h d t) (hands {next = other} {parts = parts} {last = last} e w) =
    let same : other ≡ next = same_next (sym e ∙ sym (case c)) in
    let bytes : part.now ≡ part_of (Record other) log place = h.bytes ∙ ap (λ (s : List ℕ). part_of (cut_at s place) s place) l ∙ ap (λ (x : Cut). part_of x log place) e in
    let f = reading_front t (subst (λ (n : ℕ). Walks log n parts last) same w) in
    record { few = omega (arith, f.few); melding = Melding.one_more (subst (λ (s : List ℕ). Melds m s m₁ a) bytes d) f.melding; rest = f.rest }

-- where `cut` finds no record any more, the whole walk was read
pub whole_read : {log : List ℕ} {place : ℕ} {m m' : List ℕ} {xs : List Melded} {parts : List (List ℕ)} {last c : Cut}
    → Front log place m xs m' parts last → CutIs log place c → is_over c → (length xs ≡ length parts) × (c ≡ last)
whole_read {log = log} {place = place} {xs = xs} {parts = parts} {c = c} f i o = go (drop (length xs) parts) refl f.rest
  where
    left : length (drop (length xs) parts) ≡ 0 → length xs ≡ length parts
    left z = omega (arith, length-drop (length xs) parts, f.few)

    go : {last : Cut} (rest : List (List ℕ)) → drop (length xs) parts ≡ rest → Walks log place rest last → (length xs ≡ length parts) × (c ≡ last)
    go rest d (ends e) = (left (ap (length {A = List ℕ}) d), cut_case log place c i ∙ e)
    go rest d (tears e) = (left (ap (length {A = List ℕ}) d), cut_case log place c i ∙ e)
    go rest d (cannot_be e) = (left (ap (length {A = List ℕ}) d), cut_case log place c i ∙ e)
    go rest d (hands e w) = absurd (subst is_over (cut_case log place c i ∙ e) o)

-- ONE RECORD MORE

-- what stands at a place is what `cut` promises
pub cut_is : (log : List ℕ) (place : ℕ) → CutIs log place (cut_at log place)
cut_is log place = record { told = refl }

-- a record that stands at the place is read, and the rest from past it
pub read_first : {log : List ℕ} {place next place' : ℕ} {m m' m'' : List ℕ} {a : Melded} {xs : List Melded}
    → cut_at log place ≡ Record next → Melds m (part_of (Record next) log place) m' a → ReadingOn log next m' xs place' m''
    → ReadingOn log place m (a ∷ xs) place' m''
read_first {log = log} {place = place} {next = next} e h t =
    let lent : Bor (List ℕ) = record { ref_ptr = (0, 0); now = log } in
    let part : Bor (List ℕ) = record { ref_ptr = (0, 0 + start_of (cut_at log place) place); now = part_of (Record next) log place } in
    let handed : HandedOut lent place part = record { bytes = ap (λ (c : Cut). part_of c log place) (sym e); block = refl; start = refl } in
    ReadingOn.one_more {lent = lent} {part = part} refl (subst (CutIs log place) e (cut_is log place)) handed h t

-- a record that stands where a card has come to is its next
pub read_last : {log : List ℕ} {place place' next : ℕ} {m m' m'' : List ℕ} {a : Melded} {xs : List Melded}
    → ReadingOn log place m xs place' m' → cut_at log place' ≡ Record next → Melds m' (part_of (Record next) log place') m'' a
    → ReadingOn log place m (xs ++ (a ∷ [])) next m''
read_last so_far e h = read_first e h so_far
read_last (ReadingOn.one_more l c p d t) e h = ReadingOn.one_more l c p d (read_last t e h)

-- a card never comes past the end
pub read_inside : {log : List ℕ} {place place' : ℕ} {m m' : List ℕ} {xs : List Melded} → ReadingOn log place m xs place' m' → place ≤ length log → place' ≤ length log
read_inside so_far h = h
read_inside {log = log} {place = place} (ReadingOn.one_more {next = next} l c p d t) h = read_inside t (record_tells log place next (sym (case c))).inside

-- its pool stays fit
pub read_fit : {log : List ℕ} {place place' : ℕ} {m m' : List ℕ} {xs : List Melded} → ReadingOn log place m xs place' m' → Fit m → Fit m'
read_fit so_far f = f
read_fit (ReadingOn.one_more l c p d t) f = read_fit t (meld_stays_fit d f)
