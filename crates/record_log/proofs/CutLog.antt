-- THE CUT LOG (R16). The walk over the whole log is followed record by record: while the record lies wholly before the
-- cut, its bytes are all there, so the cut log hands it out too; at the first that does not, the cut log is at its end, or what is
-- left of it is no whole record.
-- Assumes nothing.
use mathlib.Core.Path.{◌≡◌, refl, sym, ap, subst, ◌∙◌}
use Prim.Native.Nat.{ℕ, ◌+◌, ◌-◌, ◌≤◌, ◌<◌}
use mathlib.Core.Bool.{false}
use mathlib.Core.List.{List, [], ◌∷◌, ◌++◌}
use native.Mathlib.Omega.{arith}
use native.Mathlib.Decide.{dec_le}
use lib.ListN.{length, take, drop, length-append, length-drop}
use lib.Seq.{get_or-take, take-take, take_all, length-take-le}
use Rattle.record_log.specs.declared.found.Cut.{Cut}
use Rattle.record_log.specs.declared.found.Cut.TheVariants.{End, Torn, Impossible, Record}
use Rattle.record_log.specs.Log.{cut_at, length_at, impossible, part_of, RecordAt}
use Rattle.record_log.specs.Walk.{Walks, ends, tears, hands, joined, CutLog}
use Rattle.record_log.proofs.Stands.{record_tells, end_tells, end_found, torn_found, apart}
use Rattle.record_log.proofs.Same.{same_length, cut_same, part_same}
use Rattle.record_log.proofs.Lengths.{possible_is}
use Rattle.record_log.proofs.Walk.{walks_once}

-- the theorem's statement from a place on
record CutFrom (log : List ℕ) (place : ℕ) (parts : List (List ℕ)) (n : ℕ) : Type 0 where
  before : List (List ℕ)
  after : List (List ℕ)
  all : parts ≡ before ++ after
  wholly : place + length (joined before) ≤ n
  first_is_not : (part : List ℕ) (rest : List (List ℕ)) → after ≡ part ∷ rest → n < place + length (joined before) + length part
  last : Cut
  walks : Walks (take n log) place before last
  between : place + length (joined before) ≡ n → last ≡ End
  amid : (place + length (joined before) ≡ n → ⊥) → last ≡ Torn

-- how many bytes the part handed out has
long : (log : List ℕ) (place next : ℕ) → RecordAt log place next → length (part_of (Record next) log place) ≡ next - place
long log place next r = length-take-le (next - place) (drop place log) (omega (arith, length-drop place log, r.past, r.inside))

module _ (log : List ℕ) (n : ℕ) (inside : n ≤ length log) where
  -- the cut log has n bytes
  size : length (take n log) ≡ n
  size = length-take-le n log inside

  -- a length that is there is the uncut log's
  same_there : (place : ℕ) → place + 2 ≤ n → length_at (take n log) place ≡ length_at log place
  same_there place two = same_length log (take n log) place n two (record { byte = λ i _ l. get_or-take n log i 0 l })

  -- so it is one of a record
  can_be : (place next : ℕ) → RecordAt log place next → place + 2 ≤ length (take n log) → impossible (length_at (take n log) place) ≡ false
  can_be place next r two = ap impossible (same_there place (omega (arith, two, size))) ∙ possible_is (length_at log place) r.least r.most

  -- no record is whole where the uncut log's record runs past the cut
  none_whole : (place next : ℕ) → RecordAt log place next → n < next → (other : ℕ) → RecordAt (take n log) place other → ⊥
  none_whole place next r h other t =
      omega (arith, same_there place (omega (arith, t.past, t.inside, size)), r.past, t.past, t.inside, size)

  -- nothing is handed out, and the cut is just here
  stops_here : (place : ℕ) (parts : List (List ℕ)) → place ≡ n → ((part : List ℕ) (rest : List (List ℕ)) → parts ≡ part ∷ rest → n < place + length part)
      → CutFrom log place parts n
  stops_here place parts here over =
      record {
        before = [];
        after = parts;
        all = refl;
        wholly = omega arith;
        first_is_not = λ part rest c. omega (arith, over part rest c);
        last = End;
        walks = ends (end_found (take n log) place (omega (arith, size)));
        between = λ _. refl;
        amid = λ off. absurd (off (omega arith));
      }

  -- nothing is handed out, and the cut lies further on, amid a record
  stops_amid : (place next : ℕ) (parts : List (List ℕ)) → RecordAt log place next → place < n → n < next
      → CutFrom log place (part_of (Record next) log place ∷ parts) n
  stops_amid place next parts r h over =
      record {
        before = [];
        after = part_of (Record next) log place ∷ parts;
        all = refl;
        wholly = omega arith;
        first_is_not = λ part rest c. let e : part_of (Record next) log place ≡ part = cc in omega (arith, ap (length {A = ℕ}) e, long log place next r);
        last = Torn;
        walks = tears (torn_found (take n log) place (λ e. omega (arith, size)) (can_be place next r) (none_whole place next r over));
        between = λ here. absurd (omega arith);
        amid = λ _. refl;
      }

  -- the record at the place lies wholly before the cut
  goes_on_lem : (place next : ℕ) (parts : List (List ℕ)) → cut_at log place ≡ Record next → next ≤ n → CutFrom log next parts n
      → CutFrom log place (part_of (Record next) log place ∷ parts) n
  goes_on_lem place next parts e h c =
      record {
        before = part ∷ c.before;
        after = c.after;
        all = ap (λ (ps : List (List ℕ)). part ∷ ps) c.all;
        wholly = omega (arith, sum, c.wholly);
        first_is_not = λ q rest d. omega (arith, sum, c.first_is_not q rest d);
        last = c.last;
        walks = subst (λ (q : List ℕ). Walks (take n log) place (q ∷ c.before) c.last) (part_same log (take n log) place next e same)
            (hands (cut_same log (take n log) place next e same) c.walks);
        between = λ here. c.between (omega (arith, sum));
        amid = λ off. c.amid (λ here. off (omega (arith, sum)));
      }
    where
      part : List ℕ
      part = part_of (Record next) log place

      same : take next (take n log) ≡ take next log
      same = take-take next n log h

      sum : place + length (part ++ joined c.before) ≡ next + length (joined c.before)
      sum =
          let r : RecordAt log place next = record_tells log place next e in
          omega (arith, length-append part (joined c.before), long log place next r, r.past)

  -- a record stands at the place: before the cut, at it, or across it
  at_record : (place next : ℕ) (parts : List (List ℕ)) → cut_at log place ≡ Record next → place ≤ n → Dec (next ≤ n) → Dec (n ≤ place)
      → (next ≤ n → CutFrom log next parts n) → CutFrom log place (part_of (Record next) log place ∷ parts) n
  at_record place next parts e h (yes l) _ rest = goes_on_lem place next parts e l (rest l)
  at_record place next parts e h (no l) (yes k) rest =
      let r : RecordAt log place next = record_tells log place next e in
      stops_here place (part_of (Record next) log place ∷ parts) (omega arith)
      (λ part others c. let d : part_of (Record next) log place ≡ part = cc in omega (arith, ap (length {A = ℕ}) d, long log place next r))
  at_record place next parts e h (no l) (no k) rest = stops_amid place next parts (record_tells log place next e) (omega arith) (omega arith)

  cut_from : {place : ℕ} {parts : List (List ℕ)} → Walks log place parts End → place ≤ n → CutFrom log place parts n
  cut_from {place = place} (ends e) h = stops_here place [] (omega (arith, end_tells log place e)) (λ part rest c. absurd (nil_not_cons c))
    where
      nil_not_cons : {part : List ℕ} {rest : List (List ℕ)} → [] ≡ part ∷ rest → ⊥
      nil_not_cons c = let z : ◌≡◌ {A = ℕ} 0 1 = cc in omega arith
  cut_from {place = place} (hands {next = next} {parts = parts} e w) h =
      at_record place next parts e h (dec_le next n) (dec_le n place) (λ l. cut_from w l)

-- Cut a log that walks to "end" at any byte: the records wholly before the cut are handed out as in the uncut log, then "end" if the
-- cut is between records or at either end of the log, else 10
pub cut_log : (log : List ℕ) (parts : List (List ℕ)) (n : ℕ) → Walks log 0 parts End → n ≤ length log → CutLog log parts n
cut_log log parts n w h =
    let c : CutFrom log 0 parts n = cut_from log n h w (omega arith) in
    record {
      before = c.before;
      after = c.after;
      all = c.all;
      wholly = omega (arith, c.wholly);
      first_is_not = λ part rest e. omega (arith, c.first_is_not part rest e);
      last = c.last;
      walks = c.walks;
      between = λ e. c.between (omega arith);
      amid = λ off. c.amid (λ e. off (omega arith));
    }

-- and 11 is never said, wherever it is cut
pub cut_never_impossible : (log : List ℕ) (parts : List (List ℕ)) (n : ℕ) → Walks log 0 parts End → (others : List (List ℕ)) (last : Cut)
    → Walks (take n log) 0 others last → last ≡ Impossible → ⊥
cut_never_impossible log parts n w others last v i = elim (dec_le n (length log)) [ yes h ↦ inside h | no h ↦ outside (omega arith) ]
  where
    -- the cut lies in the log: it ends with "end" or torn
    inside : n ≤ length log → ⊥
    inside h =
        let c : CutLog log parts n = cut_log log parts n w h in
        let e : c.last ≡ Impossible = (walks_once c.walks others last v).1 ∙ i in
        elim (dec_le n (length (joined c.before))) [
          | yes l ↦ apart (sym e ∙ c.between (omega (arith, c.wholly))) (λ z. omega arith)
          | no l ↦ apart (sym (c.amid (λ here. l (omega arith))) ∙ e) (λ z. omega arith)
        ]

    -- it lies at its end or past it: the log is the whole one
    outside : length log ≤ n → ⊥
    outside h = apart (sym i ∙ (walks_once v parts End (subst (λ (l : List ℕ). Walks l 0 parts End) (sym (take_all n log h)) w)).1) (λ z. omega arith)
