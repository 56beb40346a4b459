-- What is explained is the record at its position, at the pool of a card that has melded the records before it (R52).
-- The idea: what the window holds is the rest of all that the reads have brought, from the place on that the card has come to; and a record cut out of a
-- log stands there in every longer log.
-- Assumes nothing.
use Rattle.std.proofs.Common.{◌≡◌, ℕ, ◌+◌, ◌-◌, ◌≤◌, true, ◌⊎◌, Result, Ok, Err, IsErr, List, [], ◌∷◌, ◌++◌, length, take, drop, sym, refl, ap, ◌∙◌, subst, inl, inr, ⊎_elim, true≢false, arith, length-append, length-drop, take-append-drop, length-take-le, take-take, drop-drop}
use lib.Seq.{take-append-le, drop-append-le}
use Rattle.words.specs.Laws.{word_drop}
use Rattle.record.specs.Answer.{committed}
use Rattle.record_log.specs.declared.found.Cut.{Cut}
use Rattle.record_log.specs.declared.found.Cut.TheVariants.{End, Torn, Impossible, Record}
use Rattle.record_log.specs.Log.{length_at, impossible, cut_at, part_of, RecordAt, CutIs}
use Rattle.record_log.proofs.Told.{cut_case}
use Rattle.record_log.proofs.Stands.{end_tells, end_found, record_tells, record_found, torn_said, torn_found, impossible_said, impossible_found}
use Rattle.record_log.proofs.Same.{cut_same, part_same}
use Rattle.create.specs.Fresh.{Created}
use Rattle.meld.specs.declared.melding.Melded.{Melded}
use Rattle.meld.specs.Melds.{Melds}
use Rattle.demands.specs.Runs.{ReadingOn, so_far, Card, is_over}
use Rattle.demands.proofs.FedOn.{card_fit}
use Rattle.demands.proofs.Reading.{cut_is, read_first, read_last}
use Rattle.stream.proofs.Telling.{filled_front}
use Rattle.reason.specs.declared.told.Explained.{Explained}
use Rattle.asking.specs.declared.window.Front.{Front}
use Rattle.asking.specs.declared.window.Stop.{Stop}
use Rattle.asking.specs.declared.window.Stop.TheVariants as Stops
use Rattle.asking.specs.declared.telling.Told.{Told}
use Rattle.asking.specs.declared.telling.Told.TheVariants as Tolds
use Rattle.asking.specs.Window.{held_now, Looked, Shifted}
use Rattle.asking.specs.Told.{Tells}
use Rattle.asking.specs.Seeking.{brought_by, Passed, ToldAt, Sought, log_in, is_record, ExplainedAt, OverAt}

-- WHAT STANDS AT A PLACE STANDS AT THE FRONT OF THE REST

module _ (log : List ℕ) (place : ℕ) (inside : place ≤ length log) where
  same_said : length_at (drop place log) 0 ≡ length_at log place
  same_said = word_drop 2 log place 0 ∙ ap (length_at log) (omega arith)

  -- a record
  record_behind : (next : ℕ) → cut_at (drop place log) 0 ≡ Record next → cut_at log place ≡ Record (place + next)
  record_behind next e =
      let r : RecordAt (drop place log) 0 next = record_tells (drop place log) 0 next e in
      record_found log place (place + next)
      (record {
        least = omega (arith, r.least, same_said);
        most = omega (arith, r.most, same_said);
        past = omega (arith, r.past, same_said);
        inside = omega (arith, r.inside, length-drop place log, inside);
      })

  -- no record
  over_behind : (c : Cut) → is_over c → cut_at (drop place log) 0 ≡ c → cut_at log place ≡ c
  over_behind End o e = end_found log place (omega (arith, end_tells (drop place log) 0 e, length-drop place log, inside))
  over_behind Torn o e =
      let (off, few) = torn_said (drop place log) 0 e in
      let left : length (drop place log) ≡ length log - place = length-drop place log in
      torn_found log place (λ z. off (omega (arith, z, left)))
      (λ two. ⊎_elim (λ h. absurd (omega (arith, h, left, two))) (λ h. ap impossible (sym same_said) ∙ h.0) few)
      (λ next r. ⊎_elim (λ h. omega (arith, h, left, r.past, r.inside)) (λ h. omega (arith, h.1, left, same_said, r.past, r.inside)) few)
  over_behind Impossible o e =
      let (two, i) = impossible_said (drop place log) 0 e in
      impossible_found log place (omega (arith, two, length-drop place log)) (ap impossible (sym same_said) ∙ i)
  over_behind (Record next) o e = absurd o

-- A LONGER LOG

-- what a card has read of a log it has read of every longer one
longer : {log : List ℕ} {place place' : ℕ} {m m' : List ℕ} {xs : List Melded} (more : List ℕ) → ReadingOn log place m xs place' m'
    → ReadingOn (log ++ more) place m xs place' m'
longer more so_far = so_far
longer {log = log} {place = place} {m = m} more (ReadingOn.one_more {next = next} {m' = m₁} {a = a} {part = part} l c h d t) =
    let e : cut_at log place ≡ Record next = sym (cut_case log place (Record next) c) in
    let same : take next (log ++ more) ≡ take next log = take-append-le next log more (record_tells log place next e).inside in
    let bytes : part.now ≡ part_of (Record next) (log ++ more) place =
    h.bytes ∙ ap (λ (s : List ℕ). part_of (cut_at s place) s place) l ∙ ap (λ (x : Cut). part_of x log place) e
    ∙ sym (part_same log (log ++ more) place next e same) in
    read_first (cut_same log (log ++ more) place next e same) (subst (λ (s : List ℕ). Melds m s m₁ a) bytes d) (longer more t)

-- THE WINDOW HOLDS THE REST

-- so many records of what was brought are melded, and the window holds what is behind them
record Rest (m brought : List ℕ) (records held : ℕ) (m' window : List ℕ) : Type 0 where
  pub answers : List Melded
  pub place : ℕ
  pub read : ReadingOn brought 0 m answers place m'
  pub count : length answers ≡ records
  pub rest : drop place brought ≡ take held window
  pub inside : place ≤ length brought
  pub fits : held ≤ length window

-- after a look it holds what the reads brought besides
rest_look : {m brought m' window filled : List ℕ} {records held : ℕ} {seen : Result Front Stop} → Rest m brought records held m' window
    → (l : Looked held window filled seen) → Rest m (brought ++ brought_by l) records (held_now seen) m' filled
rest_look {brought = brought} {window = window} {filled = filled} {held = held} {seen = seen} r l =
    let f = filled_front held window filled _ r.fits l.filled_up in
    let more : List ℕ = brought_by l in
    record {
      answers = r.answers;
      place = r.place;
      read = longer more r.read;
      count = r.count;
      rest =
          drop-append-le r.place brought more r.inside
          ∙ ap (λ (s : List ℕ). s ++ more) (r.rest ∙ sym f.kept ∙ sym (take-take held (held_now seen) filled f.least))
          ∙ take-append-drop held (take (held_now seen) filled);
      inside = omega (arith, r.inside, length-append brought more);
      fits = f.inside;
    }

-- the record at its front is the one at the place
module _ {m brought m' filled : List ℕ} {records held : ℕ} (r : Rest m brought records held m' filled) (next : ℕ) (e : cut_at (take held filled) 0 ≡ Record next) where
  stands : cut_at brought r.place ≡ Record (r.place + next)
  stands = record_behind brought r.place r.inside next (ap (λ (s : List ℕ). cut_at s 0) r.rest ∙ e)

  held_whole : next ≤ held
  held_whole = omega (arith, (record_tells (take held filled) 0 next e).inside, length-take-le held filled r.fits)

  handed : take next filled ≡ part_of (Record (r.place + next)) brought r.place
  handed =
      let size : next ≡ r.place + next - r.place = omega arith in
      sym (take-take next held filled held_whole)
      ∙ ap (take next) (sym r.rest)
      ∙ ap (λ (n : ℕ). take n (drop r.place brought)) size

  -- melded, and the window moved past it
  rest_pass : {m'' window'' : List ℕ} {left : ℕ} {a : Melded} → Melds m' (take next filled) m'' a → Shifted next held filled window'' left
      → Rest m brought (records + 1) left m'' window''
  rest_pass {m''} {window''} {left} {a} d s =
      record {
        answers = r.answers ++ (a ∷ []);
        place = r.place + next;
        read = read_last r.read stands (subst (λ (b : List ℕ). Melds m' b m'' a) handed d);
        count = omega (arith, length-append r.answers (a ∷ []), r.count);
        rest = sym (drop-drop next r.place brought) ∙ ap (drop next) r.rest ∙ sym s.moved;
        inside = (record_tells brought r.place (r.place + next) stands).inside;
        fits = omega (arith, s.left_is, s.as_long, r.fits);
      }

-- records passed one after the other
passed_rest : {m window brought m' window' : List ℕ} {records held : ℕ} → Passed m window brought records held m' window' → Rest m brought records held m' window'
passed_rest Passed.none_yet =
    record { answers = []; place = 0; read = so_far; count = refl; rest = refl; inside = omega arith; fits = omega arith }
passed_rest (Passed.one_more t p) =
    rest_pass (rest_look (passed_rest t) p.looked) p.front.next (sym (cut_case _ 0 _ p.looked.found)) p.melds p.shifted

-- THE THEOREMS

module _ {N Z : ℕ} {lent m : List ℕ} (made : Created lent N Z committed m) where
  -- a card that has come so far
  card_at : {brought m' window : List ℕ} {records held : ℕ} (r : Rest m brought records held m' window) → Card N Z brought r.answers r.place m'
  card_at r = record { lent = lent; new = m; created = made; read = r.read }

  -- what is explained is the record that so many records of the log stand before, at the pool of a card that has melded these
  pub record_explained : {before : ℕ} {window m' window' : List ℕ} {told : Told} (s : Sought before m window m' window' (Ok told)) → is_record told ≡ true
      → ExplainedAt N Z (log_in s) before m' told
  record_explained {before} {window} {m'} {window'} {told} s is = by_seen s.last.seen s.last.looked s.last.told_at s.all_passed
    where
      by_seen : (seen : Result Front Stop) (l : Looked s.held s.between window' seen) → ToldAt s.records m' window' seen (Ok told) → IsErr seen ⊎ (s.records ≡ before)
          → ExplainedAt N Z (s.brought ++ brought_by l) before m' told
      by_seen (Ok front) l t (inl e) = absurd (true≢false (sym e))
      by_seen (Ok front) l t (inr e) =
          let r = rest_look (passed_rest s.passed) l in
          let q : cut_at (take front.held window') 0 ≡ Record front.next = sym (cut_case _ 0 _ l.found) in
          record {
            pool = record { answers = r.answers; place = r.place; card = card_at r; count = r.count ∙ e };
            next = r.place + front.next;
            found = subst (CutIs (s.brought ++ brought_by l) r.place) (stands r front.next q) (cut_is (s.brought ++ brought_by l) r.place);
            tells = subst (λ (b : List ℕ). Tells m' b told) (handed r front.next q) t.0;
          }
      by_seen (Err (Stops.Unread held none)) l t a = cc
      by_seen (Err (Stops.Over held found)) l t a =
          let e : told ≡ Tolds.Over found s.records = cc in
          absurd (true≢false (sym is ∙ ap is_record e))

  -- where no record is told, the log was read to what stands behind its last record, and has so many
  pub log_over : {before : ℕ} {window m' window' : List ℕ} {found : Cut} {records : ℕ} (s : Sought before m window m' window' (Ok (Tolds.Over found records)))
      → OverAt N Z (log_in s) records found m'
  log_over {before} {window} {m'} {window'} {found} {records} s = by_seen s.last.seen s.last.looked s.last.told_at
    where
      by_seen : (seen : Result Front Stop) (l : Looked s.held s.between window' seen) → ToldAt s.records m' window' seen (Ok (Tolds.Over found records))
          → OverAt N Z (s.brought ++ brought_by l) records found m'
      by_seen (Ok front) l t = absurd t.0
      by_seen (Err (Stops.Unread held none)) l t = cc
      by_seen (Err (Stops.Over held other)) l t =
          let r = rest_look (passed_rest s.passed) l in
          let log : List ℕ = s.brought ++ brought_by l in
          let same : other ≡ found = cc in
          let over : is_over found = subst is_over same l.shows.1 in
          let at : cut_at log r.place ≡ found =
          over_behind log r.place r.inside found over (ap (λ (x : List ℕ). cut_at x 0) r.rest ∙ sym (cut_case _ 0 _ l.found) ∙ same) in
          let many : s.records ≡ records = cc in
          record {
            answers = r.answers;
            whole = record { place = r.place; card = card_at r; found = subst (CutIs log r.place) at (cut_is log r.place); over = over };
            count = r.count ∙ many;
          }

  -- no pool is unfit there
  pub never_unfit : {before : ℕ} {window m' window' : List ℕ} {x : Explained} → Sought before m window m' window' (Ok (Tolds.Unfit x)) → ⊥
  never_unfit {before} {window} {m'} {window'} {x} s = by_seen s.last.seen s.last.looked s.last.told_at
    where
      by_seen : (seen : Result Front Stop) → Looked s.held s.between window' seen → ToldAt s.records m' window' seen (Ok (Tolds.Unfit x)) → ⊥
      by_seen (Ok front) l t = t.0.0 (card_fit (card_at (passed_rest s.passed)))
      by_seen (Err (Stops.Unread held none)) l t = cc
      by_seen (Err (Stops.Over held other)) l t = cc
