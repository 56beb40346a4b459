-- A run of the program over a log is a run of the theorems: its parts are the pages that the reads brought (R49).
-- Assumes nothing.
use Prim.Native.Nat.{ℕ}
use mathlib.Core.Path.{◌≡◌, refl, sym, ap, subst, ◌∙◌}
use mathlib.Core.Bool.{Bool, true, false, true≢false}
use mathlib.Core.List.{List, [], ◌∷◌, ◌++◌, append_assoc, append-nil}
use lib.ListN.{length, take}
use Rattle.record.specs.Answer.{committed}
use Rattle.record_log.specs.declared.found.Cut.{Cut}
use Rattle.record_log.specs.declared.found.Cut.TheVariants.{End, Impossible}
use Rattle.record_log.specs.Walk.{joined}
use Rattle.pool.specs.Image.{Fit}
use Rattle.create.specs.Fresh.{Created}
use Rattle.pages.specs.declared.told.Fed.{Fed}
use Rattle.pages.specs.Pages.{carry_size}
use Rattle.pages.proofs.Fronts.{Such}
use Rattle.demands.specs.Runs.{Whole}
use Rattle.demands.specs.Feeding.{verdicts_in, PartsFed}
use Rattle.demands.proofs.Parts.{parts_whole}
use Rattle.lines.specs.Parts.{PartCalls}
use Rattle.lines.proofs.Parted.{part_ready, part_then, part_breaks, finished, such_none, new_fit}
use Rattle.stream.specs.declared.closing.Ending.{Ending}
use Rattle.stream.specs.declared.closing.Ending.TheVariants.{Limits, Log, Unread}
use Rattle.stream.specs.Turns.{Progress, TurnIs, Turns, none_yet, one_more, Closes, stops, unread, over, Streamed}

-- the log goes on where another page may follow
more_goes_on : (held : ℕ) (stopped : Bool) → Rattle.stream.specs.Turns.more_by held stopped ≡ true → stopped ≡ false
more_goes_on held true e = absurd (true≢false (sym e))
more_goes_on held false e = refl

-- what a log that was read ends with
abbrev found_in : Ending → Cut
found_in (Limits a) = End
found_in (Log found) = found
found_in Unread = End

abbrev is_log : Ending → Bool
is_log (Limits a) = false
is_log (Log found) = true
is_log Unread = false

module _ {m carry page : List ℕ} (fit : Fit m) (such : Such carry 0) where
  -- each turn leaves a fit pool and a carry that may be
  turns_ready : {pages : List (List ℕ)} {calls : List Fed} {p : Progress} {m' carry' page' : List ℕ} → Turns m carry page pages calls p m' carry' page'
      → Fit m' × Such carry' p.carried
  turns_ready none_yet = (fit, such)
  turns_ready (one_more {m'' = m''} {carry'' = carry''} ts on t) =
      let (a, b) = turns_ready ts in
      let (c, d) = part_ready t.fed.made a b in
      (c, subst (λ (q : Progress). Such carry'' q.carried) (sym t.progress_is) d)

  -- the log goes on where another turn was made
  went_on : {pages : List (List ℕ)} {calls : List Fed} {p : Progress} {m' carry' page' : List ℕ} → Turns m carry page pages calls p m' carry' page' → p.more ≡ true
      → p.stopped ≡ false
  went_on none_yet on = refl
  went_on (one_more ts on' t) on =
      ap (λ (q : Progress). q.stopped) t.progress_is
      ∙ more_goes_on t.read.held t.going.stopped (sym (ap (λ (q : Progress). q.more) t.progress_is) ∙ on)

  -- turns that have not stopped are the first of a run
  turns_then : {pages : List (List ℕ)} {calls : List Fed} {p : Progress} {m' carry' page' : List ℕ} → Turns m carry page pages calls p m' carry' page' → p.stopped ≡ false
      → (parts : List (List ℕ)) (qs : List Fed) (m'' : List ℕ) (last : Cut) → PartsFed parts m' carry' p.carried qs m'' last → PartsFed (pages ++ parts) m carry 0 (calls ++ qs) m'' last
  turns_then none_yet e parts qs m'' last f = f
  turns_then (one_more {pages = pages} {calls = calls} {p = p} {m' = m₀} {carry' = carry₀} {m'' = m₁} {carry'' = carry₁} {page'' = page₁} ts on t) e parts qs m'' last f =
      let bytes : List ℕ = take t.read.held page₁ in
      let went : t.going.stopped ≡ false = sym (ap (λ (q : Progress). q.stopped) t.progress_is) ∙ e in
      let g = subst (λ (q : Progress). PartsFed parts m₁ carry₁ q.carried qs m'' last) t.progress_is f in
      let h = part_then (subst (λ (x : Bool). PartCalls bytes m₀ carry₀ p.carried t.fed.calls m₁ carry₁ t.going.carried x) went t.fed.made) parts qs m'' last g in
      subst (λ (l : List (List ℕ)). PartsFed l m carry 0 ((calls ++ t.fed.calls) ++ qs) m'' last) (sym (append_assoc pages (bytes ∷ []) parts))
      (subst (λ (l : List Fed). PartsFed (pages ++ (bytes ∷ parts)) m carry 0 l m'' last) (sym (append_assoc calls t.fed.calls qs))
      (turns_then ts (went_on ts on) (bytes ∷ parts) (t.fed.calls ++ qs) m'' last h))

  -- turns that have stopped are a run over a log with an impossible length
  turns_stopped : {pages : List (List ℕ)} {calls : List Fed} {p : Progress} {m' carry' page' : List ℕ} → Turns m carry page pages calls p m' carry' page' → p.stopped ≡ true
      → PartsFed pages m carry 0 calls m' Impossible
  turns_stopped none_yet e = absurd (true≢false (sym e))
  turns_stopped (one_more {pages = pages} {calls = calls} {p = p} {m' = m₀} {carry' = carry₀} {m'' = m₁} {carry'' = carry₁} {page'' = page₁} ts on t) e =
      let bytes : List ℕ = take t.read.held page₁ in
      let (a, b) = turns_ready ts in
      let broke : t.going.stopped ≡ true = sym (ap (λ (q : Progress). q.stopped) t.progress_is) ∙ e in
      let h = part_breaks (subst (λ (x : Bool). PartCalls bytes m₀ carry₀ p.carried t.fed.calls m₁ carry₁ t.going.carried x) broke t.fed.made) a b [] in
      turns_then ts (went_on ts on) (bytes ∷ []) t.fed.calls m₁ Impossible h

  -- however the turns of a log close
  closed : {p : Progress} {m' carry' page' m'' : List ℕ} {pages : List (List ℕ)} {calls : List Fed} {last : Ending} → Turns m carry page pages calls p m' carry' page'
      → Closes p m' carry' m'' last → (found : Cut) → last ≡ Log found → (rs : List Fed) × PartsFed pages m carry 0 rs m'' found
  closed {m' = m'} {pages = pages} {calls = calls} ts (stops s) found e =
      (calls, subst (λ (c : Cut). PartsFed pages m carry 0 calls m' c) (ap found_in e) (turns_stopped ts s))
  closed ts (unread s f) found e = absurd (true≢false (ap is_log (sym e)))
  closed {pages = pages} {calls = calls} ts (over {m' = m₁} {found = last} s f k) found e =
      let (_, b) = turns_ready ts in
      let rs : List Fed = calls ++ (k.call ∷ []) in (
        rs,
        subst (λ (c : Cut). PartsFed pages m carry 0 rs m₁ c) (ap found_in e)
            (subst (λ (l : List (List ℕ)). PartsFed l m carry 0 rs m₁ last) (append-nil pages) (turns_then ts s [] (k.call ∷ []) m₁ last (finished b k))),
      )

-- a run of the program over a log, from a new pool: a card that has melded the whole of what the reads brought, and ends so. The verdicts are
-- those of the calls made
pub program_is_a_card : {N Z : ℕ} {lent m carry page m' : List ℕ} {found : Cut} → Created lent N Z committed m → length carry ≡ carry_size
    → (s : Streamed m carry page m' (Log found)) → (calls : List Fed) × Whole N Z (joined s.pages) (verdicts_in calls) found m'
program_is_a_card {found = found} made sized s =
    let (rs, fed) = closed (new_fit made) (such_none sized) s.made s.closes found refl in
    (rs, parts_whole made sized fed)
