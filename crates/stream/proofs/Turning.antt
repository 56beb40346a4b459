-- The turns of the program, one after the other: what the loop that makes them knows when a turn begins, and how it closes.
-- Assumes nothing.
use Rattle.std.proofs.Common.{◌≡◌, ℕ, ◌+◌, Bool, true, false, not, eqb, Result, Ok, Err, List, [], ◌∷◌, ◌++◌, length, take, sym, refl, ap, ◌∙◌, subst, true≢false, arith, length-append, eq-eqb, ne_eqb}
use Rattle.std.proofs.lemmas.Bool.{eqb-true, not-false}
use Rattle.std.specs.declared.io.Error.{Error}
use Rattle.record_log.specs.declared.found.Cut.{Cut}
use Rattle.record_log.specs.declared.found.Cut.TheVariants.{Impossible}
use Rattle.pages.specs.declared.told.Fed.{Fed}
use Rattle.lines.specs.declared.parts.Going.{Going}
use Rattle.lines.specs.Parts.{PartFed, Finishes}
use Rattle.stream.specs.declared.closing.Ending.{Ending}
use Rattle.stream.specs.declared.closing.Ending.TheVariants.{Log, Unread}
use Rattle.stream.specs.declared.input.Filled.{Filled}
use Rattle.stream.specs.Buffer.{filled_by, Refilled}
use Rattle.stream.specs.Turns.{Progress, more_by, progress_by, TurnIs, Turns, none_yet, one_more, Closes, stops, unread, over, Streamed}

-- a failed read brings nothing
failed_empty : {page page' : List ℕ} {read : Filled} → Refilled 0 page page' read → read.failed ≡ true → read.held ≡ 0
failed_empty {page} {read = read} f e = by_answer f.got f.told
  where
    by_answer : (got : Result ℕ Error) → read ≡ filled_by got 0 (length page) → read.held ≡ 0
    by_answer (Ok n) is = absurd (true≢false (sym e ∙ ap (λ (x : Filled). x.failed) is))
    by_answer (Err x) is = ap (λ (y : Filled). y.held) is

-- where another page may follow, the log goes on, the read did not fail, and the page is not empty
pub follows : {page page' : List ℕ} {read : Filled} → Refilled 0 page page' read → (stopped : Bool) → more_by read.held stopped ≡ true
    → (stopped ≡ false) × (read.failed ≡ false) × (read.held ≡ 0 → ⊥)
follows {read = read} f true more = absurd (true≢false (sym more))
follows {read = read} f false more = (refl, by_flag read.failed refl, some)
  where
    some : read.held ≡ 0 → ⊥
    some z = true≢false (sym more ∙ ap not (eq-eqb read.held 0 z))

    by_flag : (b : Bool) → read.failed ≡ b → read.failed ≡ false
    by_flag true e = absurd (some (failed_empty f e))
    by_flag false e = e

-- where none may and the log goes on, the page is empty
pub last : (held : ℕ) (stopped : Bool) → more_by held stopped ≡ false → stopped ≡ false → held ≡ 0
last held true none e = absurd (true≢false e)
last held false none e = eqb-true held 0 (not-false (eqb held 0) none)

-- the log is over at the pool, the carry and what is carried then
pub over_at : {m m₁ carry carry₁ : List ℕ} {carried carried₁ : ℕ} → m₁ ≡ m → carry₁ ≡ carry → carried₁ ≡ carried → {after carry₂ : List ℕ} {found : Cut}
    → Finishes m₁ carry₁ carried₁ after carry₂ found → Finishes m carry carried after carry₂ found
over_at {m} {carry = carry} {carry₁ = carry₁} {carried₁ = carried₁} e f g {after} {carry₂} {found} k =
    subst (λ (x : ℕ). Finishes m carry x after carry₂ found) g
    (subst (λ (x : List ℕ). Finishes m x carried₁ after carry₂ found) f (subst (λ (x : List ℕ). Finishes x carry₁ carried₁ after carry₂ found) e k))

-- how far the program is where another page may follow
abbrev pub on_from : ℕ → ℕ → Progress
on_from carried position = record { carried = carried; position = position; more = true; failed = false; stopped = false }

-- so many turns were made, and another page may follow
pub record Turned (m carry page : List ℕ) (carried position made_so_far : ℕ) (m' carry' page' : List ℕ) : Type 0 where
  pub pages : List (List ℕ)
  pub calls : List Fed
  pub made : Turns m carry page pages calls (on_from carried position) m' carry' page'
  pub all : length pages ≡ made_so_far

-- none at first
pub turned_none : (m carry page : List ℕ) → Turned m carry page 0 1 0 m carry page
turned_none m carry page = record { pages = []; calls = []; made = none_yet; all = refl }

module _ {m carry page : List ℕ} {carried position n : ℕ} {m' carry' page' : List ℕ} (t : Turned m carry page carried position n m' carry' page') where
  -- all turns that there may be were made
  pub used_up : n ≡ 18446744073709551615 → {m'' carry'' : List ℕ} {found : Cut} → Finishes m' carry' carried m'' carry'' found → Streamed m carry page m'' (Log found)
  used_up e k =
      record {
        pages = t.pages;
        calls = t.calls;
        progress = on_from carried position;
        after = m';
        carry' = carry';
        page' = page';
        made = t.made;
        until = λ _. t.all ∙ e;
        closes = over refl refl k;
      }

  -- a page read and fed
  module _ {read : Filled} {going : Going} {m'' carry'' page'' : List ℕ} (refilled : Refilled 0 page' page'' read)
      (fed : PartFed (take read.held page'') position m' carry' carried m'' carry'' going) where
    turn : TurnIs carried position m' carry' page' m'' carry'' page'' (progress_by read going)
    turn = record { read = read; going = going; refilled = refilled; fed = fed; progress_is = refl }

    turns : Turns m carry page (t.pages ++ (take read.held page'' ∷ [])) (t.calls ++ fed.calls) (progress_by read going) m'' carry'' page''
    unfolding turn
    turns = one_more t.made refl turn

    -- no other follows it
    closing : {after : List ℕ} {last : Ending} → more_by read.held going.stopped ≡ false → Closes (progress_by read going) m'' carry'' after last → Streamed m carry page after last
    closing none c =
        record {
          pages = t.pages ++ (take read.held page'' ∷ []);
          calls = t.calls ++ fed.calls;
          progress = progress_by read going;
          after = m'';
          carry' = carry'';
          page' = page'';
          made = turns;
          until = λ e. absurd (true≢false (sym e ∙ none));
          closes = c;
        }

    -- an empty page is the last
    empty : going.stopped ≡ false → read.held ≡ 0 → more_by read.held going.stopped ≡ false
    empty e z = ap (more_by read.held) e ∙ ap not (eq-eqb read.held 0 z)

    -- the log does not go on
    pub turn_stops : going.stopped ≡ true → Streamed m carry page m'' (Log Impossible)
    turn_stops e = closing (ap (more_by read.held) e) (stops e)

    -- the read failed
    pub turn_unread : going.stopped ≡ false → read.failed ≡ true → Streamed m carry page m'' Unread
    turn_unread e f = closing (empty e (failed_empty refilled f)) (unread e f)

    -- the page is empty: the log is over
    pub turn_over : going.stopped ≡ false → read.failed ≡ false → read.held ≡ 0 → {after carry₃ : List ℕ} {found : Cut} → Finishes m'' carry'' going.carried after carry₃ found
        → Streamed m carry page after (Log found)
    turn_over e f z k = closing (empty e z) (over e f k)

    -- it is not: another turn may follow
    pub turn_on : going.stopped ≡ false → read.failed ≡ false → (read.held ≡ 0 → ⊥) → Turned m carry page going.carried going.position (n + 1) m'' carry'' page''
    turn_on e f some =
        record {
          pages = t.pages ++ (take read.held page'' ∷ []);
          calls = t.calls ++ fed.calls;
          made = subst (λ (p : Progress). Turns m carry page (t.pages ++ (take read.held page'' ∷ [])) (t.calls ++ fed.calls) p m'' carry'' page'') on turns;
          all = omega (arith, t.all, length-append t.pages (take read.held page'' ∷ []));
        }
      where
        on : progress_by read going ≡ on_from going.carried going.position
        on = λ j. record {
          carried = going.carried;
          position = going.position;
          more = (ap (more_by read.held) e ∙ ap not (ne_eqb read.held 0 some)) j;
          failed = f j;
          stopped = e j;
        }
