-- A log that comes in parts is melded whole (`parts_whole`); so it does not matter how it is cut (`cut_anywhere`, R49).
-- The idea: each call of such a run is lent a front of the log's bytes that are not taken yet, so the run is one of `Feeding`.
-- Assumes nothing.
use Prim.Native.Nat.{ℕ, ◌+◌, ◌≤◌}
use mathlib.Core.Path.{◌≡◌, refl, sym, ap, ◌∙◌, subst}
use mathlib.Core.Bool.{Bool, true, false, false≢true}
use mathlib.Core.Option.{some}
use mathlib.Core.List.{List, [], ◌∷◌, ◌++◌, append_assoc}
use native.Mathlib.Omega.{arith}
use lib.ListN.{length, take, drop, length-drop}
use lib.Seq.{drop-drop, take-append_seam, drop-append-le}
use Rattle.words.specs.Word.{Bytes}
use Rattle.record.specs.Answer.{committed}
use Rattle.record_log.specs.declared.found.Cut.{Cut}
use Rattle.record_log.specs.Walk.{joined}
use Rattle.create.specs.Fresh.{Created}
use Rattle.meld.specs.declared.melding.Melded.{Melded}
use Rattle.pages.specs.declared.told.Fed.{Fed}
use Rattle.pages.specs.Pages.{carry_size, Feeds}
use Rattle.pages.proofs.Progress.{takes_within}
use Rattle.demands.specs.Runs.{Whole}
use Rattle.demands.specs.Feeding.{verdicts_in, ending_in, Feeding, no_call, one_more, OneMore, PartsFed, next_part, part_goes_on, breaks_off, is_over}
use Rattle.demands.proofs.Cards.{same_log_same_bytes}
use Rattle.demands.proofs.Feeding.{fed_ending}

-- a part that the bytes not taken begin with is a front of them
lent_front : (log : List ℕ) (taken : ℕ) (part more : List ℕ) {m carry : List ℕ} {carried : ℕ} {over : Bool} {r : Fed} {m' carry' : List ℕ}
    → drop taken log ≡ part ++ more → Feeds m carry carried part over r m' carry' → Feeds m carry carried (take (length part) (drop taken log)) over r m' carry'
lent_front log taken part more {m} {carry} {carried} {over} {r} {m'} {carry'} rest f =
    subst (λ (l : List ℕ). Feeds m carry carried l over r m' carry') (sym (ap (take (length part)) rest ∙ take-append_seam part more)) f

module _ {N Z : ℕ} {lent new first : List ℕ} (log : List ℕ) (made : Created lent N Z committed new) (sized : length first ≡ carry_size) where
  -- the call that says how the log ends
  last_call : {done : List Fed} {taken : ℕ} {m carry : List ℕ} {carried : ℕ} {r : Fed} {m' carry' : List ℕ} {last : Cut}
      → Feeding log new first done taken m carry carried → OneMore log taken m carry carried r m' carry' → ending_in r.happened ≡ some last
      → Whole N Z log (verdicts_in (done ++ (r ∷ []))) last m'
  last_call {done = done} {m' = m'} {last = last} run call e =
      let (w, same, silent) = fed_ending made sized run call last e in
      subst (λ (xs : List Melded). Whole N Z log xs last m') (sym silent) (subst (Whole N Z log (verdicts_in done) last) (sym same) w)

  -- from a run over the log's first bytes on, where the parts are the rest
  parts_on : {parts : List (List ℕ)} {m carry : List ℕ} {carried : ℕ} {rs : List Fed} {m' : List ℕ} {last : Cut} → PartsFed parts m carry carried rs m' last
      → (done : List Fed) (taken : ℕ) → Feeding log new first done taken m carry carried → drop taken log ≡ joined parts
      → Whole N Z log (verdicts_in (done ++ rs)) last m'
  parts_on (next_part p) done taken run rest = parts_on p done taken run rest
  parts_on (part_goes_on {part = part} {parts = parts} {m'' = m''} {r = r} {rs = rs} {last = last} f e p) done taken run rest =
      let run' = one_more run (length part) false (λ x. absurd (false≢true x)) (lent_front log taken part (joined parts) rest f) in
      let rest' : drop (taken + r.taken) log ≡ drop r.taken part ++ joined parts =
      sym (drop-drop r.taken taken log) ∙ ap (drop r.taken) rest ∙ drop-append-le r.taken part (joined parts) (takes_within f) in
      subst (λ (l : List Fed). Whole N Z log (verdicts_in l) last m'') (append_assoc done (r ∷ []) rs) (parts_on p (done ++ (r ∷ [])) (taken + r.taken) run' rest')
  parts_on (breaks_off {part = part} {parts = parts} f e) done taken run rest =
      last_call run (record { n = length part; over = false; all_of_it = λ x. absurd (false≢true x); feeds = lent_front log taken part (joined parts) rest f }) e
  parts_on (is_over f e) done taken run rest =
      let none_left : length log ≤ taken + 0 = omega (arith, length-drop taken log, ap (length {A = ℕ}) rest) in
      last_call run (record { n = 0; over = true; all_of_it = λ _. none_left; feeds = f }) e

-- a log fed in parts is melded whole: the verdicts, the ending and the pool are a card's
pub parts_whole : {N Z : ℕ} {lent new carry : List ℕ} {parts : List (List ℕ)} {rs : List Fed} {m : List ℕ} {last : Cut} → Created lent N Z committed new
    → length carry ≡ carry_size → PartsFed parts new carry 0 rs m last → Whole N Z (joined parts) (verdicts_in rs) last m
parts_whole {parts = parts} made sized p = parts_on (joined parts) made sized p [] 0 no_call refl

-- every way to cut a log gives the same verdicts and looks, the same ending and the same pool, whatever pool and carry held before
pub cut_anywhere : {N Z : ℕ} {lent lent' new new' carry carry' : List ℕ} {parts parts' : List (List ℕ)} {rs rs' : List Fed} {m m' : List ℕ} {last last' : Cut}
    → Bytes (joined parts) → joined parts ≡ joined parts' → Created lent N Z committed new → Created lent' N Z committed new'
    → length carry ≡ carry_size → length carry' ≡ carry_size → PartsFed parts new carry 0 rs m last → PartsFed parts' new' carry' 0 rs' m' last'
    → (verdicts_in rs ≡ verdicts_in rs') × (last ≡ last') × (m ≡ m')
cut_anywhere {N} {Z} {parts = parts} {rs = rs} {rs' = rs'} {m = m} {m' = m'} {last = last} {last' = last'} b same made made' sized sized' p q =
    same_log_same_bytes N Z (joined parts) (verdicts_in rs) (verdicts_in rs') last last' m m' b (parts_whole made sized p)
    (subst (λ (log : List ℕ). Whole N Z log (verdicts_in rs') last' m') (sym same) (parts_whole made' sized' q))
