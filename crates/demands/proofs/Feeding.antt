-- R49 on bytes: a log fed call by call, cut anywhere, is a card's walk over it, over the promise of `feed` alone.
-- The idea: call after call the run stays a card that has come so far (`fed_on`); what two cards say of one log is the same.
-- Assumes nothing.
use Prim.Native.Nat.{ℕ}
use mathlib.Core.Path.{◌≡◌, refl, sym, ap, ◌∙◌}
use mathlib.Core.Option.{some}
use mathlib.Core.List.{List, [], ◌∷◌, ◌++◌}
use native.Mathlib.Omega.{arith}
use lib.ListN.{length, take}
use Rattle.words.specs.Word.{Bytes}
use Rattle.record.specs.Answer.{committed, unfit_pool, output_short}
use Rattle.record_log.specs.declared.found.Cut.{Cut}
use Rattle.rules.specs.State.{fresh}
use Rattle.create.specs.Fresh.{Created}
use Rattle.meld.specs.declared.melding.Melded.{Melded}
use Rattle.pages.specs.declared.told.Happened.TheVariants.{Refused}
use Rattle.pages.specs.declared.told.Fed.{Fed}
use Rattle.pages.specs.Pages.{carry_size}
use Rattle.pages.proofs.Rows.{may_few}
use Rattle.pages.proofs.Refusals.{such_never_8, fit_never_7}
use Rattle.demands.specs.Runs.{so_far, PoolAt, Whole}
use Rattle.demands.specs.Feeding.{verdicts_in, ending_in, Feeding, no_call, one_more, OneMore, FedSoFar}
use Rattle.demands.proofs.Cards.{first_verdicts, card_follows, pool_after_log, same_log_same_bytes}
use Rattle.demands.proofs.FedOn.{fed_such, card_fit, fed_on, ended_so}

-- A RUN IS A CARD

module _ {N Z : ℕ} {lent new log carry : List ℕ} (made : Created lent N Z committed new) (sized : length carry ≡ carry_size) where
  -- a run is a card that has melded the log up to a place, and the bytes from there to what is taken are carried
  pub fed_is_a_card : {rs : List Fed} {taken : ℕ} {m carry' : List ℕ} {carried : ℕ} → Feeding log new carry rs taken m carry' carried
      → FedSoFar N Z log rs taken m carry' carried
  fed_is_a_card no_call = record {
    place = 0;
    card = record { lent = lent; new = new; created = made; read = so_far };
    taken_is = refl;
    inside = omega arith;
    carried_are = refl;
    sized = sized;
    may = may_few carry 0 (omega arith);
  }
  fed_is_a_card (one_more run n over all f) = fed_on (fed_is_a_card run) n over f

  module _ {rs : List Fed} {taken : ℕ} {m carry' : List ℕ} {carried : ℕ} (run : Feeding log new carry rs taken m carry' carried) where
    -- the pool after q verdicts is that of a card after q records
    pub fed_pool_at : PoolAt N Z log (length (verdicts_in rs)) m
    fed_pool_at = let c = fed_is_a_card run in record { answers = verdicts_in rs; place = c.place; card = c.card; count = refl }

    module _ {r : Fed} {m' carry'' : List ℕ} (call : OneMore log taken m carry' carried r m' carry'') where
      -- 8 and 7 are never said
      pub never_8_or_7 : (r.happened ≡ Refused output_short → ⊥) × (r.happened ≡ Refused unfit_pool → ⊥)
      never_8_or_7 = let c = fed_is_a_card run in (such_never_8 call.feeds (fed_such c), fit_never_7 call.feeds (card_fit c.card))

      -- where a call says how the log ends, every record was decided before it, and the log ends so; pool and verdicts are as before
      pub fed_ending : (last : Cut) → ending_in r.happened ≡ some last
          → Whole N Z log (verdicts_in rs) last m × (m' ≡ m) × (verdicts_in (rs ++ (r ∷ [])) ≡ verdicts_in rs)
      fed_ending = ended_so (fed_is_a_card run) call.n call.over call.feeds call.all_of_it

    -- the verdicts are the first of those of any card that has melded the whole log; where an ending is said they are all of them, and ending
    -- and pool are that card's
    pub fed_verdicts : {ys : List Melded} {end : Cut} {whole : List ℕ} → Bytes log → Whole N Z log ys end whole
        → (verdicts_in rs ≡ take (length (verdicts_in rs)) ys)
        × ((r : Fed) (m' carry'' : List ℕ) → OneMore log taken m carry' carried r m' carry'' → (last : Cut) → ending_in r.happened ≡ some last
        → (verdicts_in rs ≡ ys) × (last ≡ end) × (m' ≡ whole))
    fed_verdicts {ys} {end} {whole} b w = (
      first_of,
      λ r m' carry'' call last said.
          let (k, same, _) = fed_ending call last said in
          let (x, y, z) = same_log_same_bytes N Z log (verdicts_in rs) ys last end m whole b k w in
          (x, y, same ∙ z),
    )
      where
        first_of : verdicts_in rs ≡ take (length (verdicts_in rs)) ys
        first_of =
            let f = pool_after_log N Z log ys end whole b w in
            (card_follows b f.walks (fed_is_a_card run).card).answers ∙ first_verdicts (length (verdicts_in rs)) (fresh N Z) f.parts
            ∙ ap (take (length (verdicts_in rs))) (sym f.answers)
