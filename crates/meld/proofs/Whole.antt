-- One law for each return of `meld_fit` and `meld`, and for what their calls ask.
-- Assumes nothing.
use Prim.Native.Nat.{ℕ, ◌<◌}
use mathlib.Core.Path.{◌≡◌, refl, sym, ap, ◌∙◌, subst}
use mathlib.Core.Bool.{Bool, true, false, not}
use mathlib.Core.Option.{Option, none, some}
use mathlib.Core.List.{List}
use native.Mathlib.Omega.{arith}
use borrow.Author.Tests.{lt-leb}
use Rattle.record.specs.Record.{Rec}
use Rattle.record.specs.Parse.{parse}
use Rattle.record.specs.Answer.{positions_used_up, malformed, unfit_pool}
use Rattle.nodes.specs.declared.header.Header.{Header}
use Rattle.nodes.specs.Nodes.{header_at}
use Rattle.rules.specs.State.{last_position}
use Rattle.rules.specs.Verdict.{verdict}
use Rattle.rules.specs.Verdict.{positions_used_up as isUsedUp}
use Rattle.rules.specs.Tree.{looks_of}
use Rattle.rules.proofs.Near.{verdict_last}
use Rattle.pool.specs.Image.{Arrangement, Image, Fit, state_of}
use Rattle.advance.specs.Moved.{moved_on}
use Rattle.fit.specs.Whole.{Decides}
use Rattle.meld.specs.declared.melding.Melded.{Melded}
use Rattle.meld.specs.After.{after_in}
use Rattle.meld.specs.Melds.{MeldsAs, MeldsFit, Melds}
use Rattle.meld.specs.Lists.{Names, Meldable, MeldsLists}
use Rattle.meld.proofs.Lookups.{now_fit, not_fit}

module _ (m bs : List ℕ) (h : Header) (eh : h ≡ header_at m) where
  position_is : (A : Arrangement) → Image m A → h.position ≡ A.p
  position_is A i = ap (λ (x : Header). x.position) (eh ∙ i.header)

  -- no position is left
  pub used_up : h.position ≡ 4294967295 → MeldsFit m bs m (record { answer = positions_used_up; looks = 0 })
  unfolding after_in looks_of
  used_up e A i =
      let v : verdict (state_of A) (parse bs) ≡ isUsedUp = verdict_last (state_of A) (parse bs) (omega (arith, position_is A i)) in
      record { verdict_is = rw v; leaves = rw v i }

  module _ (fit : Fit m) (d : h.position ≡ 4294967295 → ⊥) where
    more : (A : Arrangement) → Image m A → A.p < last_position
    more A i = let x : A.p ≡ 4294967295 → ⊥ = λ e. d (position_is A i ∙ e) in omega (arith, i.arranged.lawful.last)

    -- the bytes are no record
    pub is_malformed : parse bs ≡ none → (m' : List ℕ) → ((A : Arrangement) → Image m A → Image m' (moved_on A)) → MeldsFit m bs m' (record { answer = malformed; looks = 0 })
    unfolding after_in looks_of verdict
    is_malformed e m' f A i = rw e (record { verdict_is = rw (lt-leb last_position A.p (more A i)); leaves = rw (lt-leb last_position A.p (more A i)) (f A i) })

    module _ (s : ℕ) (kinds ks xs ls hs : List ℕ) (r : Rec) (n : Names s kinds ks xs ls hs r) where
      pub is_meldable : Meldable m s kinds ks xs ls hs
      is_meldable = record { arrangement = fit.arrangement; image = fit.image; left = more fit.arrangement fit.image; r = r; names = n }

      pub melded_lists : parse bs ≡ some r → (m' : List ℕ) (a : Melded) → MeldsLists m s kinds ks xs ls hs m' a → MeldsFit m bs m' a
      melded_lists e m' a f A i = subst (λ (o : Option Rec). MeldsAs A o m' a) (sym e) (f A i r n)

-- THE WHOLE

module _ (m bs : List ℕ) (b : Bool) (d : Decides (Fit m) b) where
  pub refuses : not b ≡ true → Melds m bs m (record { answer = unfit_pool; looks = 0 })
  refuses e = record { fit = λ A i. absurd (not_fit m b d e (record { arrangement = A; image = i })); unfit = λ _. record { unfit_is = refl; unchanged = refl } }

  pub melds : not b ≡ false → (m' : List ℕ) (a : Melded) → MeldsFit m bs m' a → Melds m bs m' a
  melds e m' a f = record { fit = f; unfit = λ n. absurd (n (now_fit m b d e)) }
