-- One law for each return of `explain_with`.
-- Assumes nothing.
use Prim.Native.Nat.{ℕ, ◌<◌}
use mathlib.Core.Path.{◌≡◌, refl, sym, ap, ◌∙◌, subst}
use mathlib.Core.Option.{Option, none, some}
use mathlib.Core.List.{List}
use native.Mathlib.Omega.{arith}
use borrow.Author.Tests.{lt-leb}
use Rattle.record.specs.Answer as Numbers
use Rattle.record.specs.Record.{Rec}
use Rattle.record.specs.Parse.{parse}
use Rattle.nodes.specs.declared.header.Header.{Header}
use Rattle.nodes.specs.Nodes.{header_at}
use Rattle.rules.specs.State.{State, last_position}
use Rattle.rules.specs.Verdict.{positions_used_up, verdict}
use Rattle.rules.specs.Tree.{looks_of}
use Rattle.rules.proofs.Near.{verdict_last}
use Rattle.pool.specs.Image.{Arrangement, Image, Fit, state_of}
use Rattle.meld.specs.Lists.{Names}
use Rattle.reason.specs.declared.told.Reason.TheVariants.{Nothing}
use Rattle.reason.specs.declared.told.Explained.{Explained}
use Rattle.reason.specs.Reason.{ReasonFor, TrueReason, ExplainsAs}
use Rattle.reason.specs.Steps.{plainly, Explainable, ExplainsLists}

-- no reason is told where positions are used up
nothing_left : (S : State) (o : Option Rec) → verdict S o ≡ positions_used_up → TrueReason S o Nothing
nothing_left S none e = refl
nothing_left S (some r) e = subst (ReasonFor S r Nothing) (sym e) refl

module _ (m bs : List ℕ) (h : Header) (eh : h ≡ header_at m) where
  position_is : (A : Arrangement) → Image m A → h.position ≡ A.p
  position_is A i = ap (λ (x : Header). x.position) (eh ∙ i.header)

  -- no position is left
  pub used_up : h.position ≡ 4294967295 → (x : Explained) → x ≡ plainly Numbers.positions_used_up 0 → (A : Arrangement) → Image m A → ExplainsAs (state_of A) (parse bs) x
  unfolding looks_of
  used_up e x is A i =
      let v : verdict (state_of A) (parse bs) ≡ positions_used_up = verdict_last (state_of A) (parse bs) (omega (arith, position_is A i)) in
      subst (ExplainsAs (state_of A) (parse bs)) (sym is) (record { as_melded = rw v; true_reason = nothing_left (state_of A) (parse bs) v })

  module _ (fit : Fit m) (d : h.position ≡ 4294967295 → ⊥) where
    more : (A : Arrangement) → Image m A → A.p < last_position
    more A i = let x : A.p ≡ 4294967295 → ⊥ = λ e. d (position_is A i ∙ e) in omega (arith, i.arranged.lawful.last)

    -- the bytes are no record
    pub is_malformed : parse bs ≡ none → (x : Explained) → x ≡ plainly Numbers.malformed 0 → (A : Arrangement) → Image m A → ExplainsAs (state_of A) (parse bs) x
    unfolding looks_of verdict
    is_malformed e x is A i =
        subst (λ (o : Option Rec). ExplainsAs (state_of A) o x) (sym e)
        (subst (ExplainsAs (state_of A) none) (sym is) (record { as_melded = rw (lt-leb last_position A.p (more A i)); true_reason = refl }))

    module _ (s : ℕ) (kinds ks xs ls hs : List ℕ) (r : Rec) (n : Names s kinds ks xs ls hs r) where
      pub is_explainable : Explainable m s kinds ks ls hs
      is_explainable = record { arrangement = fit.arrangement; image = fit.image; left = more fit.arrangement fit.image; r = r; xs = xs; names = n }

      pub lists_explained : parse bs ≡ some r → (x : Explained) → ExplainsLists m s kinds ks ls hs x → (A : Arrangement) → Image m A → ExplainsAs (state_of A) (parse bs) x
      lists_explained e x f A i = subst (λ (o : Option Rec). ExplainsAs (state_of A) o x) (sym e) (f A i r xs n)
