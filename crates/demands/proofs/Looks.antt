-- R37 on any bytes: a fit pool means a lawful state, whether or not a log has made it, and the rules' limit holds at every lawful state.
-- Assumes nothing.
use Prim.Native.Nat.{ℕ}
use mathlib.Core.Path.{◌≡◌, refl, ap, ◌∙◌}
use mathlib.Core.Option.{none}
use mathlib.Core.List.{List}
use native.Mathlib.Omega.{arith}
use Rattle.words.specs.Word.{Bytes}
use Rattle.record.specs.Parse.{parse}
use Rattle.rules.specs.State.{State}
use Rattle.rules.specs.Verdict.{Verdict, committed, conflict, too_old, no_room, malformed, ahead, positions_used_up, verdict}
use Rattle.rules.specs.Tree.{looks_for, looks_of}
use Rattle.rules.proofs.Bound.{looks_limit}
use Rattle.pool.specs.Image.{Fit, state_of}
use Rattle.fit.proofs.Decided.{fit_or_not}
use Rattle.meld.specs.declared.melding.Melded.{Melded}
use Rattle.meld.specs.Melds.{Melds}
use Rattle.demands.specs.Looks.{LooksLimited}
use Rattle.demands.proofs.Following.{parsed_valid}

-- where there is no record there is no look
no_looks : (S : State) → looks_of S none ≡ 0
unfolding looks_of
no_looks S = go (verdict S none)
  where
    go : (v : Verdict) → looks_for 0 v ≡ 0
    go committed = refl
    go conflict = refl
    go too_old = refl
    go no_room = refl
    go malformed = refl
    go ahead = refl
    go positions_used_up = refl

-- the looks of any meld
pub looks_limit_always : (m bytes m' : List ℕ) (x : Melded) → Bytes m → Bytes bytes → Melds m bytes m' x → LooksLimited m bytes x.looks
looks_limit_always m bytes m' x lent b h = go (fit_or_not m lent)
  where
    refused : (Fit m → ⊥) → x.looks ≡ 0
    refused u = ap (λ (y : Melded). y.looks) (h.unfit u).unfit_is

    go : Dec (Fit m) → LooksLimited m bytes x.looks
    go (no u) = record { limit = λ r is. omega (arith, refused u); malformed = λ _. refused u; unfit = refused }
    go (yes f) =
        let S = state_of f.arrangement in
        let e : x.looks ≡ looks_of S (parse bytes) = ap (λ (y : Melded). y.looks) (h.fit f.arrangement f.image).verdict_is in
        record {
          limit = λ r is. omega (arith, e ∙ ap (looks_of S) is, looks_limit {S = S} {r = r} f.image.arranged.lawful (parsed_valid bytes b r is));
          malformed = λ is. e ∙ ap (looks_of S) is ∙ no_looks S;
          unfit = λ u. absurd (u f);
        }
