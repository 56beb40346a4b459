-- The pool after a log: each call of meld gives the rules' answer and looks, and the pool then is the image of the rules' state.
-- The idea: a promise fixes the arrangement that a record leaves (`leaves`), and that is one of the rules' next state (`after_state`).
-- Assumes nothing.
use Prim.Native.Nat.{ℕ}
use mathlib.Core.Path.{◌≡◌, refl, ap, ◌∙◌}
use mathlib.Core.List.{List, [], ◌∷◌, map}
use Rattle.words.specs.Word.{Bytes}
use Rattle.record.specs.Parse.{parse}
use Rattle.record.proofs.RoundTrip.{bytes_of_parse}
use Rattle.rules.specs.State.{State}
use Rattle.rules.specs.Verdict.{next}
use Rattle.rules.specs.Log.{ValidIf, after}
use Rattle.pool.specs.Image.{Arrangement, Image, state_of}
use Rattle.meld.specs.declared.melding.Melded.{Melded}
use Rattle.meld.specs.After.{after_in}
use Rattle.meld.specs.Melds.{Melds, melded_of}
use Rattle.meld.proofs.AfterState.{after_state}
use Rattle.demands.specs.Runs.{Means, verdicts, Melding, none_left}

-- each of some byte strings has bytes only
pub data AllBytes : List (List ℕ) → Type 0 where
  no_bytes : AllBytes []
  more_bytes : {bytes : List ℕ} {parts : List (List ℕ)} → Bytes bytes → AllBytes parts → AllBytes (bytes ∷ parts)

-- the arrangement after records
abbrev pub arranged : Arrangement → List (List ℕ) → Arrangement
arranged A [] = A
arranged A (bytes ∷ parts) = arranged (after_in A (parse bytes)) parts

-- what parses keeps the rules
pub parsed_valid : (bytes : List ℕ) → Bytes bytes → ValidIf (parse bytes)
parsed_valid bytes b r e = (bytes_of_parse bytes r b e).0

-- the answers, the looks and the pool after some records, from a fit pool on
pub record Followed (A : Arrangement) (parts : List (List ℕ)) (xs : List Melded) (m : List ℕ) : Type 0 where
  pub answers : xs ≡ verdicts (state_of A) parts
  pub image : Image m (arranged A parts)
  pub state : state_of (arranged A parts) ≡ after (state_of A) (map parse parts)

pub melding_follows : {m m' : List ℕ} {parts : List (List ℕ)} {xs : List Melded} (A : Arrangement) → Image m A → AllBytes parts → Melding m parts xs m' → Followed A parts xs m'
unfolding after
melding_follows A i no_bytes none_left = record { answers = refl; image = i; state = refl }
melding_follows A i (more_bytes {bytes = bytes} {parts = parts} b bs) (Melding.one_more {xs = xs} h t) =
    let x = h.fit A i in
    let s = after_state A i.arranged (parse bytes) (parsed_valid bytes b) in
    let f = melding_follows (after_in A (parse bytes)) x.leaves bs t in
    record {
      answers = ap (λ (a : Melded). a ∷ xs) x.verdict_is ∙ ap (λ (l : List Melded). melded_of (state_of A) (parse bytes) ∷ l) (f.answers ∙ ap (λ (S : State). verdicts S parts) s);
      image = f.image;
      state = f.state ∙ ap (λ (S : State). after S (map parse parts)) s;
    }

-- A POOL THAT MEANS A STATE

-- melding gives the rules' answer and looks, and the pool then means the rules' next state
pub meld_means : {m bytes m' : List ℕ} {a : Melded} (S : State) → Means m S → Bytes bytes → Melds m bytes m' a → (a ≡ melded_of S (parse bytes)) × Means m' (next S (parse bytes))
meld_means {bytes = bytes} S means b h =
    let A = means.arrangement in
    let x = h.fit A means.image in (
      x.verdict_is ∙ ap (λ (T : State). melded_of T (parse bytes)) means.state,
      record {
        arrangement = after_in A (parse bytes);
        image = x.leaves;
        state = after_state A means.image.arranged (parse bytes) (parsed_valid bytes b) ∙ ap (λ (T : State). next T (parse bytes)) means.state;
      },
    )
