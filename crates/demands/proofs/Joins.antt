-- Joined or one by one, on bytes (R58): what a pool answers to two records melded one after the other, and to the one that joining made of them.
-- The idea: a fit pool means a lawful state, what joining gave parses to the joined record, and each meld leaves a pool that means the rules' next state; so
-- it is what JoinsState.antt says of states.
-- Assumes nothing.
use Prim.Native.Nat.{ℕ, ◌+◌, ◌-◌, ◌≤◌}
use native.Mathlib.Omega.{arith}
use mathlib.Core.Path.{◌≡◌, refl, sym, ap, ◌∙◌, subst}
use mathlib.Core.Logic.{⊎_elim, inl, inr}
use mathlib.Core.Option.{Option, none, some}
use mathlib.Core.List.{List}
use Rattle.words.specs.Word.{Bytes}
use Rattle.record.specs.Record.{Rec}
use Rattle.record.specs.Parse.{parse}
use Rattle.record.proofs.RoundTrip.{valid_bytes}
use Rattle.joiner.specs.Joined.{joined_of}
use Rattle.joiner.proofs.Only.{join_gave, gave_valid, gave_parses}
use Rattle.rules.specs.State.{Entry, State}
use Rattle.rules.specs.Lookup.{find, payload_at, seen, lookup}
use Rattle.rules.specs.Verdict.{verdict_answer, verdict, next}
use Rattle.pool.specs.Image.{Arrangement, Image, state_of}
use Rattle.meld.specs.declared.kept.Lookup.{Lookup}
use Rattle.meld.specs.declared.melding.Melded.{Melded}
use Rattle.meld.specs.Lookups.{LookupTold, lookup_told, lookup_of, LooksUp}
use Rattle.meld.specs.Melds.{Melds}
use Rattle.demands.specs.Runs.{Means}
use Rattle.demands.specs.Joins.{GaveJoined, TwoWays, JoinedAlike}
use Rattle.demands.proofs.Following.{parsed_valid, meld_means}
use Rattle.demands.proofs.Rows.{verdict_of_lem}
use Rattle.demands.proofs.JoinsUnder.{payload_in, under}
use Rattle.demands.proofs.JoinsRecord.{as_one}
use Rattle.demands.proofs.JoinsState.{AlikeAt, one_by_one}

-- WHAT A LOOKUP SAYS

-- what is seen of an entry is told without a number, and with its payload
told : (o : Option Entry) → ((lookup_told (lookup_of (seen o))).answer ≡ none) × ((lookup_told (lookup_of (seen o))).payload ≡ payload_in o)
told none = (refl, refl)
told (some e) = go e.payload
  where
    go : (o : Option ℕ) → ((lookup_told (lookup_of (payload_at e.position o))).answer ≡ none) × ((lookup_told (lookup_of (payload_at e.position o))).payload ≡ o)
    go none = (refl, refl)
    go (some x) = (refl, refl)

-- a lookup in a pool that means a state says the payload under the key, or absent
looked : (m : List ℕ) (S : State) (k : ℕ) (u : Lookup) → Means m S → LooksUp m k u → ((lookup_told u).answer ≡ none) × ((lookup_told u).payload ≡ under k S)
unfolding lookup
looked m S k u means h =
    let A = means.arrangement in
    let e = h.fit A means.image in
    let t = told (find k (state_of A).kept) in
    (ap (λ (x : LookupTold). x.answer) e ∙ t.0, ap (λ (x : LookupTold). x.payload) e ∙ t.1 ∙ ap (under k) means.state)

-- WHAT A MELD DOES

-- a record melded into a pool that means a state: the rules' answer, and the pool then means the rules' next state
melded : (m bytes m' : List ℕ) (x : Melded) (S : State) (r : Rec) → Means m S → Bytes bytes → parse bytes ≡ some r → Melds m bytes m' x
    → (x.answer ≡ verdict_answer (verdict S (some r))) × Means m' (next S (some r))
melded m bytes m' x S r means lent is h =
    let y = meld_means S means lent h in
    (ap (λ (w : Melded). w.answer) y.0 ∙ ap (λ (o : Option Rec). verdict_answer (verdict S o)) is, subst (λ (o : Option Rec). Means m' (next S o)) is y.1)

-- THE THEOREM

-- R58: in any fit pool with two positions left, for two records of which joining gave j, not too old at v
pub joined_or_one_by_one : (m : List ℕ) (A : Arrangement) → Image m A → (a b j : List ℕ) → Bytes a → Bytes b → GaveJoined a b j
    → (state_of A).p ≤ 4294967293 → (r : Rec) → parse a ≡ some r → (state_of A).p + 1 - r.snapshot ≤ (state_of A).Z
    → (two : TwoWays m a b j) → JoinedAlike m a b j two
joined_or_one_by_one m A i a b j bytes-a bytes-b gave few r is zone two =
    let S = state_of A in
    let g = join_gave a b gave.before gave.size gave.after gave.joins in
    let ra = g.first in
    let rb = g.second in
    let rj = joined_of ra rb in
    let va = parsed_valid a bytes-a ra g.first_is in
    let vb = parsed_valid b bytes-b rb g.second_is in
    let vj = gave_valid a b gave.size gave.after bytes-a bytes-b g in
    let bytes_j : Bytes j = subst Bytes (sym (gave.stands ∙ g.stands)) (valid_bytes rj vj) in
    let is_j : parse j ≡ some rj = ap parse gave.stands ∙ gave_parses a b gave.size gave.after bytes-a bytes-b g in
    let means : Means m S = record { arrangement = A; image = i; state = refl } in
    let by_j = melded m j two.m_j two.x S rj means bytes_j is_j two.melds_j in
    let by_a = melded m a two.m_a two.y S ra means bytes-a g.first_is two.melds_a in
    let by_b = melded two.m_a b two.m_b two.z (next S (some ra)) rb by_a.1 bytes-b g.second_is two.melds_b in
    let same : ra ≡ r = let e : some ra ≡ some r = sym g.first_is ∙ is in cc in
    let at : AlikeAt S ra rb rj = one_by_one S ra rb rj i.arranged.lawful va vb vj (as_one ra rb va vb g.can) (omega arith) (omega (arith, zone, ap (λ (q : Rec). q.snapshot) same)) in
    record {
      commits = λ e.
          let c = at.commits (verdict_of_lem (sym by_j.0 ∙ e)) in (
            by_a.0 ∙ ap verdict_answer c.0,
            by_b.0 ∙ ap verdict_answer c.1,
            λ k u w f h.
                let p = looked two.m_j (next S (some rj)) k u by_j.1 f in
                let q = looked two.m_b (next (next S (some ra)) (some rb)) k w by_b.1 h in
                record { fit_u = p.0; fit_w = q.0; payload = p.1 ∙ c.2 k ∙ sym q.1 },
          );
      conflicts = λ e. ⊎_elim (λ c. inl (by_a.0 ∙ ap verdict_answer c)) (λ c. inr (by_b.0 ∙ ap verdict_answer c)) (at.conflicts (verdict_of_lem (sym by_j.0 ∙ e)));
    }
