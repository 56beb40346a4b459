-- Demand 3 on bytes.
-- The idea: pools of a log mean the rules' states, one refresh on bytes is one of the rules (Once.antt), so a chain on bytes is the rules'
-- chain and `demand_three` speaks of it. The same points and the same verdict leave the same arrangement, and that has one image.
-- Assumes nothing.
use Prim.Native.Nat.{ℕ, ◌-◌, ◌≤◌, ◌<◌}
use mathlib.Core.Path.{◌≡◌, refl, sym, ap, ◌∙◌, subst}
use mathlib.Core.Option.{Option, some}
use mathlib.Core.List.{List, [], ◌∷◌, map}
use native.Mathlib.Omega.{arith}
use lib.ListN.{length, length-map}
use Rattle.words.specs.Word.{Bytes}
use Rattle.record.specs.declared.answer.Answer.{Answer}
use Rattle.record.specs.Answer as Names
use Rattle.record.specs.declared.point.Point.{Point}
use Rattle.record.specs.Record.{Rec, Valid, bytes_of}
use Rattle.record.specs.Parse.{parse}
use Rattle.record.proofs.RoundTrip.{parse_bytes_of, valid_bytes}
use Rattle.record_log.specs.declared.found.Cut.{Cut}
use Rattle.record_log.specs.Walk.{Walks}
use Rattle.record_log.proofs.Walk.{walked}
use Rattle.rules.specs.State.{State, last_position}
use Rattle.rules.specs.Verdict.{Verdict, conflict, verdict_answer, verdict}
use Rattle.rules.specs.Log.{state_at}
use Rattle.rules.specs.Refresh.{Refreshed, done, refresh, and_then, chain}
use Rattle.rules.specs.Refresh as Rules
use Rattle.rules.specs.Demands.{InOrder, last_of}
use Rattle.rules.specs.ChainOutcome.{AnswersAlike, ChainOutcome}
use Rattle.rules.specs.ChainOutcome as Ends
use Rattle.rules.proofs.Refreshing.{refresh_exactly}
use Rattle.rules.proofs.Chain.{demand_three}
use Rattle.pool.specs.Image.{Arrangement, Image, state_of}
use Rattle.pool.proofs.Fixed.{one_image}
use Rattle.meld.specs.declared.melding.Melded.{Melded}
use Rattle.meld.specs.After.{left_in, after_in}
use Rattle.meld.specs.Melds.{Melds, melded_of}
use Rattle.demands.specs.Runs.{Means, PoolAt}
use Rattle.demands.specs.Chains.{Chain, last_stop, refused, further, SameMeld, SameRefresh, ChainEnds, stopped, carried}
use Rattle.demands.proofs.Cards.{card_follows}
use Rattle.demands.proofs.Once.{Once, went, said, once}

-- equal results
done_same : {x y : Rec} → done x ≡ done y → x ≡ y
done_same e = cc

refused_same : {x y : Verdict} → Rules.refused x ≡ Rules.refused y → x ≡ y
refused_same e = cc

done_not_refused : {P : Type 0} {x : Rec} {v : Verdict} → done x ≡ Rules.refused v → P
done_not_refused e = let z : ◌≡◌ {A = ℕ} 0 1 = cc in absurd (omega arith)

-- MELDING AT ONE POOL

module _ (S : State) (m original : List ℕ) (r : Rec) (is : parse original ≡ some r) (means : Means m S) where
  -- meld answers as the rules do at the state that the pool means
  pub meld_answers : (m' : List ℕ) (x : Melded) → Melds m original m' x → x ≡ melded_of S (some r)
  meld_answers m' x h = (h.fit means.arrangement means.image).verdict_is ∙ ap (λ (T : State). melded_of T (parse original)) means.state ∙ ap (melded_of S) is

  -- and leaves the arrangement after that record
  pub meld_leaves : (m' : List ℕ) (x : Melded) → Melds m original m' x → Image m' (after_in means.arrangement (some r))
  meld_leaves m' x h = subst (λ (o : Option Rec). Image m' (after_in means.arrangement o)) is (h.fit means.arrangement means.image).leaves

-- the same points and the same verdict leave the same arrangement
same_after : (A : Arrangement) (r' r : Rec) → r'.points ≡ r.points → verdict (state_of A) (some r') ≡ verdict (state_of A) (some r) → after_in A (some r') ≡ after_in A (some r)
unfolding after_in
same_after A r' r ps v = ap (λ (l : List Point). left_in A l (verdict (state_of A) (some r'))) ps ∙ ap (left_in A r.points) v

-- a record that melds as another by the rules melds so on bytes
same_meld : (S : State) (m original result : List ℕ) (r r' : Rec) → Means m S → parse original ≡ some r → parse result ≡ some r' → r'.points ≡ r.points → AnswersAlike S r' r → SameMeld m original result
same_meld S m original result r r' means is is' ps h m₁ m₂ x₁ x₂ d₁ d₂ =
    let e₁ = meld_answers S m original r is means m₁ x₁ d₁ in
    let e₂ = meld_answers S m result r' is' means m₂ x₂ d₂ in
    let v : verdict (state_of means.arrangement) (some r') ≡ verdict (state_of means.arrangement) (some r) =
    subst (λ (T : State). verdict T (some r') ≡ verdict T (some r)) (sym means.state) h.answer in
    record {
      answer = ap (λ (x : Melded). x.answer) e₂ ∙ ap verdict_answer h.answer ∙ sym (ap (λ (x : Melded). x.answer) e₁);
      pool = one_image m₂ m₁ (after_in means.arrangement (some r))
          (subst (Image m₂) (same_after means.arrangement r' r ps v) (meld_leaves S m result r' is' means m₂ x₂ d₂)) (meld_leaves S m original r is means m₁ x₁ d₁);
      looks_le = omega (arith, h.looks_le, ap (λ (x : Melded). x.looks) e₁, ap (λ (x : Melded). x.looks) e₂);
    }

-- A CHAIN ON BYTES IS THE RULES' CHAIN

-- a chain of the rules comes to an answer and bytes: 0 and a record's bytes, or a refusal
pub data ComesTo (c : Refreshed) (a : Answer) (result : List ℕ) : Type 0 where
  for_record : (r' : Rec) → c ≡ done r' → a ≡ Names.committed → Valid r' → result ≡ bytes_of r' → ComesTo c a result
  for_refusal : (v : Verdict) → c ≡ Rules.refused v → a ≡ verdict_answer v → ComesTo c a result

module _ (N Z : ℕ) (log : List ℕ) (bytes : Bytes log) (parts : List (List ℕ)) (last : Cut) (w : Walks log 0 parts last) where
  -- the rules' state after q records
  abbrev St : ℕ → State
  St q = state_at N Z (map parse parts) q

  -- the pool after q records means it
  pub pool_means : {q : ℕ} {m : List ℕ} → PoolAt N Z log q m → Means m (St q)
  pool_means {q = q} {m = m} k = subst (λ (n : ℕ). Means m (St n)) k.count (card_follows bytes w k.card).means

  -- and so many records are there
  pub pool_few : {q : ℕ} {m : List ℕ} → PoolAt N Z log q m → q ≤ length (map parse parts)
  pool_few k = omega (arith, (card_follows bytes w k.card).few, k.count, length-map parts parse)

  pub chain_comes_to : {original result : List ℕ} {q : ℕ} {qs : List ℕ} {a : Answer} (r : Rec) → Bytes original → parse original ≡ some r
      → Chain N Z log original q qs a result → ComesTo (chain (map St (q ∷ qs)) r) a result
  unfolding chain
  chain_comes_to {original = original} {result = result} {q = q} {a = a} r b is (last_stop {m = m} k h) = go (once (St q) m original b r is a result (pool_means k) h)
    where
      go : Once (St q) r a result → ComesTo (chain (map St (q ∷ [])) r) a result
      go (went r' e z v s) = for_record r' (ap (λ (x : Refreshed). and_then x (chain [])) e) z v s
      go (said v e z n) = for_refusal v (ap (λ (x : Refreshed). and_then x (chain [])) e) z
  chain_comes_to {original = original} {result = result} {q = q} {qs = q' ∷ qs} {a = a} r b is (refused {m = m} k h never) = go (once (St q) m original b r is a result (pool_means k) h)
    where
      go : Once (St q) r a result → ComesTo (chain (map St (q ∷ q' ∷ qs)) r) a result
      go (went r' e z v s) = absurd (never z)
      go (said v e z n) = for_refusal v (ap (λ (x : Refreshed). and_then x (chain (map St (q' ∷ qs)))) e) z
  chain_comes_to {original = original} {result = result} {q = q} {qs = q' ∷ qs} {a = a} r b is (further {m = m} {between = between} k h t) =
      go (λ r' y i. chain_comes_to r' y i t) (once (St q) m original b r is Names.committed between (pool_means k) h)
    where
      go : ((r' : Rec) → Bytes between → parse between ≡ some r' → ComesTo (chain (map St (q' ∷ qs)) r') a result)
          → Once (St q) r Names.committed between → ComesTo (chain (map St (q ∷ q' ∷ qs)) r) a result
      go on (went r' e z v s) =
          subst (λ (x : Refreshed). ComesTo x a result) (sym (ap (λ (x : Refreshed). and_then x (chain (map St (q' ∷ qs)))) e))
          (on r' (subst Bytes (sym s) (valid_bytes r' v)) (ap parse s ∙ parse_bytes_of r' v))
      go on (said v e z n) = absurd (n refl)

  -- THE TWO OUTCOMES

  module _ (p : ℕ) (m original : List ℕ) (at_p : PoolAt N Z log p m) (b : Bytes original) (r : Rec) (is : parse original ≡ some r) (a : Answer) (result : List ℕ) where
    -- a conflict said by a refresh is said by melding
    stops : (q : ℕ) (c : Refreshed) → c ≡ Rules.refused conflict → verdict (St p) (some r) ≡ conflict → ComesTo c a result → ChainEnds N Z log m original q a result
    stops q c e v (for_record r' d z u s) = done_not_refused (sym d ∙ e)
    stops q c e v (for_refusal x d z) =
        stopped (z ∙ ap verdict_answer (refused_same (sym d ∙ e)))
        (λ m' y h. ap (λ (o : Melded). o.answer) (meld_answers (St p) m original r is (pool_means at_p) m' y h) ∙ ap verdict_answer v)

    -- one refresh at the last stop gives the same bytes
    one_refresh : (q : ℕ) (r' : Rec) → refresh (St q) (some r) ≡ done r' → result ≡ bytes_of r' → SameRefresh N Z log original q result
    one_refresh q r' e s m' x o k h = go x o (once (St q) m' original b r is x o (pool_means k) h)
      where
        go : (x : Answer) (o : List ℕ) → Once (St q) r x o → (x ≡ Names.committed) × (o ≡ result)
        go x o (went r'' d z v t) = (z, t ∙ ap bytes_of (done_same (sym d ∙ e)) ∙ sym s)
        go x o (said v d z n) = done_not_refused (sym e ∙ d)

    -- a chain that was carried through
    carries : (q : ℕ) (c : Refreshed) (r' : Rec) → c ≡ done r' → refresh (St q) (some r) ≡ done r' → AnswersAlike (St p) r' r → ComesTo c a result → ChainEnds N Z log m original q a result
    carries q c r' e f h (for_refusal v d z) = done_not_refused (sym e ∙ d)
    carries q c r' e f h (for_record r'' d z v s) =
        let same : r'' ≡ r' = done_same (sym d ∙ e) in
        let result_is : result ≡ bytes_of r' = s ∙ ap bytes_of same in
        let reads : parse result ≡ some r' = ap parse result_is ∙ parse_bytes_of r' (subst Valid same v) in
        carried z (one_refresh q r' f result_is) (same_meld (St p) m original result r r' (pool_means at_p) is reads ((refresh_exactly (St q) r r').0 f).same_points h)

    -- the rules' outcome is the bytes'
    pub ends : (q : ℕ) (c : Refreshed) → ChainOutcome (St p) (St q) r c → ComesTo c a result → ChainEnds N Z log m original q a result
    ends q c (Ends.stopped e v) s = stops q c e v s
    ends q c (Ends.carried r' e f h) s = carries q c r' e f h s

-- DEMAND 3, on bytes. m is the pool after p records of a log, with a position left. The original's bytes are a record r, neither ahead nor
-- too old there. It is refreshed, with room enough, at the pools after q and then qs records, in log order from its snapshot to p.
pub demand_three_on_bytes : (N Z : ℕ) (log : List ℕ) → Bytes log → (p : ℕ) (m : List ℕ) → PoolAt N Z log p m → p < last_position
    → (original : List ℕ) → Bytes original → (r : Rec) → parse original ≡ some r → r.snapshot ≤ p → p - r.snapshot ≤ Z
    → (q : ℕ) (qs : List ℕ) → InOrder r.snapshot (q ∷ qs) p
    → (a : Answer) (result : List ℕ) → Chain N Z log original q qs a result → ChainEnds N Z log m original (last_of q qs) a result
demand_three_on_bytes N Z log bytes p m at_p left original b r is low near q qs order a result c =
    let w = walked log 0 in
    ends N Z log bytes w.parts w.last w.walks p m original at_p b r is a result (last_of q qs)
    (chain (map (state_at N Z (map parse w.parts)) (q ∷ qs)) r)
    (demand_three N Z (map parse w.parts) p (pool_few N Z log bytes w.parts w.last w.walks at_p) left r low near q qs order)
    (chain_comes_to N Z log bytes w.parts w.last w.walks r b is c)
