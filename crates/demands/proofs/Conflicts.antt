-- R25 on bytes: at the pool of a card after some records of a log, which records answer 1.
-- The idea: the pool means the rules' state, row 1 is the conflict of that state (`meld_exactly`), and over a log that is `beaten`.
-- Assumes nothing.
use Prim.Native.Nat.{ℕ, ◌-◌, ◌≤◌, ◌<◌}
use mathlib.Core.Path.{◌≡◌, sym, ap, ◌∙◌, subst}
use mathlib.Core.Logic.{◌↔◌}
use mathlib.Core.List.{List, map}
use lib.ListN.{take}
use lib.Dec.{T}
use Rattle.words.specs.Word.{Bytes}
use Rattle.record.specs.Answer as Names
use Rattle.record.specs.Parse.{parse}
use Rattle.record_log.specs.declared.found.Cut.{Cut}
use Rattle.record_log.specs.Walk.{Walks}
use Rattle.rules.specs.State.{State, fresh, last_position}
use Rattle.rules.specs.Verdict.{conflicts}
use Rattle.rules.specs.Log.{Log, after}
use Rattle.rules.proofs.Passing.{beaten}
use Rattle.rules.proofs.Positions.{after_Z}
use Rattle.pool.specs.Image.{state_of}
use Rattle.pool.proofs.Unique.{one_arrangement}
use Rattle.meld.specs.declared.melding.Melded.{Melded}
use Rattle.meld.specs.Melds.{Melds}
use Rattle.demands.specs.Runs.{Means, PoolAt}
use Rattle.demands.specs.Exactly.{Row1}
use Rattle.demands.specs.Conflicts.{Conflicted}
use Rattle.demands.proofs.Cards.{map_take, card_follows}
use Rattle.demands.proofs.Exactly.{meld_exactly}

-- a pool means one state
pub one_state : {m : List ℕ} {S S' : State} → Means m S → Means m S' → S ≡ S'
one_state {m} s t = sym s.state ∙ ap state_of (one_arrangement m s.arrangement t.arrangement s.image t.image) ∙ t.state

-- the pool of a card after q records means the rules' state after them
pub pool_at_means : {N Z : ℕ} {log : List ℕ} {parts : List (List ℕ)} {last : Cut} {q : ℕ} {m : List ℕ} → Bytes log → Walks log 0 parts last → PoolAt N Z log q m
    → Means m (after (fresh N Z) (map parse (take q parts)))
pool_at_means {N} {Z} {parts = parts} {q = q} {m = m} b w k =
    subst (λ (l : Log). Means m (after (fresh N Z) l)) (map_take parse q parts)
    (subst (λ (n : ℕ). Means m (after (fresh N Z) (take n (map parse parts)))) k.count (card_follows b w k.card).means)

-- row 1 at a pool that means the state after a log
pub row_beaten : (N Z : ℕ) (log : Log) (m bytes : List ℕ) → Means m (after (fresh N Z) log) → Row1 m bytes ↔ Conflicted N Z log (parse bytes)
row_beaten N Z log m bytes means = (to, from)
  where
    S : State
    S = after (fresh N Z) log

    limit : S.Z ≡ Z
    limit = after_Z (fresh N Z) log

    to : Row1 m bytes → Conflicted N Z log (parse bytes)
    to w =
        let e : w.S ≡ S = one_state w.above.above.above.means means in
        let left : S.p < last_position = subst (λ (X : State). X.p < last_position) e w.above.above.above.left in
        let low : w.r.snapshot ≤ S.p = subst (λ (X : State). w.r.snapshot ≤ X.p) e w.above.not_ahead in
        let near : S.p - w.r.snapshot ≤ Z =
        subst (λ (z : ℕ). S.p - w.r.snapshot ≤ z) limit (subst (λ (X : State). X.p - w.r.snapshot ≤ X.Z) e w.above.not_too_old) in
        record {
          position_left = left;
          r = w.r;
          well_formed = w.above.above.well_formed;
          not_ahead = low;
          not_too_old = near;
          beaten = (beaten N Z log w.r low near).0 (subst (λ (X : State). T (conflicts X w.r)) e w.conflict);
        }

    from : Conflicted N Z log (parse bytes) → Row1 m bytes
    from c = record {
      S = S;
      r = c.r;
      above = record {
        above = record { above = record { means = means; left = c.position_left }; well_formed = c.well_formed };
        not_ahead = c.not_ahead;
        not_too_old = subst (λ (z : ℕ). S.p - c.r.snapshot ≤ z) (sym limit) c.not_too_old;
      };
      conflict = (beaten N Z log c.r c.not_ahead c.not_too_old).1 c.beaten;
    }

-- 1 exactly if a committed record of the log wrote a key that the record names or scans at s + 1 to p, and no earlier row applies
pub conflicts_exactly_on_bytes : (N Z : ℕ) (log : List ℕ) → Bytes log → (parts : List (List ℕ)) (last : Cut) → Walks log 0 parts last
    → (q : ℕ) (m : List ℕ) → PoolAt N Z log q m → (bytes : List ℕ) → Bytes bytes → (m' : List ℕ) (x : Melded) → Melds m bytes m' x
    → (x.answer ≡ Names.conflict) ↔ Conflicted N Z (map parse (take q parts)) (parse bytes)
conflicts_exactly_on_bytes N Z log lent parts last w q m k bytes b m' x h =
    let means = pool_at_means lent w k in
    let row = (meld_exactly m bytes m' x means.image.bytes b h).conflict in
    let log = row_beaten N Z (map parse (take q parts)) m bytes means in
    (λ e. log.0 (row.0 e), λ c. row.1 (log.1 c))
