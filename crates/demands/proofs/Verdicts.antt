-- Demand 2 on bytes: which records commit, what a lookup sees, what status tells, and how many looks there are, on the pool of a card after some records of
-- a log. The idea: the pool means the rules' state, and the rules' theorems speak of that.
-- Assumes nothing.
use Prim.Native.Nat.{ℕ, ◌+◌, ◌*◌, ◌≤◌}
use mathlib.Core.Path.{◌≡◌, refl, sym, ap, ◌∙◌, subst}
use mathlib.Core.Logic.{◌↔◌}
use mathlib.Core.Option.{Option, none, some}
use mathlib.Core.List.Memᴰ.{head as here}
use mathlib.Core.List.Memᴰ.{tail as there}
use mathlib.Core.List.{List, map}
use native.Mathlib.Omega.{arith}
use lib.ListN.{length, take, length-map}
use lib.Seq.{length-take-le}
use Rattle.words.specs.Word.{Bytes}
use Rattle.std.specs.Prelude.{Result, Ok}
use Rattle.record.specs.Answer as Names
use Rattle.record.specs.declared.answer.Answer.{Answer}
use Rattle.record.specs.Record.{Rec}
use Rattle.record.specs.Parse.{parse}
use Rattle.record_log.specs.declared.found.Cut.{Cut}
use Rattle.record_log.specs.Walk.{Walks}
use Rattle.rules.specs.State.{State, Lawful, fresh, last_position}
use Rattle.rules.specs.Verdict.{Verdict, committed, conflict, too_old, no_room, malformed, ahead, positions_used_up, verdict_answer, verdict}
use Rattle.rules.specs.Log.{WellFormed, after, commits}
use Rattle.rules.specs.Lookup.{seen, lookup}
use Rattle.rules.specs.Demands.{Passes, last_write}
use Rattle.rules.proofs.Bound.{looks_limit}
use Rattle.rules.proofs.LastWrite.{last_write_lem}
use Rattle.rules.proofs.Passing.{commits_exactly}
use Rattle.rules.proofs.Positions.{after_p, after_N, after_Z}
use Rattle.meld.specs.declared.kept.Lookup.{Lookup}
use Rattle.meld.specs.declared.kept.Status.{Status}
use Rattle.meld.specs.declared.melding.Melded.{Melded}
use Rattle.meld.specs.Lookups.{LooksUp, lookup_of}
use Rattle.meld.specs.Melds.{Melds, melded_of}
use Rattle.meld.specs.Statuses.{StatusIs, status_of}
use Rattle.meld.proofs.Lookups.{lookup_case}
use Rattle.demands.specs.Runs.{Means, PoolAt}
use Rattle.demands.proofs.Following.{AllBytes, no_bytes, more_bytes, parsed_valid, meld_means}
use Rattle.demands.proofs.Reading.{parts_bytes, first_bytes}
use Rattle.demands.proofs.Cards.{map_take}
use Rattle.demands.proofs.Chains.{pool_means, pool_few}

-- what bytes parse to is well formed
pub parsed_well_formed : {parts : List (List ℕ)} → AllBytes parts → WellFormed (map parse parts)
parsed_well_formed no_bytes r m = elim m [ ]
parsed_well_formed (more_bytes {bytes = bytes} b bs) r (here e) = parsed_valid bytes b r (sym e)
parsed_well_formed (more_bytes b bs) r (there m) = parsed_well_formed bs r m

-- only one verdict has the number 0
zero_is_committed : (v : Verdict) → verdict_answer v ≡ Names.committed → v ≡ committed
zero_is_committed committed e = refl
zero_is_committed conflict e = absurd (omega (arith, ap (λ (a : Answer). a.number) e))
zero_is_committed too_old e = absurd (omega (arith, ap (λ (a : Answer). a.number) e))
zero_is_committed no_room e = absurd (omega (arith, ap (λ (a : Answer). a.number) e))
zero_is_committed malformed e = absurd (omega (arith, ap (λ (a : Answer). a.number) e))
zero_is_committed ahead e = absurd (omega (arith, ap (λ (a : Answer). a.number) e))
zero_is_committed positions_used_up e = absurd (omega (arith, ap (λ (a : Answer). a.number) e))

-- the pool after q records of a log whose walk hands out these parts
module _ (N Z : ℕ) (log : List ℕ) (lent : Bytes log) (parts : List (List ℕ)) (last : Cut) (w : Walks log 0 parts last) (q : ℕ) (m : List ℕ) (at-q : PoolAt N Z log q m) where
  -- the records melded so far, as they parse
  abbrev past : List (Option Rec)
  past = map parse (take q parts)

  past_well_formed : WellFormed past
  past_well_formed = parsed_well_formed (first_bytes q (parts_bytes lent w))

  -- the pool means the state after them
  past_means : Means m (after (fresh N Z) past)
  past_means =
      subst (λ (l : List (Option Rec)). Means m (after (fresh N Z) l)) (map_take parse q parts) (pool_means N Z log lent parts last w at-q)

  module _ (bytes : List ℕ) (b : Bytes bytes) (m' : List ℕ) (x : Melded) (h : Melds m bytes m' x) where
    -- a record commits exactly if it passes the checks of R23
    pub commits_exactly_on_bytes : (x.answer ≡ Names.committed) ↔ Passes N Z (map parse (take q parts)) (parse bytes)
    commits_exactly_on_bytes =
        let e = ap (λ (y : Melded). y.answer) (meld_means (after (fresh N Z) past) past_means b h).0 in
        let c = commits_exactly N Z past (parse bytes) in (
          λ z. c.0 (zero_is_committed (verdict (after (fresh N Z) past) (parse bytes)) (sym e ∙ z)),
          λ p. e ∙ ap verdict_answer (c.1 p),
        )

    -- its looks are at most 65 + 64·(points + 2·scans)
    pub looks_limit_on_bytes : (r : Rec) → parse bytes ≡ some r → x.looks ≤ 65 + 64 * (length r.points + 2 * length r.scans)
    looks_limit_on_bytes r is =
        let mean = past_means in
        let lawful = subst Lawful mean.state mean.image.arranged.lawful in
        omega (
          arith,
          ap (λ (y : Melded). y.looks) ((meld_means (after (fresh N Z) past) mean b h).0 ∙ ap (melded_of (after (fresh N Z) past)) is),
          looks_limit {S = after (fresh N Z) past} {r = r} lawful (parsed_valid bytes b r is),
        )

  -- a lookup sees the last committed write of its key
  pub lookup_on_bytes : (k : ℕ) (x : Lookup) → LooksUp m k x → x ≡ lookup_of (seen (last_write k none (commits (fresh N Z) (map parse (take q parts)))))
  lookup_on_bytes k x h =
      let mean = past_means in
      lookup_case m k x h mean.arrangement mean.image ∙ ap (λ (S : State). lookup_of (lookup k S)) mean.state ∙ ap lookup_of (last_write_lem N Z past past_well_formed k)

  -- status tells the rules' state after them
  pub status_on_bytes : (x : Result Status Answer) → StatusIs m x → x ≡ Ok (status_of (after (fresh N Z) (map parse (take q parts))))
  status_on_bytes x h = let mean = past_means in h.fit mean.arrangement mean.image ∙ ap (λ (S : State). Ok (status_of S)) mean.state

  -- so no refusal, the card's own limits, and as the position how many records it has melded, while positions last
  pub status_counts : (r : Result Status Answer) → StatusIs m r → (x : Status) × (r ≡ Ok x) × (x.limit ≡ N) × (x.zone ≡ Z) × (q ≤ last_position → x.position ≡ q)
  status_counts r h =
      let so_many : length past ≡ q = length-map (take q parts) parse ∙ length-take-le q parts (omega (arith, pool_few N Z log lent parts last w at-q, length-map parts parse)) in (
        status_of (after (fresh N Z) past),
        status_on_bytes r h,
        after_N (fresh N Z) past,
        after_Z (fresh N Z) past,
        λ few. omega (arith, after_p (fresh N Z) past (omega (arith, so_many, few)), so_many),
      )
