-- A record at two places of a log: a conflict stays one, and without one a later snapshot hits the same entries.
-- Assumes nothing.
use Prim.Native.Nat.{ℕ, ◌+◌, ◌≤◌, ◌<◌}
use native.Mathlib.Omega.{arith}
use mathlib.Core.Path.{◌≡◌}
use mathlib.Core.Logic.{⊎_elim}
use mathlib.Core.Bool.{not}
use mathlib.Core.List.Memᴰ.{append_cases as in-append}
use mathlib.Core.List.Memᴰ.{append_left as in_left}
use mathlib.Core.List.{List, Memᴰ as Mem}
use lib.Dec.{T, T_not}
use Rattle.record.specs.declared.point.Scan.{Scan}
use Rattle.rules.specs.Lists.{any}
use Rattle.rules.specs.State.{Entry, State}
use Rattle.rules.specs.Footprint.{meets}
use Rattle.rules.specs.Verdict.{hits}
use Rattle.rules.specs.Log.{Log, after, commits, written_in}
use Rattle.rules.proofs.Tests.{le_or_lt}
use Rattle.rules.proofs.Reach.{hits_of, of_hits}
use Rattle.rules.proofs.Positions.{after_up, after_Z, commits_above}
use Rattle.rules.proofs.RowOne.{HoldsWrites, holds_after, holds_agree, of_written, written_of}

module _ {S : State} {C : List Entry} (h : HoldsWrites S C) (ms : Log) (s : ℕ) (f : List Scan) (low : s ≤ S.p) (near : (after S ms).p ≤ s + S.Z) where
  -- row 1 at the first place
  here_agree : any (hits s f) S.kept ≡ written_in s S.p f C
  here_agree = holds_agree h s f (omega (arith, after_up S ms))

  -- a conflict stays one
  pub conflict_stays : T (any (hits s f) S.kept) → T (any (hits s f) (after S ms).kept)
  conflict_stays t =
      let c = of_written s S.p f C (rw here_agree at t) in
      rw (holds_agree (holds_after h ms) s f (omega (arith, after_Z S ms)))
      (written_of s (after S ms).p f (in_left (commits S ms) c.1) c.2 (omega (arith, after_up S ms)) c.4)

  -- with no conflict here, a kept entry later on that is above s is above p
  pub hits_rise : T (not (any (hits s f) S.kept)) → (e : Entry) → Mem e (after S ms).kept → T (hits s f e) → T (hits S.p f e)
  hits_rise n e m t = ⊎_elim
      (λ (a : Mem e C). hits_of S.p f e (⊎_elim (λ (l : e.position ≤ S.p). absurd (T_not (any (hits s f) S.kept) n
      (rw here_agree (written_of s S.p f a x.0 l x.1)))) (λ (l : S.p < e.position). l) (le_or_lt e.position S.p)) x.1)
      (λ (b : Mem e (commits S ms)). hits_of S.p f e (commits_above S ms b) x.1)
      (in-append C ((holds_after h ms).written e m))
    where
      x : (s < e.position) × T (meets f e.key (e.key + 1))
      x = of_hits s f e t
