-- A card of before (R54, R55): one that goes by the record rule and the log rule as they were until there was version 2, and by the rule on deletes as it
-- was until a delete of nothing was nothing; and what a card of today has in common with it.
-- Assumes nothing: these are definitions.
use Rattle.std.specs.Prelude.{ℕ, ◌≡◌, true}
use mathlib.Core.List.{List, [], ◌∷◌, Memᴰ as Mem}
use Rattle.std.proofs.Math.Option.{Option, some}
use Rattle.std.specs.Prelude.{if◌then◌else◌}
use Rattle.record.specs.Answer.{committed}
use Rattle.record.specs.Record.{Rec}
use Rattle.record.specs.Parse.{version_in, parse}
use Rattle.record.specs.Before.{parse_before}
use Rattle.record.specs.declared.point.Point.{Point}
use Rattle.record.specs.declared.point.Point.TheVariants.{Delete}
use Rattle.record_log.specs.declared.found.Cut.{Cut}
use Rattle.record_log.specs.declared.found.Cut.TheVariants.{End}
use Rattle.record_log.specs.Walk.{Walks}
use Rattle.record_log.specs.Before.{EndedBefore}
use Rattle.rules.specs.State.{State}
use Rattle.rules.specs.Footprint.{live_at}
use Rattle.rules.specs.Lookup.{find}
use Rattle.rules.specs.Verdict.{Verdict, verdict_answer, verdict, points_of}
use Rattle.rules.specs.Before.{writes_before, drops_before, verdict_before}
use Rattle.rules.specs.Log.{is_writer}
use Rattle.rules.specs.Tree.{walk_of, looks_for}
use Rattle.pool.specs.Image.{Arrangement, Image, Fit, state_of}
use Rattle.create.specs.Fresh.{Created}
use Rattle.drop.specs.Drop.{drop_in}
use Rattle.advance.specs.Moved.{moved_on}
use Rattle.commit.specs.Applied.{store_in}
use Rattle.commit.specs.Commit.{old_at}
use Rattle.meld.specs.declared.melding.Melded.{Melded}
use Rattle.meld.specs.After.{left_in}
use Rattle.meld.specs.Melds.{Refuses}
use Rattle.demands.specs.Runs.{Means}

-- A MELD

-- R55: what a meld answered then
abbrev pub melded_before : State → Option Rec → Melded
melded_before S m = record { answer = verdict_answer (verdict_before S m); looks = looks_for (walk_of S m).looks (verdict_before S m) }

-- R55: what a commit left then: every put and delete stored
abbrev pub committed_before : Arrangement → List Point → Arrangement
committed_before A ps =
    store_in (if drops_before (state_of A) ps then drop_in (old_at A) (moved_on A) else moved_on A) (writes_before (state_of A) ps)

-- R55: what a record left then; where it did not commit, what it leaves today
abbrev pub left_before : Arrangement → List Point → Verdict → Arrangement
left_before A ps v = if is_writer v then committed_before A ps else left_in A ps v

-- R55: what meld promised then of a record, for a state
pub record MeldsAsBefore (A : Arrangement) (r : Option Rec) (m' : List ℕ) (a : Melded) : Type 0 where
  pub verdict_is : a ≡ melded_before (state_of A) r
  pub leaves : Image m' (left_before A (points_of r) (verdict_before (state_of A) r))

-- R54, R55: what meld promised then of any bytes, read as records were read then
pub record MeldsBefore (read : List ℕ → Option Rec) (m bytes m' : List ℕ) (a : Melded) : Type 0 where
  pub fit : (A : Arrangement) → Image m A → MeldsAsBefore A (read bytes) m' a
  pub unfit : (Fit m → ⊥) → Refuses m m' a

-- R55: a record that commits today in the state that this pool means deletes only keys that are live there
abbrev pub DeletesLive : (List ℕ → Option Rec) → List ℕ → List ℕ → Type 0
DeletesLive read m bytes =
    (S : State) → Means m S → verdict S (read bytes) ≡ Verdict.committed → (r : Rec) → read bytes ≡ some r → (k : ℕ) → Mem (Delete k) r.points → live_at (find k S.kept) ≡ true

-- A LOG

-- R54, R55: records melded one after the other then, from a pool on, none of which would commit today and delete nothing: what each call answered, and
-- the pool afterwards
pub data MeldingBefore (read : List ℕ → Option Rec) : List ℕ → List (List ℕ) → List Melded → List ℕ → Type 0 where
  none_left : {m : List ℕ} → MeldingBefore read m [] [] m
  one_more : {m bytes m' m'' : List ℕ} {parts : List (List ℕ)} {a : Melded} {xs : List Melded}
      → MeldsBefore read m bytes m' a → DeletesLive read m bytes → MeldingBefore read m' parts xs m'' → MeldingBefore read m (bytes ∷ parts) (a ∷ xs) m''

-- R54, R55: a card of before over a whole log, which ended as is said: bytes lent, made a pool by creation; for each of the parts that were handed out stands
-- the answer and the looks that it got, and m is the pool afterwards
pub record StoredBy (read : List ℕ → Option Rec) (Ended : Type 0) (N Z : ℕ) (parts : List (List ℕ)) (xs : List Melded) (m : List ℕ) : Type 0 where
  pub lent : List ℕ
  pub new : List ℕ
  pub created : Created lent N Z committed new
  pub ended : Ended
  pub melded : MeldingBefore read new parts xs m

-- R54: before version 2 the log led to "end" by the rule of then
abbrev pub StoredLog : ℕ → ℕ → List ℕ → List (List ℕ) → List Melded → List ℕ → Type 0
StoredLog N Z log parts xs m = StoredBy parse_before (EndedBefore log 0 parts) N Z parts xs m

-- R55: since version 2 it did by the rule of today
abbrev pub StoredLarge : ℕ → ℕ → List ℕ → List (List ℕ) → List Melded → List ℕ → Type 0
StoredLarge N Z log parts xs m = StoredBy parse (Walks log 0 parts End) N Z parts xs m

-- R54: none of these parts has 2 as its version byte
abbrev pub NoVersion2 : List (List ℕ) → Type 0
NoVersion2 [] = Unit
NoVersion2 (part ∷ parts) = (version_in part ≡ 2 → ⊥) × NoVersion2 parts

-- R54, R55: over the same log a card of today (ys, last and m') has what the card of before had (parts, xs and m): the log leads to "end" and hands out the
-- same parts, each got the same answer and looks, and the pools are the same bytes
pub record Kept (log : List ℕ) (parts : List (List ℕ)) (xs ys : List Melded) (last : Cut) (m m' : List ℕ) : Type 0 where
  pub walks : Walks log 0 parts End
  pub ends : last ≡ End
  pub verdicts : ys ≡ xs
  pub pool : m' ≡ m
