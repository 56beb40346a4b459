-- What `status` counts are all tombstones; and one law for each of its returns.
-- Assumes nothing.
use Prim.Native.Nat.{ℕ, ◌≤◌, ◌<◌}
use mathlib.Core.Path.{◌≡◌, refl, ap, ◌∙◌}
use mathlib.Core.Logic.{⊎_elim}
use mathlib.Core.Bool.{Bool, true, false, ◌&&◌}
use mathlib.Core.List.Memᴰ.{head as here}
use mathlib.Core.List.Memᴰ.{tail as there}
use mathlib.Core.List.{List, [], ◌∷◌, Memᴰ as Mem}
use native.Mathlib.Omega.{arith}
use lib.ListN.{length}
use borrow.Author.Tests.{le-leb}
use Rattle.nodes.specs.declared.header.Header.{Header}
use Rattle.nodes.specs.Nodes.{header_at}
use Rattle.rules.specs.Lists.{keep}
use Rattle.rules.specs.State.{Entry}
use Rattle.rules.proofs.Tests.{le_or_lt}
use Rattle.pool.specs.Image.{Arrangement, Image, Fit, state_of, header_of}
use Rattle.drop.specs.Old.{old}
use Rattle.drop.specs.Spot.{UpTo}
use Rattle.drop.proofs.Olds.{old_few}
use Rattle.std.specs.Prelude.{Result, Ok}
use Rattle.record.specs.declared.answer.Answer.{Answer}
use Rattle.meld.specs.declared.kept.Status.{Status}
use Rattle.meld.specs.Statuses.{is_tombstone, status_of, StatusIs}

-- ALL OF THEM ARE COUNTED

and_true : (b : Bool) → (b && true) ≡ b
and_true true = refl
and_true false = refl

-- a tombstone at p or before is old for p
old_tombstone : (p : ℕ) (e : Entry) → e.position ≤ p → old p e ≡ is_tombstone e
unfolding old
old_tombstone p e h = rw (le-leb e.position p h) (and_true (is_tombstone e))

-- so, where every key was written at p or before, the old ones are all tombstones
all_old : (p : ℕ) (es : List Entry) → ((e : Entry) → Mem e es → e.position ≤ p) → keep (old p) es ≡ keep is_tombstone es
all_old p [] h = refl
all_old p (e ∷ es) h = rw (old_tombstone p e (h e (here refl)), all_old p es (λ d i. h d (there i)))

-- counted up to as many as there may be, they are all counted
counted_all : (most k r : ℕ) → k ≤ most → UpTo most k r → r ≡ k
counted_all most k r h u = ⊎_elim (λ (x : most ≤ r). omega (arith, u.at_most, u.counted)) (λ (x : r < most). u.all x) (le_or_lt most r)

-- THE RETURNS

pub fit_status : (m : List ℕ) → Fit m → (h : Header) → h ≡ header_at m → (n : ℕ)
    → ((A : Arrangement) → Image m A → UpTo h.limit (length (keep (old h.position) (state_of A).kept)) n)
    → StatusIs m (Ok (record { limit = h.limit; zone = h.zone; position = h.position; kept = h.kept; tombstones = n }))
fit_status m f h eh n u = record { fit = at; unfit = λ no. absurd (no f) }
  where
    at : (A : Arrangement) → Image m A
        → ◌≡◌ {A = Result Status Answer} (Ok (record { limit = h.limit; zone = h.zone; position = h.position; kept = h.kept; tombstones = n })) (Ok (status_of (state_of A)))
    at A i =
        let e : h ≡ header_of A = eh ∙ i.header in
        let l : h.limit ≡ A.N = ap (λ (x : Header). x.limit) e in
        let p : h.position ≡ A.p = ap (λ (x : Header). x.position) e in
        let es = (state_of A).kept in
        let a : keep (old h.position) es ≡ keep is_tombstone es = all_old h.position es (λ d x. omega (arith, p, i.arranged.lawful.positions d x)) in
        let c : length (keep (old h.position) es) ≤ h.limit = omega (arith, old_few h.position es, i.arranged.lawful.few, l) in
        let t : n ≡ length (keep is_tombstone es) = counted_all h.limit (length (keep (old h.position) es)) n c (u A i) ∙ ap length a in
        λ j. Ok (record { limit = (e j).limit; zone = (e j).zone; position = (e j).position; kept = (e j).kept; tombstones = t j })
