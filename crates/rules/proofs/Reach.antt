-- What it means that something of a footprint lies in a range, and that an entry is hit.
-- Assumes nothing.
use Prim.Native.Nat.{ℕ, ◌+◌, ◌≤◌, ◌<◌}
use native.Mathlib.Omega.{arith}
use mathlib.Core.Path.{ap}
use mathlib.Core.Logic.{inl, inr, ⊎_elim}
use mathlib.Core.List.Memᴰ.{append_cases as in-append}
use mathlib.Core.List.Memᴰ.{append_left as in_left}
use mathlib.Core.List.Memᴰ.{append_right as in_right}
use mathlib.Core.List.{List, map, ◌++◌, Memᴰ as Mem}
use lib.Dec.{T, ltb, leb, ltb→lt, lt→ltb, le→leb, leb→le}
use Rattle.record.specs.Record.{Rec}
use Rattle.record.specs.declared.point.Scan.{Scan}
use Rattle.rules.specs.State.{Entry}
use Rattle.rules.specs.Footprint.{named, reach, lies, meets}
use Rattle.rules.specs.Verdict.{hits}
use Rattle.rules.specs.Demands.{Reaches}
use Rattle.rules.proofs.Tests.{and_of, left_of_lem, right_of_lem, any_of, of_any, mem_map, of_map}

-- a scan with something there, and so the footprint
pub meets_of : {f : List Scan} {from to : ℕ} {c : Scan} → Mem c f → c.low < to → from ≤ c.high → T (meets f from to)
unfolding meets
meets_of {f} {from} {to} {c} m a b = any_of (lies from to) m (and_of (ltb c.low to) (leb from c.high) (lt→ltb c.low to a) (le→leb from c.high b))

-- and the reverse
pub of_meets : (f : List Scan) (from to : ℕ) → T (meets f from to) → (c : Scan) × Mem c f × (c.low < to) × (from ≤ c.high)
unfolding meets
of_meets f from to t =
    let x = of_any (lies from to) f t in
    let c = x.0 in
    (c, x.1, ltb→lt c.low to (left_of_lem (ltb c.low to) (leb from c.high) x.2), leb→le from c.high (right_of_lem (ltb c.low to) (leb from c.high) x.2))

-- a wider range meets what a narrower one meets
pub meets_wider : (f : List Scan) {a b from to : ℕ} → from ≤ a → b ≤ to → T (meets f a b) → T (meets f from to)
meets_wider f {a} {b} {from} {to} h k t =
    let x = of_meets f a b t in meets_of {f = f} {from = from} {to = to} x.1 (omega (arith, x.2)) (omega (arith, x.3))

-- within reach and above s: hit
pub hits_of : (s : ℕ) (f : List Scan) (e : Entry) → s < e.position → T (meets f e.key (e.key + 1)) → T (hits s f e)
unfolding hits
hits_of s f e l t = and_of (ltb s e.position) (meets f e.key (e.key + 1)) (lt→ltb s e.position l) t

-- and the reverse
pub of_hits : (s : ℕ) (f : List Scan) (e : Entry) → T (hits s f e) → (s < e.position) × T (meets f e.key (e.key + 1))
unfolding hits
of_hits s f e t = (ltb→lt s e.position (left_of_lem (ltb s e.position) (meets f e.key (e.key + 1)) t), right_of_lem (ltb s e.position) (meets f e.key (e.key + 1)) t)

-- the footprint meets a key exactly if the record names or scans it
pub meets_reaches : (r : Rec) (k : ℕ) → T (meets (reach r) k (k + 1)) → Reaches r k
unfolding reach
meets_reaches r k t =
    let x = of_meets (map named r.points ++ r.scans) k (k + 1) t in
    ⊎_elim
    (λ (m : Mem x.0 (map named r.points)).
    let y = of_map named r.points m in
    inl (y.0, y.1, omega (arith, x.2, x.3, ap (λ (c : Scan). c.low) y.2, ap (λ (c : Scan). c.high) y.2)))
    (λ (m : Mem x.0 r.scans). inr (x.0, m, omega (arith, x.2), x.3))
    (in-append (map named r.points) x.1)

-- and the reverse
pub reaches_meets : (r : Rec) (k : ℕ) → Reaches r k → T (meets (reach r) k (k + 1))
unfolding reach
reaches_meets r k (inl x) = meets_of (in_left r.scans (mem_map named x.1)) (omega (arith, x.2)) (omega (arith, x.2))
reaches_meets r k (inr x) = meets_of (in_right (map named r.points) x.1) (omega (arith, x.2)) x.3
