-- What stands under a key after a commit: the payload that the record's entry for the key makes of what stood there before.
-- The idea: a drop takes tombstones only, and of points that rise at most one has the key.
-- Assumes nothing.
use Prim.Native.Nat.{ℕ, ◌+◌, ◌^◌, ◌<◌}
use native.Mathlib.Omega.{arith}
use mathlib.Core.Path.{◌≡◌, refl, sym, ap, ◌∙◌}
use mathlib.Core.Logic.{⊎_elim}
use mathlib.Core.Bool.{Bool, true, false, not, ◌||◌}
use mathlib.Core.List.{List, [], ◌∷◌}
use mathlib.Core.Option.{Option, none, some}
use lib.Dec.{T, ltb, eqb, eqb→eq}
use borrow.Author.Tests.{eqb-true}
use Rattle.std.specs.Prelude.{if◌then◌else◌}
use Rattle.record.specs.Record.{PointsRise}
use Rattle.record.specs.declared.point.Point.{Point}
use Rattle.record.specs.declared.point.Point.TheVariants.{Read, Put, Delete}
use Rattle.record.proofs.Cases.{by_case}
use Rattle.joiner.specs.ByKey.{entry_at}
use Rattle.rules.specs.Lists.{keep}
use Rattle.rules.specs.State.{Entry, State, is_live, Rising, end, link, Lawful}
use Rattle.rules.specs.Footprint.{live_at, writes_of}
use Rattle.rules.specs.Lookup.{find}
use Rattle.rules.specs.Verdict.{store_all, young, drops, apply}
use Rattle.rules.specs.Demands.{last_write}
use Rattle.rules.proofs.Tests.{if_ind, is_true, is_false, test, no_eq}
use Rattle.rules.proofs.Sorted.{keep_rising}
use Rattle.rules.proofs.Finding.{find_none, find_store_all}
use Rattle.rules.proofs.Written.{writes_rising}

-- the payload of what is found under a key; none where nothing is found, or a tombstone
abbrev pub payload_in : Option Entry → Option ℕ
payload_in none = none
payload_in (some e) = e.payload

-- the payload under a key, or none
abbrev pub under : ℕ → State → Option ℕ
under k S = payload_in (find k S.kept)

-- R28: what a record's entry for a key makes of the payload under the key
abbrev pub changed : Option Point → Option ℕ → Option ℕ
changed none o = o
changed (some (Read k)) o = o
changed (some (Put k x)) o = some x
changed (some (Delete k)) o = none

-- THE DROP

-- what is dropped has no payload
dead : (o : Option ℕ) (b : Bool) → T (not (is_live o || b)) → o ≡ none
dead none b t = refl
dead (some x) b t = absurd t

-- R27: a drop changes no payload
under_keep : (k z v : ℕ) {hi lo : ℕ} {es : List Entry} → Rising hi lo es → payload_in (find k (keep (young z v) es)) ≡ payload_in (find k es)
unfolding young
under_keep k z v (end h) = refl
under_keep k z v (link {e = e} {es = es} h r) = ⊎_elim
    (λ t. rw (is_true (young z v e) t) (⊎_elim (λ u. rw (is_true (eqb e.key k) u)) (λ u. rw (is_false (eqb e.key k) u) (under_keep k z v r)) (test (eqb e.key k))))
    (λ t. rw (is_false (young z v e) t) (⊎_elim
    (λ u. let q = eqb→eq e.key k u in
    rw (is_true (eqb e.key k) u, find_none k (omega arith) (keep_rising (young z v) r)) (sym (dead e.payload (ltb v (e.position + z)) t)))
    (λ u. rw (is_false (eqb e.key k) u) (under_keep k z v r)) (test (eqb e.key k))))
    (test (young z v e))

-- THE WRITES

-- writes of larger keys leave a key as it was
larger_keys : (k : ℕ) (o : Option Entry) {hi lo : ℕ} {ws : List Entry} → k < lo → Rising hi lo ws → last_write k o ws ≡ o
larger_keys k o l (end h) = refl
larger_keys k o l (link {e = e} h r) = rw (no_eq {a = e.key} {b = k} (λ q. omega arith)) (larger_keys k o (omega arith) r)

-- the points behind a point of the key leave the key as it was
behind : (S : State) (k j : ℕ) (ps : List Point) (o : Option Entry) → eqb j k ≡ true → j < 2 ^ 32 → PointsRise (j + 1) ps → last_write k o (writes_of S ps) ≡ o
behind S k j ps o e l r = larger_keys k o (omega (arith, eqb-true j k e)) (writes_rising S (j + 1) ps (omega arith) r)

-- what is not live has no payload
not_live : (o : Option Entry) → live_at o ≡ false → payload_in o ≡ none
not_live none e = refl
not_live (some e) h = go e.payload h
  where
    go : (o : Option ℕ) → is_live o ≡ false → o ≡ none
    go none h = refl
    go (some x) h = let z : ◌≡◌ {A = ℕ} 0 1 = cc in absurd (omega arith)

-- R22: a delete of a live key writes a tombstone
delete_writes : (S : State) (k j : ℕ) (ps : List Point) (o : Option Entry) → live_at (find j S.kept) ≡ true
    → last_write k o (writes_of S (Delete j ∷ ps)) ≡ last_write k (if eqb j k then some (record { key = j; position = S.p + 1; payload = none }) else o) (writes_of S ps)
unfolding writes_of
delete_writes S k j ps o d = rw d

-- R22: any other delete writes nothing
delete_silent : (S : State) (j : ℕ) (ps : List Point) → live_at (find j S.kept) ≡ false → writes_of S (Delete j ∷ ps) ≡ writes_of S ps
unfolding writes_of
delete_silent S j ps d = rw d

-- R22, R28: the writes of points, on whatever has the payload that the state has under the key
under_writes : (S : State) (k low : ℕ) (ps : List Point) (o : Option Entry) → PointsRise low ps → payload_in o ≡ under k S
    → payload_in (last_write k o (writes_of S ps)) ≡ changed (entry_at k ps) (payload_in o)
unfolding writes_of
under_writes S k low [] o r h = refl
under_writes S k low (Read j ∷ ps) o r h = by_case (eqb j k)
    (λ e. rw e (ap payload_in (behind S k j ps o e r.1 r.3)))
    (λ e. rw e (under_writes S k (j + 1) ps o r.3 h))
under_writes S k low (Put j x ∷ ps) o r h = by_case (eqb j k)
    (λ e. rw e (ap payload_in (behind S k j ps (some (record { key = j; position = S.p + 1; payload = some x })) e r.1 r.3)))
    (λ e. rw e (under_writes S k (j + 1) ps o r.3 h))
under_writes S k low (Delete j ∷ ps) o r h = by_case (live_at (find j S.kept))
    (λ d. ap payload_in (delete_writes S k j ps o d) ∙ by_case (eqb j k)
    (λ e. rw e (ap payload_in (behind S k j ps (some (record { key = j; position = S.p + 1; payload = none })) e r.1 r.3)))
    (λ e. rw e (under_writes S k (j + 1) ps o r.3 h)))
    (λ d. ap (λ (ws : List Entry). payload_in (last_write k o ws)) (delete_silent S j ps d) ∙ by_case (eqb j k)
    (λ e. rw e (ap payload_in (behind S k j ps o e r.1 r.3) ∙ h ∙ ap (λ (i : ℕ). under i S) (sym (eqb-true j k e)) ∙ not_live (find j S.kept) d))
    (λ e. rw e (under_writes S k (j + 1) ps o r.3 h)))

-- R27, R28: what stands under a key once a record has committed
pub under_apply : {S : State} (k : ℕ) (ps : List Point) → Lawful S → PointsRise 0 ps → payload_in (find k (apply S ps)) ≡ changed (entry_at k ps) (under k S)
unfolding apply
under_apply {S} k ps l r = if_ind (λ (es : List Entry). payload_in (find k es) ≡ changed (entry_at k ps) (under k S)) (drops S ps)
    (λ _. on (keep (young S.Z (S.p + 1)) S.kept) (under_keep k S.Z (S.p + 1) l.rising))
    (λ _. on S.kept refl)
  where
    on : (es : List Entry) → payload_in (find k es) ≡ under k S → payload_in (find k (store_all (writes_of S ps) es)) ≡ changed (entry_at k ps) (under k S)
    on es h = ap payload_in (find_store_all k (writes_of S ps) es) ∙ under_writes S k 0 ps (find k es) r h ∙ ap (changed (entry_at k ps)) h
