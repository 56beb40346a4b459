-- What the lists of a record store once its deletes are settled is what the record writes.
-- Assumes nothing.
use Prim.Native.Nat.{ℕ, ◌+◌}
use mathlib.Core.Path.{◌≡◌, refl, ap}
use mathlib.Core.List.{List, [], ◌∷◌, map}
use mathlib.Core.Option.{Option, none, some}
use Rattle.record.specs.declared.point.Point.{Point}
use Rattle.record.specs.declared.point.Point.TheVariants.{Read, Put, Delete}
use Rattle.record.specs.Record.{kind_of, key_of, payload_of}
use Rattle.std.specs.Prelude.{if◌then◌else◌}
use Rattle.rules.specs.Lists.{keep}
use Rattle.rules.specs.State.{Entry, State, is_live}
use Rattle.rules.specs.Footprint.{stored_at, live_at, writes, writes_of}
use Rattle.rules.specs.Lookup.{find}
use Rattle.find.specs.Found.{found_at, found_of, found_in}
use Rattle.room.specs.Tally.{delete_as, settled_in}
use Rattle.commit.specs.Applied.{point_from, points_in, writes_in}

-- R22: a delete is settled as a delete exactly where its key is live
pub settled_writes : (S : State) (ps : List Point)
    → writes_in (S.p + 1) (settled_in (map kind_of ps) (map key_of ps) S.kept) (map key_of ps) (map payload_of ps) ≡ writes_of S ps
unfolding settled_in points_in writes_of found_in
settled_writes S [] = refl
settled_writes S (Read k ∷ ps) = settled_writes S ps
settled_writes S (Put k x ∷ ps) = ap (λ (ws : List Entry). record { key = k; position = S.p + 1; payload = some x } ∷ ws) (settled_writes S ps)
settled_writes S (Delete k ∷ ps) = go (find k S.kept) (settled_writes S ps)
  where
    rest : List Point
    rest = points_in (settled_in (map kind_of ps) (map key_of ps) S.kept) (map key_of ps) (map payload_of ps)

    kept : (w : ℕ) (o : Option ℕ) → stored_at (S.p + 1) rest ≡ stored_at (S.p + 1) (keep (writes S) ps)
        → stored_at (S.p + 1) (point_from (delete_as (found_at w o)) k 0 ∷ rest) ≡ stored_at (S.p + 1) (if is_live o then Delete k ∷ keep (writes S) ps else keep (writes S) ps)
    kept w none h = h
    kept w (some x) h = ap (λ (ws : List Entry). record { key = k; position = S.p + 1; payload = none } ∷ ws) h

    go : (o : Option Entry) → stored_at (S.p + 1) rest ≡ stored_at (S.p + 1) (keep (writes S) ps)
        → stored_at (S.p + 1) (point_from (delete_as (found_of o)) k 0 ∷ rest) ≡ stored_at (S.p + 1) (if live_at o then Delete k ∷ keep (writes S) ps else keep (writes S) ps)
    go none h = h
    go (some e) h = kept e.position e.payload h
