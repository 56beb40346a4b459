-- The four bytes from the fourth on are the snapshot: storing another number there gives the bytes of the record with that snapshot.
-- Assumes nothing.
use Prim.Native.Nat.{ℕ, ◌+◌, ◌≤◌, ◌<◌}
use mathlib.Core.Path.{◌≡◌, sym, ap, ◌∙◌}
use mathlib.Core.Logic.{◌⊎◌}
use mathlib.Core.List.{List, [], ◌∷◌, ◌++◌, append_assoc, append-nil}
use native.Mathlib.Omega.{arith}
use lib.ListN.{length, get_or, take, drop, length-append}
use lib.Seq.{sets, sets-eq, take_at, drop_at}
use Rattle.words.specs.Word.{big_endian, put_word}
use Rattle.words.specs.Laws.{length_big_endian, put_sets, byte_put}
use Rattle.record.specs.Record.{Rec, version_of, points_bytes, scans_bytes, body_bytes, bytes_of}
use Rattle.record.proofs.Sizes.{body_size, whole_size}
use Rattle.rules.specs.Refresh.{with_snapshot}

-- four bytes stored behind the first three take the place of the four that stood there
stored_behind : (head x y rest : List ℕ) → length head ≡ 3 → length x ≡ 4 → length y ≡ 4 → sets (head ++ (x ++ rest)) 3 y ≡ head ++ (y ++ rest)
stored_behind head x y rest h e f =
    let l : List ℕ = head ++ (x ++ rest) in
    let n : length l ≡ 7 + length rest = omega (arith, length-append head (x ++ rest), length-append x rest) in
    let first : take 3 l ≡ head = take_at head (x ++ rest) 3 h in
    let later : drop (3 + length y) l ≡ rest =
    ap (λ (t : List ℕ). drop (3 + length y) t) (sym (append_assoc head x rest)) ∙ drop_at (head ++ x) rest (3 + length y) (omega (arith, length-append head x)) in
    sets-eq y l 3 (omega arith) ∙ rw (first, later) (append_assoc head y rest)

-- what stands behind the snapshot
abbrev behind : Rec → List ℕ
behind r =
    big_endian (version_of r) (length r.points) ++ (big_endian (version_of r) (length r.scans) ++ (points_bytes r.points ++ scans_bytes r.scans))

-- a length, a version and a snapshot before it
abbrev headed : ℕ → ℕ → List ℕ → List ℕ → List ℕ
headed v n x rest = big_endian 2 n ++ (v ∷ (x ++ rest))

-- the same with what follows, the first three bytes by themselves
apart : (v n : ℕ) (x rest t : List ℕ) → headed v n x rest ++ t ≡ (big_endian 2 n ++ (v ∷ [])) ++ (x ++ (rest ++ t))
apart v n x rest t = simp append_assoc

-- the snapshot does not change the length
pub same_body : (p : ℕ) (r : Rec) → length (body_bytes (with_snapshot p r)) ≡ length (body_bytes r)
same_body p r = omega (arith, body_size (with_snapshot p r), body_size r)

-- nor the size of the whole
pub same_size : (p : ℕ) (r : Rec) → length (bytes_of (with_snapshot p r)) ≡ length (bytes_of r)
same_size p r = omega (arith, whole_size (with_snapshot p r), whole_size r, same_body p r)

-- R38: the record with snapshot p, whatever follows it
pub snapshot_stored : (p : ℕ) (r : Rec) (t : List ℕ) → put_word 4 (bytes_of r ++ t) 3 p ≡ bytes_of (with_snapshot p r) ++ t
snapshot_stored p r t =
    let n : ℕ = length (body_bytes r) in
    let v : ℕ = version_of r in
    let head : List ℕ = big_endian 2 n ++ (v ∷ []) in
    let three : length head ≡ 3 = omega (arith, length-append (big_endian 2 n) (v ∷ []), length_big_endian 2 n) in
    put_sets 4 (bytes_of r ++ t) 3 p ∙ ap (λ (l : List ℕ). sets l 3 (big_endian 4 p)) (apart v n (big_endian 4 r.snapshot) (behind r) t)
    ∙ stored_behind head (big_endian 4 r.snapshot) (big_endian 4 p) (behind r ++ t) three (length_big_endian 4 r.snapshot) (length_big_endian 4 p)
    ∙ sym (apart v n (big_endian 4 p) (behind r) t)
    ∙ ap (λ (k : ℕ). headed v k (big_endian 4 p) (behind r) ++ t) (sym (same_body p r))

-- the record alone
pub snapshot_put : (p : ℕ) (r : Rec) → bytes_of (with_snapshot p r) ≡ put_word 4 (bytes_of r) 3 p
snapshot_put p r =
    sym (append-nil (bytes_of (with_snapshot p r))) ∙ sym (snapshot_stored p r []) ∙ ap (λ (l : List ℕ). put_word 4 l 3 p) (append-nil (bytes_of r))

-- R38: every other byte as before
pub others_as_before : (p : ℕ) (r : Rec) (i : ℕ) → (i < 3) ⊎ (7 ≤ i) → get_or (bytes_of (with_snapshot p r)) i 0 ≡ get_or (bytes_of r) i 0
others_as_before p r i w = ap (λ (l : List ℕ). get_or l i 0) (snapshot_put p r) ∙ byte_put 4 (bytes_of r) 3 p i w
