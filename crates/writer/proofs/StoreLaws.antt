-- What the second pass meets: stores one behind the other are one run of stores, and each turn of a loop leaves the rest of the run.
-- Assumes nothing.
use Prim.Native.Nat.{ℕ, suc, ◌+◌, ◌%◌, ◌^◌, ◌≤◌, ◌<◌}
use mathlib.Core.Path.{◌≡◌, sym, ap, ◌∙◌, subst}
use mathlib.Core.Bool.{cond}
use mathlib.Core.List.{List, [], ◌∷◌, ◌++◌, append-nil}
use native.Mathlib.Omega.{arith}
use native.Mathlib.Numerals.{add-one}
use lib.ListN.{length, get_or, drop, set, length-set, length-append, drop_of_length-le}
use lib.Seq.{sets, drop-cons}
use lib.Dec.{eqb}
use borrow.Author.Tests.{ne_eqb}
use Rattle.words.specs.Word.{big_endian, put_word}
use Rattle.words.specs.Laws.{length_big_endian, length_put, put_sets, sets_append}
use Rattle.writer.specs.Stored.{head_bytes, stored_point, stored_points, stored_scan, stored_scans}

-- A NUMBER STORED IS A RUN OF STORES (`put_sets`)

-- the run behind a number
behind : (k x : ℕ) (vs s : List ℕ) (at : ℕ) → sets s at (big_endian k x ++ vs) ≡ sets (sets s at (big_endian k x)) (at + k) vs
behind k x vs s at = sets_append (big_endian k x) vs s at ∙ ap (λ (n : ℕ). sets (sets s at (big_endian k x)) (at + n) vs) (length_big_endian k x)

-- A COUNT

module _ (v at count : ℕ) (s : List ℕ) where
  -- in one byte
  pub count_one : v ≡ 1 → count < 256 ^ v → set s at count ≡ put_word v s at count
  unfolding big_endian put_word
  count_one e h =
      let below : count < 256 = subst (λ (n : ℕ). count < 256 ^ n) e h in
      let byte : count % 256 ≡ count = omega arith in
      sym (ap (λ (n : ℕ). put_word n s at count) e ∙ ap (set s at) byte)

-- THE HEAD

-- the five stores are the head
pub head_stored : (s o q p c : List ℕ) (n v x a b : ℕ) → o ≡ put_word 2 s 0 n → q ≡ put_word 4 (set o 2 v) 3 x → p ≡ put_word v q 7 a → c ≡ put_word v p (7 + v) b
    → c ≡ sets s 0 (head_bytes v n x a b)
head_stored s o q p c n v x a b first second third last =
    let t : List ℕ = set (sets s 0 (big_endian 2 n)) 2 v in
    let u : List ℕ = sets t 3 (big_endian 4 x) in
    let second' : q ≡ u = second ∙ put_sets 4 (set o 2 v) 3 x ∙ ap (λ (l : List ℕ). sets (set l 2 v) 3 (big_endian 4 x)) (first ∙ put_sets 2 s 0 n) in
    let third' : p ≡ sets u 7 (big_endian v a) = third ∙ put_sets v q 7 a ∙ ap (λ (l : List ℕ). sets l 7 (big_endian v a)) second' in
    last ∙ put_sets v p (7 + v) b ∙ ap (λ (l : List ℕ). sets l (7 + v) (big_endian v b)) third'
    ∙ sym (behind 2 n (v ∷ (big_endian 4 x ++ (big_endian v a ++ big_endian v b))) s 0 ∙ behind 4 x (big_endian v a ++ big_endian v b) t 3
    ∙ behind v a (big_endian v b) u 7)

-- ONE POINT

module _ (kind key payload at : ℕ) (s : List ℕ) where
  -- a read or delete is stored without a payload
  stored_other : (kind ≡ 2 → ⊥) → stored_point kind key payload ≡ kind ∷ big_endian 4 key
  unfolding stored_point
  stored_other h = simp (ne_eqb _ _ h, append-nil)

  -- a put is stored with its payload
  stored_put : kind ≡ 2 → stored_point kind key payload ≡ kind ∷ (big_endian 4 key ++ big_endian 8 payload)
  unfolding stored_point
  stored_put h = simp h

  -- five bytes
  pub other_size : (kind ≡ 2 → ⊥) → at + 5 ≡ at + length (stored_point kind key payload)
  other_size h = rw (stored_other h) (omega (arith, length_big_endian 4 key))

  -- thirteen bytes
  pub put_size : kind ≡ 2 → at + 13 ≡ at + length (stored_point kind key payload)
  put_size h = rw (stored_put h) (omega (arith, length-append (big_endian 4 key) (big_endian 8 payload), length_big_endian 4 key, length_big_endian 8 payload))

  -- five bytes at the least
  stored_least : 5 ≤ length (stored_point kind key payload)
  unfolding stored_point
  stored_least = omega (arith, length-append (big_endian 4 key) (cond (eqb kind 2) (big_endian 8 payload) []), length_big_endian 4 key)

  module _ (room : at + length (stored_point kind key payload) ≤ length s) where
    -- there is room for the kind
    pub point_first : at < length s
    point_first = omega (arith, stored_least)

    -- there is room for the key
    pub point_key : at + 1 + 4 ≤ length (set s at kind)
    point_key = simp length-set (omega (arith, stored_least))

    module _ (o : List ℕ) (is : o ≡ put_word 4 (set s at kind) (at + 1) key) where
      -- there is room for the payload of a put
      pub point_payload : kind ≡ 2 → at + 5 + 8 ≤ length o
      point_payload h = omega (arith, ap length is ∙ length_put 4 (set s at kind) (at + 1) key ∙ length-set s at kind, put_size h)

  module _ (o : List ℕ) (is : o ≡ put_word 4 (set s at kind) (at + 1) key) where
    -- kind and key are one run
    key_stored : o ≡ sets (set s at kind) (suc at) (big_endian 4 key)
    key_stored = is ∙ put_sets 4 (set s at kind) (at + 1) key ∙ ap (λ (n : ℕ). sets (set s at kind) n (big_endian 4 key)) (add-one at)

    -- a read or delete is stored
    pub point_stored_other : (kind ≡ 2 → ⊥) → o ≡ sets s at (stored_point kind key payload)
    point_stored_other h = key_stored ∙ sym (ap (sets s at) (stored_other h))

    module _ (q : List ℕ) (put : q ≡ put_word 8 o (at + 5) payload) where
      -- a put is stored
      pub point_stored_put : kind ≡ 2 → q ≡ sets s at (stored_point kind key payload)
      point_stored_put h =
          let n : at + 5 ≡ suc at + 4 = omega arith in
          put ∙ put_sets 8 o (at + 5) payload ∙ rw (n, key_stored) (sym (behind 4 key (big_endian 8 payload) (set s at kind) (suc at)))
          ∙ sym (ap (sets s at) (stored_put h))

-- A TURN OF THE LOOPS

module _ (ks es xs : List ℕ) (keys_same : length es ≡ length ks) (payloads_same : length xs ≡ length ks) (at i : ℕ) where
  module _ (more : i < length ks) where
    -- one point, and the rest
    points_turn : stored_points (drop i ks) (drop i es) (drop i xs)
        ≡ stored_point (get_or ks i 0) (get_or es i 0) (get_or xs i 0) ++ stored_points (drop (i + 1) ks) (drop (i + 1) es) (drop (i + 1) xs)
    unfolding stored_points
    points_turn =
        let me : i < length es = omega arith in
        let mx : i < length xs = omega arith in
        rw (add-one i, drop-cons ks i 0 more, drop-cons es i 0 me, drop-cons xs i 0 mx)

    -- their lengths
    points_turn_length : length (stored_points (drop i ks) (drop i es) (drop i xs))
        ≡ length (stored_point (get_or ks i 0) (get_or es i 0) (get_or xs i 0)) + length (stored_points (drop (i + 1) ks) (drop (i + 1) es) (drop (i + 1) xs))
    points_turn_length =
        ap length points_turn
        ∙ length-append (stored_point (get_or ks i 0) (get_or es i 0) (get_or xs i 0)) (stored_points (drop (i + 1) ks) (drop (i + 1) es) (drop (i + 1) xs))

    -- there is room for this point
    pub points_room : (n m m₀ : ℕ) → n ≡ at + length (stored_points (drop i ks) (drop i es) (drop i xs)) → n ≤ m₀ → m ≡ m₀
        → at + length (stored_point (get_or ks i 0) (get_or es i 0) (get_or xs i 0)) ≤ m
    points_room n m m₀ e h k = omega (arith, points_turn_length)

    -- the rest ends where the run ends
    pub points_place : (n r : ℕ) → n ≡ at + length (stored_points (drop i ks) (drop i es) (drop i xs))
        → r ≡ at + length (stored_point (get_or ks i 0) (get_or es i 0) (get_or xs i 0))
        → n ≡ r + length (stored_points (drop (i + 1) ks) (drop (i + 1) es) (drop (i + 1) xs))
    points_place n r e h = omega (arith, points_turn_length)

    -- one point stored, the points that are left
    pub points_bytes_lem : (g l l' : List ℕ) (r : ℕ) → g ≡ sets l at (stored_points (drop i ks) (drop i es) (drop i xs))
        → l' ≡ sets l at (stored_point (get_or ks i 0) (get_or es i 0) (get_or xs i 0)) → r ≡ at + length (stored_point (get_or ks i 0) (get_or es i 0) (get_or xs i 0))
        → g ≡ sets l' r (stored_points (drop (i + 1) ks) (drop (i + 1) es) (drop (i + 1) xs))
    points_bytes_lem g l l' r e h k =
        e ∙ ap (sets l at) points_turn
        ∙ sets_append (stored_point (get_or ks i 0) (get_or es i 0) (get_or xs i 0)) (stored_points (drop (i + 1) ks) (drop (i + 1) es) (drop (i + 1) xs)) l at
        ∙ rw (h, k)

  module _ (done : length ks ≤ i) where
    -- nothing is left
    points_over : stored_points (drop i ks) (drop i es) (drop i xs) ≡ []
    unfolding stored_points
    points_over = rw (drop_of_length-le ks done)

    -- the run ends here
    pub points_done_place : (n : ℕ) → n ≡ at + length (stored_points (drop i ks) (drop i es) (drop i xs)) → at ≡ n
    points_done_place n e = omega (arith, ap length points_over)

    -- no store is left
    pub points_done : (g l : List ℕ) → g ≡ sets l at (stored_points (drop i ks) (drop i es) (drop i xs)) → l ≡ g
    points_done g l e = sym (e ∙ ap (sets l at) points_over)

-- a scan has eight bytes
scan_size : (x y : ℕ) → length (stored_scan x y) ≡ 8
scan_size x y = omega (arith, length-append (big_endian 4 x) (big_endian 4 y), length_big_endian 4 x, length_big_endian 4 y)

-- two numbers stored one behind the other
module _ (s o q : List ℕ) (at x y : ℕ) (is : o ≡ put_word 4 s at x) where
  module _ (put : q ≡ put_word 4 o (at + 4) y) where
    -- the two stores are the scan
    pub scan_stored : q ≡ sets s at (stored_scan x y)
    scan_stored = put ∙ put_sets 4 o (at + 4) y ∙ ap (λ (l : List ℕ). sets l (at + 4) (big_endian 4 y)) (is ∙ put_sets 4 s at x) ∙ sym (behind 4 x (big_endian 4 y) s at)

module _ (ls hs : List ℕ) (highs_same : length hs ≡ length ls) (at i : ℕ) where
  module _ (more : i < length ls) where
    -- one scan, and the rest
    scans_turn : stored_scans (drop i ls) (drop i hs) ≡ stored_scan (get_or ls i 0) (get_or hs i 0) ++ stored_scans (drop (i + 1) ls) (drop (i + 1) hs)
    unfolding stored_scans
    scans_turn = let mh : i < length hs = omega arith in rw (add-one i, drop-cons ls i 0 more, drop-cons hs i 0 mh)

    -- their lengths
    scans_turn_length : length (stored_scans (drop i ls) (drop i hs)) ≡ 8 + length (stored_scans (drop (i + 1) ls) (drop (i + 1) hs))
    scans_turn_length =
        ap length scans_turn
        ∙ omega (arith, length-append (stored_scan (get_or ls i 0) (get_or hs i 0)) (stored_scans (drop (i + 1) ls) (drop (i + 1) hs)), scan_size (get_or ls i 0) (get_or hs i 0))

    module _ (n m m₀ : ℕ) (e : n ≡ at + length (stored_scans (drop i ls) (drop i hs))) (h : n ≤ m₀) (k : m ≡ m₀) where
      -- there is room for this scan
      pub scans_room : at + 8 ≤ m
      scans_room = omega (arith, scans_turn_length)

    -- the rest ends where the run ends
    pub scans_place : (n : ℕ) → n ≡ at + length (stored_scans (drop i ls) (drop i hs)) → n ≡ at + 8 + length (stored_scans (drop (i + 1) ls) (drop (i + 1) hs))
    scans_place n e = omega (arith, scans_turn_length)

    -- one scan stored, the scans that are left
    pub scans_bytes_lem : (g l l' : List ℕ) → g ≡ sets l at (stored_scans (drop i ls) (drop i hs)) → l' ≡ sets l at (stored_scan (get_or ls i 0) (get_or hs i 0))
        → g ≡ sets l' (at + 8) (stored_scans (drop (i + 1) ls) (drop (i + 1) hs))
    scans_bytes_lem g l l' e h =
        e ∙ ap (sets l at) scans_turn ∙ sets_append (stored_scan (get_or ls i 0) (get_or hs i 0)) (stored_scans (drop (i + 1) ls) (drop (i + 1) hs)) l at
        ∙ rw (h, scan_size (get_or ls i 0) (get_or hs i 0))

  -- no store is left
  pub scans_done : length ls ≤ i → (g l : List ℕ) → g ≡ sets l at (stored_scans (drop i ls) (drop i hs)) → l ≡ g
  unfolding stored_scans
  scans_done h g l e = sym (e ∙ rw (drop_of_length-le ls h))
