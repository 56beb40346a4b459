-- From two lists to pairs: what is stored pair by pair is what the core read into the two lists, and a list of pairs is fixed by
-- its lows and its highs. A record has at most 64 scans, so room for 64 is as good as room for more.
-- Assumes nothing.
use Rattle.std.proofs.Common.{◌≡◌, ℕ, suc, ◌+◌, ◌<◌, ◌≤◌, min, Bool, true, false, ◌&&◌, List, [], ◌∷◌, ◌++◌, map, length, take, drop, get_or, set, replicate, ap, sym, ◌∙◌, refl, arith}
use Rattle.std.proofs.Math.Option.{Option, none, some}
use Rattle.std.proofs.lemmas.List.{append_assoc, map-set, drop_more, set_at, take_more, take_at, length-append, length-map, length-take-le}
use lib.Dec.{leb}
use Rattle.std.proofs.lemmas.Bool.{leb-true}
use Rattle.std.proofs.lemmas.Bool.Decides.{leb_tells}
use Rattle.record.specs.declared.point.Scan.{Scan}
use Rattle.record.specs.declared.reader.Reading.{Reading}
use Rattle.record.specs.Record.{Rec}
use Rattle.record.specs.Parse.{parse}
use Rattle.std.specs.Prelude.{Result, Ok, Err}
use Rattle.record.specs.declared.answer.Answer.{Answer}
use Rattle.record.specs.Answer.{malformed, output_short}
use Rattle.record.specs.Reader.{ReadOutcome, ReadsAs, lists, low_of, high_of, front, roomy, reading_of, filled, read_outcome, read_of}
use Rattle.record.proofs.Cases.{by_case, and_split}
use Rattle.record.proofs.Results.{ok_is_no_err, ok_same}
use Rattle.record.proofs.Rooms.{parsed_few}
use Rattle.pairs.specs.PairReader.{PairsRead}

-- a pair is fixed by its low and its high, and so is a list of pairs
pub lows_highs_fix : (cs ds : List Scan) → map low_of cs ≡ map low_of ds → map high_of cs ≡ map high_of ds → cs ≡ ds
lows_highs_fix [] [] l h = refl
lows_highs_fix [] (d ∷ ds) l h = let z : ◌≡◌ {A = ℕ} 0 (suc (length (map low_of ds))) = ap length l in absurd (omega (arith, z))
lows_highs_fix (c ∷ cs) [] l h = let z : ◌≡◌ {A = ℕ} (suc (length (map low_of cs))) 0 = ap length l in absurd (omega (arith, z))
lows_highs_fix (c ∷ cs) (d ∷ ds) l h =
    let low : c.low ≡ d.low = ap (λ (v : List ℕ). get_or v 0 0) l in
    let high : c.high ≡ d.high = ap (λ (v : List ℕ). get_or v 0 0) h in
    let same : c ≡ d = λ j. record { low = low j; high = high j } in
    let rest : cs ≡ ds = lows_highs_fix cs ds (ap (drop 1) l) (ap (drop 1) h) in
    λ j. same j ∷ rest j

module _ (f : Scan → ℕ) where
  -- one end of the pairs, when the first i are stored: the front of the list that this end was read into, and behind it what was there
  abbrev pub Stored : ℕ → List ℕ → List Scan → List Scan → Type 0
  Stored i ls cs cs' = map f cs' ≡ take i ls ++ drop i (map f cs)

  -- one more pair stored
  pub stored_more : (i : ℕ) (ls : List ℕ) (cs cs' : List Scan) (s : Scan) → Stored i ls cs cs' → i < length ls → i < length cs → f s ≡ get_or ls i 0
      → Stored (i + 1) ls cs (set cs' i s)
  stored_more i ls cs cs' s is a b v =
      map-set f cs' i s
      ∙ (λ j. set ((is ∙ ap (λ (xs : List ℕ). take i ls ++ xs) (drop_more (map f cs) i 0 (omega (arith, length-map cs f, b)))) j) i (v j))
      ∙ set_at (take i ls) (get_or (map f cs) i 0) (drop (i + 1) (map f cs)) (get_or ls i 0) i (length-take-le i ls (omega arith))
      ∙ sym (append_assoc (take i ls) (get_or ls i 0 ∷ []) (drop (i + 1) (map f cs)))
      ∙ ap (λ (xs : List ℕ). xs ++ drop (i + 1) (map f cs)) (sym (take_more ls i 0 a))

  -- one end of a record's scans, read into a front and stored
  stored_front : (rs cs : List Scan) (zs rest ls : List ℕ) → ls ≡ front (map f rs) zs
      → take (length rs) (ls ++ rest) ++ drop (length rs) (map f cs) ≡ front (map f rs) (map f cs)
  stored_front rs cs zs rest ls is =
      let n : length (map f rs) ≡ length rs = length-map rs f in
      (λ j. take (length rs) (is j ++ rest) ++ drop (sym n j) (map f cs))
      ∙ ap (λ (v : List ℕ). v ++ drop (length (map f rs)) (map f cs))
      (ap (take (length rs)) (append_assoc (map f rs) (drop (length (map f rs)) zs) rest) ∙ take_at (map f rs) (drop (length (map f rs)) zs ++ rest) (length rs) n)

  -- the list has room for them
  front_long : (rs : List Scan) (zs rest ls : List ℕ) → ls ≡ front (map f rs) zs → length rs ≤ length (ls ++ rest)
  front_long rs zs rest ls is =
      omega (arith, length-append ls rest, ap length is, length-append (map f rs) (drop (length (map f rs)) zs), length-map rs f)

-- what the two lists begin as
abbrev zeros : List ℕ
zeros = replicate 64 0

-- for at most 64 there is room in at most 64 exactly if there is room
same_room : (n k : ℕ) → n ≤ 64 → leb n (min k 64) ≡ leb n k
same_room n k few = grind (arith, leb_tells n k, leb_tells n (min k 64), few)

-- the last of five that are all true
last_of : (a b c d e : Bool) → (a && (b && (c && (d && e)))) ≡ true → e ≡ true
last_of a b c d e h = and_split a (b && (c && (d && e))) h (λ _ i. and_split b (c && (d && e)) i (λ _ j. and_split c (d && e) j (λ _ k. and_split d e k (λ _ l. l))))

module _ (bytes ks es xs : List ℕ) (cs : List Scan) (m : ℕ) (q : Result Reading Answer) (ks' es' xs' ls hs : List ℕ) (is : m ≡ min (length cs) 64)
    (said : ReadsAs bytes (lists ks es xs (take m zeros) (take m zeros)) q (lists ks' es' xs' ls hs)) where
  -- as many scans as were found have room among the pairs, and where these are stored, that is what is promised
  pub record Meant (r : Reading) : Type 0 where
    pub few : r.scans ≤ m
    pub lows : r.scans ≤ length (ls ++ drop m zeros)
    pub highs : r.scans ≤ length (hs ++ drop m zeros)
    pub read : (n : ℕ) (cs' : List Scan) → n ≡ r.scans → Stored low_of n (ls ++ drop m zeros) cs cs' → Stored high_of n (hs ++ drop m zeros) cs cs'
        → PairsRead bytes ks es xs cs (Ok r) ks' es' xs' cs'

  -- a refusal of the core is that of the pairs, which are as before; a reading of the core is the pairs' own
  pub record Whole : Type 0 where
    pub kept : (a : Answer) → q ≡ Err a → PairsRead bytes ks es xs cs (Err a) ks' es' xs' cs
    pub meant : (r : Reading) → q ≡ Ok r → Meant r

  -- a refusal
  refused : (a : Answer) → read_of (parse bytes) (lists ks es xs (take m zeros) (take m zeros)) ≡ read_outcome (Err a) (lists ks es xs (take m zeros) (take m zeros))
      → read_of (parse bytes) (lists ks es xs (map low_of cs) (map high_of cs)) ≡ read_outcome (Err a) (lists ks es xs (map low_of cs) (map high_of cs)) → Whole
  refused a was would =
      let e = said ∙ was in
      let same : q ≡ Err a = ap (λ (o : ReadOutcome). o.reading) e in
      record {
        kept = λ b at. (λ j. read_outcome ((sym at ∙ same) j) (lists (e j).left.kinds (e j).left.keys (e j).left.payloads (map low_of cs) (map high_of cs))) ∙ sym would;
        meant = λ r at. ok_is_no_err (sym at ∙ same);
      }

  module _ (rec : Rec) (it : parse bytes ≡ some rec) where
    -- the pairs have room exactly if the zeros have
    same_roomy : roomy rec (lists ks es xs (map low_of cs) (map high_of cs)) ≡ roomy rec (lists ks es xs (take m zeros) (take m zeros))
    same_roomy = λ j. leb (length rec.points) (length ks) && (leb (length rec.points) (length es) && (leb (length rec.points) (length xs) && (side low_of j && side high_of j)))
      where
        side : (g : Scan → ℕ) → leb (length rec.scans) (length (map g cs)) ≡ leb (length rec.scans) (length (take m zeros))
        side g = ap (leb (length rec.scans)) (length-map cs g) ∙ sym (same_room (length rec.scans) (length cs) (parsed_few bytes rec it).1)
            ∙ ap (leb (length rec.scans)) (sym is ∙ sym (length-take-le m zeros (omega (arith, is))))

    -- the scans were found, and there is room for them
    taken : roomy rec (lists ks es xs (take m zeros) (take m zeros)) ≡ true → Whole
    unfolding read_of
    taken room =
        let was : read_of (parse bytes) (lists ks es xs (take m zeros) (take m zeros)) ≡ read_outcome (Ok (reading_of rec)) (filled rec (lists ks es xs (take m zeros) (take m zeros))) = simp (it, room) in
        let would : read_of (parse bytes) (lists ks es xs (map low_of cs) (map high_of cs)) ≡ read_outcome (Ok (reading_of rec)) (filled rec (lists ks es xs (map low_of cs) (map high_of cs)))
        = simp (it, same_roomy ∙ room) in
        let e = said ∙ was in
        let same : q ≡ Ok (reading_of rec) = ap (λ (o : ReadOutcome). o.reading) e in
        let fits = leb-true _ _ (last_of (leb (length rec.points) (length ks)) (leb (length rec.points) (length es)) (leb (length rec.points) (length xs))
        (leb (length rec.scans) (length (take m zeros))) (leb (length rec.scans) (length (take m zeros))) room) in
        record {
          kept = λ a at. ok_is_no_err (sym same ∙ at);
          meant = λ r at.
              let reading : r ≡ reading_of rec = ok_same (sym at ∙ same) in
              let found : r.scans ≡ length rec.scans = ap (λ (d : Reading). d.scans) reading in
              record {
                few = omega (arith, found, fits, length-take-le m zeros (omega (arith, is)));
                lows = omega (arith, found, front_long low_of rec.scans (take m zeros) (drop m zeros) ls (λ i. (e i).left.lows));
                highs = omega (arith, found, front_long high_of rec.scans (take m zeros) (drop m zeros) hs (λ i. (e i).left.highs));
                read = λ n cs' all low high. (λ j. read_outcome (Ok (reading j)) (lists (e j).left.kinds (e j).left.keys (e j).left.payloads
                    ((low ∙ (λ i. take ((all ∙ found) i) (ls ++ drop m zeros) ++ drop ((all ∙ found) i) (map low_of cs)) ∙ stored_front low_of rec.scans cs (take m zeros) (drop m zeros) ls (λ i. (e i).left.lows)) j)
                    ((high ∙ (λ i. take ((all ∙ found) i) (hs ++ drop m zeros) ++ drop ((all ∙ found) i) (map high_of cs)) ∙ stored_front high_of rec.scans cs (take m zeros) (drop m zeros) hs (λ i. (e i).left.highs)) j))) ∙ sym would;
              };
        }

    -- a list is too short
    short : roomy rec (lists ks es xs (take m zeros) (take m zeros)) ≡ false → Whole
    unfolding read_of
    short room = refused output_short (simp (it, room)) (simp (it, same_roomy ∙ room))

  -- the core's answer has that meaning, by what the bytes are and whether the lists have room
  pub pairs_meant : Whole
  unfolding read_of
  pairs_meant = by_parse (parse bytes) refl
    where
      by_parse : (o : Option Rec) → parse bytes ≡ o → Whole
      by_parse none e = refused malformed (simp e) (simp e)
      by_parse (some rec) e = by_case (roomy rec (lists ks es xs (take m zeros) (take m zeros))) (taken rec e) (short rec e)
