-- What the list of pairs is when `read_pairs` has returned: on 0 the record's scans at its front and the rest as before, otherwise as
-- before. The promise says this of the lows and of the highs; a list of pairs is fixed by the two.
-- Assumes nothing.
use mathlib.Core.Path.{◌≡◌, refl, sym, ap, ◌∙◌}
use Prim.Native.Nat.{ℕ, zero, suc}
use Rattle.std.specs.Prelude.{Result, Ok, Err}
use mathlib.Core.Bool.{true}
use mathlib.Core.Option.{Option, none, some}
use mathlib.Core.List.{List, [], ◌∷◌, ◌++◌, map}
use lib.ListN.{length, drop, length-map}
use Rattle.record.specs.declared.answer.Answer.{Answer}
use Rattle.record.specs.declared.point.Scan.{Scan}
use Rattle.record.specs.declared.reader.Reading.{Reading}
use Rattle.record.specs.Answer.{malformed, output_short}
use Rattle.record.specs.Record.{Rec}
use Rattle.record.specs.Parse.{parse}
use Rattle.record.specs.Reader.{ReadOutcome, lists, low_of, high_of, front, roomy, reading_of, read_outcome, read_of, filled}
use Rattle.record.proofs.Cases.{by_case}
use Rattle.record.proofs.Results.{ok_is_no_err}
use Rattle.pairs.specs.PairReader.{PairsRead}
use Rattle.pairs.proofs.PairReadLaws.{lows_highs_fix}

module _ (f : Scan → ℕ) where
  map_append : (ds cs : List Scan) → map f (ds ++ cs) ≡ map f ds ++ map f cs
  map_append [] cs = refl
  map_append (d ∷ ds) cs = ap (λ (v : List ℕ). f d ∷ v) (map_append ds cs)

  map_drop : (n : ℕ) (cs : List Scan) → map f (drop n cs) ≡ drop n (map f cs)
  map_drop zero cs = refl
  map_drop (suc n) [] = refl
  map_drop (suc n) (c ∷ cs) = map_drop n cs

  -- one end of pairs in front of the rest of a list
  map_front : (ds cs : List Scan) → map f (ds ++ drop (length ds) cs) ≡ front (map f ds) (map f cs)
  map_front ds cs =
      map_append ds (drop (length ds) cs) ∙ ap (λ (v : List ℕ). map f ds ++ v) (map_drop (length ds) cs ∙ ap (λ (n : ℕ). drop n (map f cs)) (sym (length-map ds f)))

module _ (bytes ks es xs : List ℕ) (cs : List Scan) (q : Result Reading Answer) (ks' es' xs' : List ℕ) (cs' : List Scan) (said : PairsRead bytes ks es xs cs q ks' es' xs' cs') where
  -- a refusal is the one, and the pairs are as before
  refused : (a : Answer) → read_of (parse bytes) (lists ks es xs (map low_of cs) (map high_of cs)) ≡ read_outcome (Err a) (lists ks es xs (map low_of cs) (map high_of cs)) → (q ≡ Err a) × (cs' ≡ cs)
  refused a is =
      let e = said ∙ is in
      (ap (λ (o : ReadOutcome). o.reading) e, lows_highs_fix cs' cs (ap (λ (o : ReadOutcome). o.left.lows) e) (ap (λ (o : ReadOutcome). o.left.highs) e))

  -- a record that has room is read, and its scans stand at the front
  read_in : (r : Rec) → parse bytes ≡ some r → roomy r (lists ks es xs (map low_of cs) (map high_of cs)) ≡ true → (q ≡ Ok (reading_of r)) × (cs' ≡ r.scans ++ drop (length r.scans) cs)
  unfolding read_of
  read_in r is room =
      let was : read_of (parse bytes) (lists ks es xs (map low_of cs) (map high_of cs))
      ≡ read_outcome (Ok (reading_of r)) (filled r (lists ks es xs (map low_of cs) (map high_of cs))) = simp (is, room) in
      let e = said ∙ was in (
        ap (λ (o : ReadOutcome). o.reading) e,
        lows_highs_fix cs' (r.scans ++ drop (length r.scans) cs) (ap (λ (o : ReadOutcome). o.left.lows) e ∙ sym (map_front low_of r.scans cs))
            (ap (λ (o : ReadOutcome). o.left.highs) e ∙ sym (map_front high_of r.scans cs)),
      )

  -- where a reading is given the bytes are a record, and the pairs are its scans and then what was there
  pub pairs_filled : (r : Rec) → parse bytes ≡ some r → (d : Reading) → q ≡ Ok d → cs' ≡ r.scans ++ drop (length r.scans) cs
  unfolding read_of
  pairs_filled r is d given = by_case (roomy r (lists ks es xs (map low_of cs) (map high_of cs)))
      (λ room. (read_in r is room).1)
      (λ room. ok_is_no_err (sym given ∙ (refused output_short (simp (is, room))).0))

  -- on a refusal the pairs are as before
  pub pairs_kept : (a : Answer) → q ≡ Err a → cs' ≡ cs
  unfolding read_of
  pairs_kept a said_no = by_parse (parse bytes) refl
    where
      by_parse : (o : Option Rec) → parse bytes ≡ o → cs' ≡ cs
      by_parse none is = (refused malformed (simp is)).1
      by_parse (some r) is = by_case (roomy r (lists ks es xs (map low_of cs) (map high_of cs))) (λ room. ok_is_no_err (sym (read_in r is room).0 ∙ said_no)) (λ room. (refused output_short (simp (is, room))).1)
