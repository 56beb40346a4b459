-- No second answer meets the promise of `join`, and what the promise says where it answered 0: both records parse and can be joined, and the joined
-- record stands at the front of the output. There it parses, if both came as bytes.
-- Assumes nothing.
use Prim.Native.Nat.{ℕ}
use Rattle.std.specs.Prelude.{Result, Ok, Err}
use mathlib.Core.Path.{◌≡◌, refl, sym, ap, ◌∙◌}
use mathlib.Core.Bool.{true}
use mathlib.Core.Option.{Option, none, some}
use mathlib.Core.List.{List}
use lib.ListN.{length, take, drop}
use lib.Seq.{take-append_seam}
use lib.Dec.{leb}
use Rattle.words.specs.Word.{Bytes}
use Rattle.record.specs.declared.answer.Answer.{Answer}
use Rattle.record.specs.Answer.{output_short}
use Rattle.record.specs.Record.{Rec, bytes_of, Valid}
use Rattle.record.specs.Parse.{parse}
use Rattle.record.specs.Reader.{front}
use Rattle.record.proofs.Cases.{by_case, no_some}
use Rattle.record.proofs.Results.{ok_is_no_err, ok_same}
use Rattle.record.proofs.RoundTrip.{parse_bytes_of, bytes_of_parse}
use Rattle.joiner.specs.Joined.{joined_of, can_join, joined_if}
use Rattle.joiner.specs.Joiner.{JoinGave, JoinOutcome, join_outcome, joined_to, join_of, JoinsAs}
use Rattle.joiner.proofs.WellJoined.{joined_valid}

-- `join`: one answer and size, and one content of the output
pub only_join : (a b before : List ℕ) (j j' : Result ℕ Answer) (after after' : List ℕ) → JoinsAs a b before j after → JoinsAs a b before j' after'
    → (j ≡ j') × (after ≡ after')
only_join a b before j j' after after' p q =
    let same : join_outcome j after ≡ join_outcome j' after' = p ∙ sym q in
    (ap (λ (o : JoinOutcome). o.joined) same, ap (λ (o : JoinOutcome). o.left) same)

-- WHAT 0 SAYS

-- where a size was given, there is a joined record, it is its size, and it stands in front of the output as it was
out_gave : {P : Type 0} (x : Option Rec) (before : List ℕ) (size : ℕ) (after : List ℕ) → join_outcome (Ok size) after ≡ join_of x before
    → ((r : Rec) → x ≡ some r → size ≡ length (bytes_of r) → after ≡ front (bytes_of r) before → P) → P
unfolding join_of
out_gave none before size after e k = ok_is_no_err (ap (λ (o : JoinOutcome). o.joined) e)
out_gave (some r) before size after e k =
    by_case (leb (length (bytes_of r)) (length before))
    (λ h.
    let f : join_outcome (Ok size) after ≡ join_outcome (joined_to (bytes_of r)) (front (bytes_of r) before) = e ∙ simp h in
    k r refl (ok_same (ap (λ (o : JoinOutcome). o.joined) f)) (ap (λ (o : JoinOutcome). o.left) f))
    (λ h.
    let f : join_outcome (Ok size) after ≡ join_outcome (Err output_short) before = e ∙ simp h in
    ok_is_no_err (ap (λ (o : JoinOutcome). o.joined) f))

-- where there is a joined record, there are two records that can be joined, and it is theirs
if_gave : {P : Type 0} (x y : Option Rec) (r : Rec) → joined_if x y ≡ some r
    → ((a b : Rec) → x ≡ some a → y ≡ some b → can_join a b ≡ true → r ≡ joined_of a b → P) → P
unfolding joined_if
if_gave none y r e k = no_some e
if_gave (some a) none r e k = no_some e
if_gave (some a) (some b) r e k =
    by_case (can_join a b)
    (λ c. let z : some (joined_of a b) ≡ some r = simp c at e in k a b refl refl c (let q : joined_of a b ≡ r = cc in sym q))
    (λ c. no_some (simp c at e))

-- R56: where a size was given, it is so
pub join_gave : (a b before : List ℕ) (size : ℕ) (after : List ℕ) → JoinsAs a b before (Ok size) after → JoinGave a b size after
join_gave a b before size after p =
    out_gave (joined_if (parse a) (parse b)) before size after p λ r is size_is after_is.
    if_gave (parse a) (parse b) r is λ x y x-is y-is c r-is.
    let bytes : take size after ≡ bytes_of r =
    ap (λ (i : ℕ). take i after) size_is ∙ ap (take (length (bytes_of r))) after_is ∙ take-append_seam (bytes_of r) (drop (length (bytes_of r)) before) in
    record {
      first = x;
      second = y;
      first_is = x-is;
      second_is = y-is;
      can = c;
      size_is = size_is ∙ ap (λ (q : Rec). length (bytes_of q)) r-is;
      stands = bytes ∙ ap bytes_of r-is;
    }

-- R57: the joined record is valid where the two came as bytes
pub gave_valid : (a b : List ℕ) (size : ℕ) (after : List ℕ) → Bytes a → Bytes b → (g : JoinGave a b size after) → Valid (joined_of g.first g.second)
gave_valid a b size after y z g =
    joined_valid g.first g.second (bytes_of_parse a g.first y g.first_is).0 (bytes_of_parse b g.second z g.second_is).0 g.can

-- R57: so what stands at the front of the output parses to the joined record
pub gave_parses : (a b : List ℕ) (size : ℕ) (after : List ℕ) → Bytes a → Bytes b → (g : JoinGave a b size after)
    → parse (take size after) ≡ some (joined_of g.first g.second)
gave_parses a b size after y z g = ap parse g.stands ∙ parse_bytes_of (joined_of g.first g.second) (gave_valid a b size after y z g)

-- R57: and so it does to the joined record of whatever the two parse to
pub joined_parses : (a b before : List ℕ) (size : ℕ) (after : List ℕ) → Bytes a → Bytes b → JoinsAs a b before (Ok size) after
    → (x y : Rec) → parse a ≡ some x → parse b ≡ some y → parse (take size after) ≡ some (joined_of x y)
joined_parses a b before size after s t p x y x-is y-is =
    let g : JoinGave a b size after = join_gave a b before size after p in
    let m : some g.first ≡ some x = sym g.first_is ∙ x-is in
    let n : some g.second ≡ some y = sym g.second_is ∙ y-is in
    let m' : g.first ≡ x = cc in
    let n' : g.second ≡ y = cc in
    gave_parses a b size after s t g ∙ ap (λ (r : Rec). some (joined_of r g.second)) m' ∙ ap (λ (r : Rec). some (joined_of x r)) n'
