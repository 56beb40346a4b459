-- Demand 2 on bytes: what a card answers and what its pool is after a log; every card has the same; and so for a log that is cut.
-- Assumes nothing.
use Prim.Native.Nat.{ℕ, zero, suc, ◌≤◌}
use mathlib.Core.Path.{◌≡◌, refl, sym, ap, ◌∙◌, subst}
use mathlib.Core.Bool.{Bool, true, false}
use mathlib.Core.List.{List, [], ◌∷◌, ◌++◌, map}
use native.Mathlib.Omega.{arith}
use lib.ListN.{length, take}
use lib.Seq.{take_all, take-append_seam}
use Rattle.words.specs.Word.{Bytes}
use Rattle.words.specs.Laws.{bytes_take}
use Rattle.record.specs.declared.answer.Answer.{Answer}
use Rattle.record.specs.Answer.{committed}
use Rattle.record.specs.Parse.{parse}
use Rattle.record_log.specs.declared.found.Cut.{Cut}
use Rattle.record_log.specs.declared.found.Cut.TheVariants.{End}
use Rattle.record_log.specs.Walk.{Walks}
use Rattle.record_log.proofs.Walk.{walked, walks_once}
use Rattle.record_log.proofs.CutLog.{cut_log}
use Rattle.rules.specs.State.{State, fresh}
use Rattle.rules.specs.Verdict.{next}
use Rattle.rules.specs.Log.{after}
use Rattle.pool.specs.Image.{Image, state_of}
use Rattle.pool.proofs.Fixed.{one_image}
use Rattle.create.specs.Fresh.{Created, fresh_plan, limits_ok}
use Rattle.create.proofs.Only.{fresh_state}
use Rattle.meld.specs.declared.melding.Melded.{Melded}
use Rattle.meld.specs.Melds.{melded_of}
use Rattle.demands.specs.Runs.{verdicts, Card, Whole}
use Rattle.demands.specs.Follows.{Follows, FollowsWhole, CutRun}
use Rattle.demands.proofs.Following.{arranged, Followed, melding_follows}
use Rattle.demands.proofs.Reading.{parts_bytes, first_bytes, Front, reading_front, whole_read}

-- THE POOL AFTER A LOG

-- creation that answers 0 leaves a fresh pool
pub created_fresh : (m : List ℕ) (n z : ℕ) (m' : List ℕ) → Created m n z committed m' → Image m' (fresh_plan n z)
created_fresh m n z m' c = go (limits_ok n z (length m)) refl
  where
    go : (b : Bool) → limits_ok n z (length m) ≡ b → Image m' (fresh_plan n z)
    go true e = (c.made e).1
    go false e = absurd (omega (arith, ap (λ (a : Answer). a.number) (c.refused e).0))

-- the first of what a function makes of a list
pub map_take : {A B : Type 0} (f : A → B) (n : ℕ) (l : List A) → take n (map f l) ≡ map f (take n l)
map_take f zero l = refl
map_take f (suc n) [] = refl
map_take f (suc n) (x ∷ l) = ap (λ (r : List _). f x ∷ r) (map_take f n l)

module _ {N Z : ℕ} {log : List ℕ} {xs : List Melded} {place : ℕ} {m : List ℕ} {parts : List (List ℕ)} {last : Cut}
    (bytes : Bytes log) (w : Walks log 0 parts last) (c : Card N Z log xs place m) where
  -- what the card has read is the front of the walk
  pub card_front : Front log place c.new xs m parts last
  card_front = reading_front c.read w

  -- and was melded as the rules say
  pub card_followed : Followed (fresh_plan N Z) (take (length xs) parts) xs m
  card_followed =
      melding_follows (fresh_plan N Z) (created_fresh c.lent N Z c.new c.created) (first_bytes (length xs) (parts_bytes bytes w)) card_front.melding

  -- for each record melded the rules' answer and looks; and the pool is the image of the rules' state
  pub card_follows : Follows N Z parts xs m
  card_follows = let f = card_followed in record {
    few = card_front.few;
    answers = f.answers ∙ ap (λ (S : State). verdicts S (take (length xs) parts)) (fresh_state N Z);
    means = record {
      arrangement = arranged (fresh_plan N Z) (take (length xs) parts);
      image = f.image;
      state = f.state ∙ ap (λ (S : State). after S (map parse (take (length xs) parts))) (fresh_state N Z)
          ∙ ap (after (fresh N Z)) (sym (map_take parse (length xs) parts));
    };
  }

-- THE POOL AFTER A WHOLE LOG

-- all parts of the walk were melded, and the card stopped where the walk ends
pub whole_front : {N Z : ℕ} {log : List ℕ} {xs : List Melded} {last end : Cut} {m : List ℕ} {parts : List (List ℕ)}
    → (k : Whole N Z log xs last m) → Walks log 0 parts end → (length xs ≡ length parts) × (last ≡ end)
whole_front k w = whole_read (reading_front k.card.read w) k.found k.over

-- from `create`, melding the records that the log's cutting hands out, one by one, gives for each the rules' answer and looks, and at the
-- end the image of the rules' state
pub pool_after_log : (N Z : ℕ) (log : List ℕ) (xs : List Melded) (last : Cut) (m : List ℕ) → Bytes log → Whole N Z log xs last m → FollowsWhole N Z log xs last m
pool_after_log N Z log xs last m b k =
    let w = walked log 0 in
    let (n, e) = whole_front k w.walks in
    let f = card_follows b w.walks k.card in
    let all : take (length xs) w.parts ≡ w.parts = take_all (length xs) w.parts (omega arith) in
    let every : take (length xs) (map parse w.parts) ≡ map parse w.parts = map_take parse (length xs) w.parts ∙ ap (map parse) all in
    record {
      parts = w.parts;
      walks = subst (Walks log 0 w.parts) (sym e) w.walks;
      answers = f.answers ∙ ap (verdicts (fresh N Z)) all;
      means = record { arrangement = f.means.arrangement; image = f.means.image; state = f.means.state ∙ ap (after (fresh N Z)) every };
    }

-- ON EVERY CARD

-- the same limits and the same number of records of the same log: the same answers and looks, and the same bytes in the whole pool
pub same_on_every_card : (N Z : ℕ) (log : List ℕ) (xs ys : List Melded) (place place' : ℕ) (m m' : List ℕ) → Bytes log
    → Card N Z log xs place m → Card N Z log ys place' m' → length xs ≡ length ys → (xs ≡ ys) × (m ≡ m')
same_on_every_card N Z log xs ys place place' m m' b c d n =
    let w = walked log 0 in
    let f = card_followed b w.walks c in
    let g = card_followed b w.walks d in (
      f.answers ∙ ap (λ (k : ℕ). verdicts (state_of (fresh_plan N Z)) (take k w.parts)) n ∙ sym g.answers,
      one_image m m' (arranged (fresh_plan N Z) (take (length ys) w.parts))
          (subst (λ (k : ℕ). Image m (arranged (fresh_plan N Z) (take k w.parts))) n f.image) g.image,
    )

-- and so over the whole log: "The same limits and the same log give the same bytes in the whole pool on every card"
pub same_log_same_bytes : (N Z : ℕ) (log : List ℕ) (xs ys : List Melded) (last last' : Cut) (m m' : List ℕ) → Bytes log
    → Whole N Z log xs last m → Whole N Z log ys last' m' → (xs ≡ ys) × (last ≡ last') × (m ≡ m')
same_log_same_bytes N Z log xs ys last last' m m' b k l =
    let w = walked log 0 in
    let (i, e) = whole_front k w.walks in
    let (j, d) = whole_front l w.walks in
    let (x, y) = same_on_every_card N Z log xs ys k.place l.place m m' b k.card l.card (i ∙ sym j) in
    (x, e ∙ sym d, y)

-- A CUT LOG

-- the rules' answers to the first of some records are the first of the answers
pub first_verdicts : (n : ℕ) (S : State) (parts : List (List ℕ)) → verdicts S (take n parts) ≡ take n (verdicts S parts)
first_verdicts zero S parts = refl
first_verdicts (suc n) S [] = refl
first_verdicts (suc n) S (bytes ∷ parts) = ap (λ (l : List Melded). melded_of S (parse bytes) ∷ l) (first_verdicts n (next S (parse bytes)) parts)

-- verdicts before the cut are those of the uncut log
pub cut_run : (N Z : ℕ) (log : List ℕ) (n : ℕ) (xs ys : List Melded) (last : Cut) (m m' : List ℕ) → Bytes log → n ≤ length log
    → Whole N Z log xs End m → Whole N Z (take n log) ys last m' → CutRun log n xs ys last
cut_run N Z log n xs ys last m m' b h k l =
    let f = pool_after_log N Z log xs End m b k in
    let c = cut_log log f.parts n f.walks h in
    let (i, e) = whole_front l c.walks in
    let g = pool_after_log N Z (take n log) ys last m' (bytes_take n log b) l in
    let (same, _) = walks_once g.walks c.before c.last c.walks in
    let front : c.before ≡ take (length ys) f.parts =
    sym (take-append_seam c.before c.after) ∙ ap (λ (j : ℕ). take j (c.before ++ c.after)) (sym i) ∙ ap (take (length ys)) (sym c.all) in
    record {
      parts = f.parts;
      walks = f.walks;
      cut = c;
      each = i;
      same = g.answers ∙ ap (verdicts (fresh N Z)) (same ∙ front) ∙ first_verdicts (length ys) (fresh N Z) f.parts ∙ ap (take (length ys)) (sym f.answers);
      ends_so = e;
    }
