-- The promise of `explain` leaves no second answer: one entry at most is the smallest in conflict, since the kept keys rise, and one number at
-- most touches its key, since the keys of the points rise and no two scans share a key.
-- Assumes nothing.
use Prim.Native.Nat.{ℕ, suc, ◌+◌, ◌≤◌}
use native.Mathlib.Omega.{arith}
use mathlib.Core.Path.{◌≡◌, refl, sym, ap, ◌∙◌, subst}
use mathlib.Core.List.Memᴰ.{head as here}
use mathlib.Core.List.Memᴰ.{tail as there}
use mathlib.Core.List.{List, ◌∷◌, Memᴰ as Mem}
use mathlib.Core.Option.{Option, none, some}
use Rattle.words.specs.Word.{Bytes}
use Rattle.record.specs.declared.point.Point.{Point}
use Rattle.record.specs.declared.point.Scan.{Scan}
use Rattle.record.specs.Record.{Rec, Valid, PointsRise, Apart, key_of}
use Rattle.record.proofs.RoundTrip.{bytes_of_parse}
use Rattle.rules.specs.State.{Entry, State, Lawful}
use Rattle.rules.specs.Verdict.{Verdict, committed, conflict, too_old, no_room, malformed, ahead, positions_used_up, verdict}
use Rattle.rules.specs.Log.{ValidIf}
use Rattle.rules.proofs.Finding.{find_mem}
use Rattle.pool.specs.Image.{Fit}
use Rattle.fit.proofs.Decided.{fit_or_not}
use Rattle.meld.specs.declared.melding.Melded.{Melded}
use Rattle.reason.specs.declared.told.Touch.{Touch}
use Rattle.reason.specs.declared.told.Touch.TheVariants as Touches
use Rattle.reason.specs.declared.told.Reason.{Reason}
use Rattle.reason.specs.declared.told.Explained.{Explained}
use Rattle.reason.specs.Reason.{reason_told, Smallest, IsNumber, first, later, TouchedBy, by_point, by_scan, Blames, ReasonFor, TrueReason, ExplainsAs, Explains}
use Rattle.reason.proofs.Apart.{reason_told_apart}
use Rattle.reason.proofs.Above.{above, beyond_low}

-- WHAT TOUCHES A KEY

-- what has a number is there
pub number_mem : {A : Type 0} {x : A} {i : ℕ} {xs : List A} → IsNumber x i xs → Mem x xs
number_mem first = here refl
number_mem (later n) = there (number_mem n)

-- one point at most has a key
one_point : (low : ℕ) (ps : List Point) → PointsRise low ps → {p q : Point} {i j : ℕ} → IsNumber p i ps → IsNumber q j ps → key_of p ≡ key_of q → i ≡ j
one_point low mathlib.Core.List.[] r {p = p} {q = q} {i = i} {j = j} x4 _ e = elim x4 [ ]
one_point low (p ∷ ps) r first first e = refl
one_point low (p ∷ ps) r {q = q} first (later n) e = absurd (omega (arith, e, above (key_of p + 1) ps r.3 q (number_mem n)))
one_point low (q ∷ ps) r {p = p} (later n) first e = absurd (omega (arith, e, above (key_of q + 1) ps r.3 p (number_mem n)))
one_point low (p ∷ ps) r (later m) (later n) e = ap suc (one_point (key_of p + 1) ps r.3 m n e)

-- one scan at most covers a key
one_scan_lem : (low k : ℕ) (cs : List Scan) → Apart low cs → {c d : Scan} {i j : ℕ} → IsNumber c i cs → IsNumber d j cs
    → c.low ≤ k → k ≤ c.high → d.low ≤ k → k ≤ d.high → i ≡ j
one_scan_lem low k mathlib.Core.List.[] a {c = c} {d = d} {i = i} {j = j} x7 _ l h l' h' = elim x7 [ ]
one_scan_lem low k (c ∷ cs) a first first l h l' h' = refl
one_scan_lem low k (c ∷ cs) a {d = d} first (later n) l h l' h' = absurd (omega (arith, h, l', beyond_low (c.high + 1) cs a.3 d (number_mem n)))
one_scan_lem low k (d ∷ cs) a {c = c} (later n) first l h l' h' = absurd (omega (arith, l, h', beyond_low (d.high + 1) cs a.3 c (number_mem n)))
one_scan_lem low k (c ∷ cs) a (later m) (later n) l h l' h' = ap suc (one_scan_lem (c.high + 1) k cs a.3 m n l h l' h')

-- so a key is touched by one thing
pub touched_once : {r : Rec} {k : ℕ} → Valid r → {t u : Touch} → TouchedBy r k t → TouchedBy r k u → t ≡ u
touched_once {r} v (by_point m e) (by_point n f) = ap Touches.Point (one_point 0 r.points v.rising m n (e ∙ sym f))
touched_once v (by_point {q = q} m e) (by_scan free n l h) = absurd (free q (number_mem m) e)
touched_once v (by_scan free m l h) (by_point {q = q} n f) = absurd (free q (number_mem n) f)
touched_once {r} {k} v (by_scan free m l h) (by_scan free' n l' h') = ap Touches.Scan (one_scan_lem 0 k r.scans v.apart m n l h l' h')

-- THE SMALLEST

-- what is kept of a key is one entry
same_entry : {a b : Entry} → some a ≡ some b → a ≡ b
same_entry e = cc

-- one entry is the smallest in conflict
pub smallest_once : {S : State} {r : Rec} {e f : Entry} → Lawful S → Smallest S r e → Smallest S r f → e ≡ f
smallest_once {S} {r} {e} {f} l a b =
    let k : e.key ≡ f.key = omega (arith, a.least f b.in_conflict, b.least e a.in_conflict) in
    same_entry (sym (find_mem l.rising a.in_conflict.kept) ∙ rw k (find_mem l.rising b.in_conflict.kept))

-- NO SECOND ANSWER

module _ {S : State} (l : Lawful S) (x y : Reason) where
  -- of a conflict
  blamed_once : {r : Rec} → Valid r → Blames S r x → Blames S r y → reason_told x ≡ reason_told y
  blamed_once {r} v a b =
      let e : a.e ≡ b.e = smallest_once l a.smallest b.smallest in
      let t : a.touch ≡ b.touch = touched_once v a.touched (subst (λ (z : Entry). TouchedBy r z.key b.touch) (sym e) b.touched) in
      (rw (e, t) at a.tells) ∙ sym b.tells

  -- of each verdict
  verdict_once : {r : Rec} → Valid r → (v : Verdict) → ReasonFor S r x v → ReasonFor S r y v → reason_told x ≡ reason_told y
  verdict_once v committed a b = a ∙ sym b
  verdict_once v conflict a b = blamed_once v a b
  verdict_once v too_old a b = a ∙ sym b
  verdict_once v no_room a b = a ∙ sym b
  verdict_once v malformed a b = a ∙ sym b
  verdict_once v ahead a b = a ∙ sym b
  verdict_once v positions_used_up a b = a ∙ sym b

  -- of any bytes
  reason_once : (m : Option Rec) → ValidIf m → TrueReason S m x → TrueReason S m y → reason_told x ≡ reason_told y
  reason_once none v a b = a ∙ sym b
  reason_once (some r) v a b = verdict_once (v r refl) (verdict S (some r)) a b

-- at a state
explained_once : {S : State} {m : Option Rec} {x y : Explained} → Lawful S → ValidIf m → ExplainsAs S m x → ExplainsAs S m y → x ≡ y
explained_once {S} {m} {x} {y} l v a b =
    let e : ◌≡◌ {A = Melded} (record { answer = x.answer; looks = x.looks }) (record { answer = y.answer; looks = y.looks }) = a.as_melded ∙ sym b.as_melded in
    let t : x.reason ≡ y.reason = reason_told_apart x.reason y.reason (reason_once l x.reason y.reason m v a.true_reason b.true_reason) in
    λ i. record { answer = (e i).answer; looks = (e i).looks; reason = t i }

-- no second answer, no second count of looks and no second reason, for any bytes lent as pool and as record
pub only_explain : (m bytes : List ℕ) (x y : Explained) → Bytes m → Bytes bytes → Explains m bytes x → Explains m bytes y → x ≡ y
only_explain m bytes x y lent b p q = go (fit_or_not m lent)
  where
    go : Dec (Fit m) → x ≡ y
    go (yes f) = explained_once f.image.arranged.lawful (λ r e. (bytes_of_parse bytes r b e).0) (p.fit f.arrangement f.image) (q.fit f.arrangement f.image)
    go (no n) = p.unfit n ∙ sym (q.unfit n)
