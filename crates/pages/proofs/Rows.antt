-- What each row of R47 says, as facts: its own test passes and those before it do not. Both ways: `row_facts` and `row_is`.
-- The idea: the row is a choice by six tests, and what such a choice says is seen by trying them.
-- Assumes nothing.
use Prim.Native.Nat.{ℕ, ◌+◌, ◌≤◌, ◌<◌}
use mathlib.Core.Path.{◌≡◌, refl, sym, ◌∙◌, subst}
use mathlib.Core.Logic.{◌⊎◌, inl, inr}
use mathlib.Core.Bool.{Bool, true, false, not, ◌&&◌, true≢false}
use mathlib.Core.List.{List}
use native.Mathlib.Omega.{arith}
use lib.Dec.{ltb, eqb}
use lib.ListN.{length, take}
use borrow.Author.Tests.{ltb-true, ltb-false, eqb-true, lt-ltb, le-ltb, eq-eqb}
use Rattle.std.specs.Prelude.{if◌then◌else◌}
use Rattle.record.proofs.Cases.{by_case}
use Rattle.record_log.specs.Log.{length_at, past_at, impossible}
use Rattle.pages.specs.Pages.{FeedRow, wrong_carry, stuck, cannot_go_on, record_whole, goes_on, at_end, torn}
use Rattle.pages.specs.Pages.{carry_size, may_carry, bytes_in, cannot_be, whole_in, feed_row}

-- A CHOICE BY SIX TESTS

-- the row that six tests choose
abbrev row_of : Bool → Bool → Bool → Bool → Bool → Bool → FeedRow
row_of a b c d e f =
    if not a then wrong_carry else
    if b then stuck else
    if c then cannot_go_on else
    if d then record_whole else
    if not e then goes_on else
    if f then at_end else
    torn

-- what a row says of them
abbrev pub RowSays : FeedRow → Bool → Bool → Bool → Bool → Bool → Bool → Type 0
RowSays wrong_carry a b c d e f = a ≡ false
RowSays stuck a b c d e f = (a ≡ true) × (b ≡ true)
RowSays cannot_go_on a b c d e f = (a ≡ true) × (b ≡ false) × (c ≡ true)
RowSays record_whole a b c d e f = (a ≡ true) × (b ≡ false) × (c ≡ false) × (d ≡ true)
RowSays goes_on a b c d e f = (a ≡ true) × (b ≡ false) × (c ≡ false) × (d ≡ false) × (e ≡ false)
RowSays at_end a b c d e f = (a ≡ true) × (b ≡ false) × (c ≡ false) × (d ≡ false) × (e ≡ true) × (f ≡ true)
RowSays torn a b c d e f = (a ≡ true) × (b ≡ false) × (c ≡ false) × (d ≡ false) × (e ≡ true) × (f ≡ false)

chosen_says : (a b c d e f : Bool) → RowSays (row_of a b c d e f) a b c d e f
chosen_says false b c d e f = refl
chosen_says true true c d e f = (refl, refl)
chosen_says true false true d e f = (refl, refl, refl)
chosen_says true false false true e f = (refl, refl, refl, refl)
chosen_says true false false false false f = (refl, refl, refl, refl, refl)
chosen_says true false false false true true = (refl, refl, refl, refl, refl, refl)
chosen_says true false false false true false = (refl, refl, refl, refl, refl, refl)

says_chosen : (row : FeedRow) (a b c d e f : Bool) → RowSays row a b c d e f → row_of a b c d e f ≡ row
says_chosen wrong_carry a b c d e f s = simp s
says_chosen stuck a b c d e f s = simp (s.0, s.1)
says_chosen cannot_go_on a b c d e f s = simp (s.0, s.1, s.2)
says_chosen record_whole a b c d e f s = simp (s.0, s.1, s.2, s.3)
says_chosen goes_on a b c d e f s = simp (s.0, s.1, s.2, s.3, s.4)
says_chosen at_end a b c d e f s = simp (s.0, s.1, s.2, s.3, s.4, s.5)
says_chosen torn a b c d e f s = simp (s.0, s.1, s.2, s.3, s.4, s.5)

-- THE ROWS OF R47

-- what a row says of what is lent
abbrev pub RowFacts : FeedRow → List ℕ → ℕ → List ℕ → Bool → Type 0
RowFacts row carry carried part over =
    RowSays row (eqb (length carry) carry_size && may_carry carry carried) (cannot_be (take carried carry)) (cannot_be (bytes_in carry carried part))
    (whole_in (bytes_in carry carried part)) over (eqb (carried + length part) 0)

-- the row that applies says so
pub row_facts : (row : FeedRow) (carry : List ℕ) (carried : ℕ) (part : List ℕ) (over : Bool) → feed_row carry carried part over ≡ row → RowFacts row carry carried part over
unfolding feed_row
row_facts row carry carried part over e =
    subst (λ (x : FeedRow). RowFacts x carry carried part over) e
    (chosen_says (eqb (length carry) carry_size && may_carry carry carried) (cannot_be (take carried carry)) (cannot_be (bytes_in carry carried part))
    (whole_in (bytes_in carry carried part)) over (eqb (carried + length part) 0))

-- the row of which that is so applies
pub row_is : (row : FeedRow) (carry : List ℕ) (carried : ℕ) (part : List ℕ) (over : Bool) → RowFacts row carry carried part over → feed_row carry carried part over ≡ row
unfolding feed_row
row_is row carry carried part over s =
    says_chosen row (eqb (length carry) carry_size && may_carry carry carried) (cannot_be (take carried carry)) (cannot_be (bytes_in carry carried part))
    (whole_in (bytes_in carry carried part)) over (eqb (carried + length part) 0) s

-- THE TESTS

-- true is not false
pub no_both : {P : Type 0} {b : Bool} → b ≡ true → b ≡ false → P
no_both t f = absurd (true≢false (sym t ∙ f))

both : (a b : Bool) → (a && b) ≡ true → (a ≡ true) × (b ≡ true)
both true b e = (refl, e)
both false b e = no_both e refl

not_both : (a b : Bool) → (a && b) ≡ false → a ≡ true → b ≡ false
not_both true b e t = e
not_both false b e t = no_both t refl

flipped : (b : Bool) → not b ≡ true → b ≡ false
flipped true e = no_both e refl
flipped false e = refl

-- two bytes are there, and the length that they say cannot be
pub cannot_tells : (bytes : List ℕ) → cannot_be bytes ≡ true → (2 ≤ length bytes) × (impossible (length_at bytes 0) ≡ true)
cannot_tells bytes e =
    let p = both (not (ltb (length bytes) 2)) (impossible (length_at bytes 0)) e in
    (ltb-false (length bytes) 2 (flipped (ltb (length bytes) 2) p.0), p.1)

pub cannot_is : (bytes : List ℕ) → 2 ≤ length bytes → impossible (length_at bytes 0) ≡ true → cannot_be bytes ≡ true
cannot_is bytes two i = simp (le-ltb (length bytes) 2 two, i)

-- if not, then the length that two bytes say is one of a record
pub can_tells : (bytes : List ℕ) → cannot_be bytes ≡ false → 2 ≤ length bytes → impossible (length_at bytes 0) ≡ false
can_tells bytes e two = not_both (not (ltb (length bytes) 2)) (impossible (length_at bytes 0)) e (simp (le-ltb (length bytes) 2 two))

pub can_is : (bytes : List ℕ) → (2 ≤ length bytes → impossible (length_at bytes 0) ≡ false) → cannot_be bytes ≡ false
can_is bytes f =
    by_case (ltb (length bytes) 2) (λ t. simp t) λ n.
    simp (n, f (ltb-false (length bytes) 2 n))

-- the record's last byte is there
pub whole_tells : (bytes : List ℕ) → whole_in bytes ≡ true → (2 ≤ length bytes) × (past_at bytes 0 ≤ length bytes)
whole_tells bytes e =
    let p = both (not (ltb (length bytes) 2)) (not (ltb (length bytes) (past_at bytes 0))) e in
    (ltb-false (length bytes) 2 (flipped (ltb (length bytes) 2) p.0), ltb-false (length bytes) (past_at bytes 0) (flipped (ltb (length bytes) (past_at bytes 0)) p.1))

pub whole_is : (bytes : List ℕ) → past_at bytes 0 ≤ length bytes → whole_in bytes ≡ true
whole_is bytes h = let two : 2 ≤ length bytes = omega arith in simp (le-ltb (length bytes) 2 two, le-ltb (length bytes) (past_at bytes 0) h)

-- or it is not
pub not_whole_tells : (bytes : List ℕ) → whole_in bytes ≡ false → 2 ≤ length bytes → length bytes < past_at bytes 0
not_whole_tells bytes e two =
    by_case (ltb (length bytes) (past_at bytes 0)) (λ t. ltb-true (length bytes) (past_at bytes 0) t) λ n.
    no_both (whole_is bytes (ltb-false (length bytes) (past_at bytes 0) n)) e

pub not_whole_is : (bytes : List ℕ) → (2 ≤ length bytes → length bytes < past_at bytes 0) → whole_in bytes ≡ false
not_whole_is bytes f =
    by_case (whole_in bytes) (λ t. let p = whole_tells bytes t in absurd (omega (arith, p.1, f p.0))) λ n. n

-- R48: two bytes or more may be carried in two ways
pub may_tells : (carry : List ℕ) (carried : ℕ) → may_carry carry carried ≡ true → 2 ≤ carried
    → ((impossible (length_at carry 0) ≡ true) × (carried ≡ 2)) ⊎ ((impossible (length_at carry 0) ≡ false) × (carried < past_at carry 0))
may_tells carry carried e two =
    let f : ltb carried 2 ≡ false = le-ltb carried 2 two in
    by_case (impossible (length_at carry 0)) (λ i. inl (i, eqb-true carried 2 (simp (f, i) at e))) λ p.
    inr (p, ltb-true carried (past_at carry 0) (simp (f, p) at e))

-- fewer may always be
pub may_few : (carry : List ℕ) (carried : ℕ) → carried < 2 → may_carry carry carried ≡ true
may_few carry carried h = simp (lt-ltb carried 2 h)

pub may_stuck : (carry : List ℕ) → impossible (length_at carry 0) ≡ true → may_carry carry 2 ≡ true
may_stuck carry i = simp i

pub may_amid : (carry : List ℕ) (carried : ℕ) → impossible (length_at carry 0) ≡ false → carried < past_at carry 0 → may_carry carry carried ≡ true
may_amid carry carried p h =
    by_case (ltb carried 2) (λ t. simp t) λ f.
    simp (f, p, lt-ltb carried (past_at carry 0) h)

-- a carry that the first row lets pass
pub may_split : (carry : List ℕ) (carried : ℕ) → (eqb (length carry) carry_size && may_carry carry carried) ≡ true → (length carry ≡ carry_size) × (may_carry carry carried ≡ true)
may_split carry carried e = let p = both (eqb (length carry) carry_size) (may_carry carry carried) e in (eqb-true (length carry) carry_size p.0, p.1)

pub may_join : (carry : List ℕ) (carried : ℕ) → length carry ≡ carry_size → may_carry carry carried ≡ true → (eqb (length carry) carry_size && may_carry carry carried) ≡ true
may_join carry carried s m = simp (eq-eqb (length carry) carry_size s, m)
