-- With what a run can end (specs/Runs.antt): an answer to the limits is 9, and stands for limits that are not there or not within their ranges.
-- Assumes nothing.
use Prim.Native.Nat.{ℕ, ◌≤◌}
use mathlib.Core.Path.{◌≡◌, refl, sym, ap, ◌∙◌}
use mathlib.Core.Bool.{false}
use mathlib.Core.Logic.{inl, inr}
use mathlib.Core.List.{List}
use native.Mathlib.Omega.{arith}
use lib.ListN.{length, take}
use Rattle.record.specs.declared.answer.Answer.{Answer}
use Rattle.record.specs.Answer.{bad_limits}
use Rattle.std.specs.Prelude.{Err}
use Rattle.record.proofs.Results.{ok_is_no_err, err_same}
use Rattle.lines.specs.Opening.{size_for, InRange}
use Rattle.lines.proofs.Limits.{in_range_0, in_range_or_9}
use Rattle.stream.specs.declared.closing.Ending.{Ending}
use Rattle.stream.specs.declared.closing.Ending.TheVariants.{Limits, Log, Unread}
use Rattle.stream.specs.declared.input.Filled.{Filled}
use Rattle.stream.specs.Turns.{Progress, Closes, stops, unread, over}
use Rattle.stream.specs.Runs.{Head, Runs, limits_unread, refused, melded}

-- 1 for an answer to the limits, else 0
abbrev limits_told : Ending → ℕ
limits_told (Limits a) = 1
limits_told (Log found) = 0
limits_told Unread = 0

-- a log does not end with an answer to the limits
log_ending : {p : Progress} {m carry m' : List ℕ} {last : Ending} → Closes p m carry m' last → limits_told last ≡ 0
log_ending (stops s) = refl
log_ending (unread s f) = refl
log_ending (over s f k) = refl

-- the answer to the limits that is told
abbrev answer_in : Ending → Answer
answer_in (Limits a) = a
answer_in (Log found) = bad_limits
answer_in Unread = bad_limits

-- limits that were read, that are not there or not within their ranges, and the answer 9
pub record Nine (most : ℕ) (a : Answer) : Type 0 where
  pub head : List ℕ
  pub read : Filled
  pub is_head : Head head read
  pub not_failed : read.failed ≡ false
  pub out : InRange most (take read.held head) → ⊥
  pub is_nine : a ≡ bad_limits

-- a run that ends with an answer to its limits, on bytes that are enough for the largest N
pub limits_say_9 : {most : ℕ} {m m' : List ℕ} {last : Ending} (a : Answer) → most ≤ 65536 → size_for most ≤ length m → Runs most m m' last → last ≡ Limits a
    → Nine most a
limits_say_9 a bounded enough (limits_unread h f) e =
    let z : ◌≡◌ {A = ℕ} 0 1 = ap limits_told e in
    absurd (omega (arith, z))
limits_say_9 a bounded enough (melded h f o c s) e =
    let z : ◌≡◌ {A = ℕ} 0 1 = sym (log_ending s.closes) ∙ ap limits_told e in
    absurd (omega (arith, z))
limits_say_9 {most} {m} a bounded enough (refused {head} {m'} {r} {answer} h f o) e =
    elim (in_range_or_9 most m (take r.held head) (Err answer) m' o bounded enough) [
      | inl k ↦ ok_is_no_err (sym (in_range_0 most m (take r.held head) (Err answer) m' o bounded enough k))
      | inr nine ↦
          record {
            head = head;
            read = r;
            is_head = h;
            not_failed = f;
            out = λ k. ok_is_no_err (sym (in_range_0 most m (take r.held head) (Err answer) m' o bounded enough k));
            is_nine = sym (ap answer_in e) ∙ err_same nine;
          }
    ]
