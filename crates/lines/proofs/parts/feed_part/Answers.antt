-- The laws are in Calling.antt.
-- Assumes nothing.
use Rattle.std.proofs.Common.{sym, refl, ap, ◌∙◌, true≢false, arith, rules}
use Rattle.lines.specs.Parts.{goes_on_by}
use Rattle.lines.proofs.Calling.{begins, within, gets_nearer, decided, waits, stopped, wants_more, is_over, ends}
use Rattle.lines.proofs.parts.feed_part.Goals as goal
use Rattle.lines.proofs.parts.feed_part.Goals.{in-Decided, in_default}

pub loop-place-init : goal.loop-place-init
loop-place-init g c = (begins _ _ _ _ _ (omega arith), refl, refl)

pub overflow_add-place : goal.overflow_add-place
overflow_add-place g c = omega (arith, within c.loop-place.invariant.0 c.feed-fed.ensures)

pub returns-then-not-goes_on : goal.returns-then-not-goes_on
returns-then-not-goes_on g c = elim c.match-fed.branch [
  | in-Decided w ↦ absurd (true≢false (sym (ap goes_on_by w.in-Decided.is) ∙ sym c.goes_on.ensures ∙ c.if-not-goes_on.true))
  | in_default w ↦ rw w.position-is (stopped c.loop-place.invariant.0 c.feed-fed.ensures (omega arith) (is_over _ w.in_default.not-Decided (sym c.goes_on.ensures ∙ c.if-not-goes_on.true)))
]

pub loop-place-smaller : goal.loop-place-smaller
loop-place-smaller g c = omega (arith, gets_nearer c.loop-place.invariant.0 c.feed-fed.ensures (sym c.goes_on.ensures ∙ c.if-not-goes_on.false) c.loop-place-test.true, within c.loop-place.invariant.0 c.feed-fed.ensures)

pub loop-place-preserved : goal.loop-place-preserved
loop-place-preserved g c = (
  elim c.match-fed.branch [
    | in-Decided w ↦ rw w.position-is (decided c.loop-place.invariant.0 c.feed-fed.ensures _ w.in-Decided.is)
    | in_default w ↦ rw w.position-is (waits c.loop-place.invariant.0 c.feed-fed.ensures (omega arith) (wants_more _ w.in_default.not-Decided (sym c.goes_on.ensures ∙ c.if-not-goes_on.false)))
  ],
  search rules,
  search rules,
)

pub returns : goal.returns
returns g c = ends c.loop-place.invariant.0 c.loop-place-test.false
