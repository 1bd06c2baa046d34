-- `section::refusals::refusal::axis_refusal` meets its contract.
use Rattle.section.specs.profile.Refusals.{refusal}
use Rattle.section.proofs.refusals.refusal.axis_refusal.Goals as goal

pub returns-then-any_below_axis : goal.returns-then-any_below_axis
unfolding refusal
returns-then-any_below_axis g c = rw (c.of.ensures, ← c.any_below_axis.ensures, c.if-any_below_axis.true)

pub returns : goal.returns
unfolding refusal
returns g c = rw (← c.any_below_axis.ensures, c.if-any_below_axis.false)
