-- `section::refusals::refusal::bounds_refusal` meets its contract.
use Rattle.section.specs.profile.Refusals.{refusal}
use Rattle.section.proofs.refusals.refusal.bounds_refusal.Goals as goal

pub returns-then-x : goal.returns-then-x
unfolding refusal
returns-then-x c = rw c.if-x.true

pub returns-then-x-2 : goal.returns-then-x-2
unfolding refusal
returns-then-x-2 c = rw (c.if-x.false, c.if-x-2.true)

pub returns : goal.returns
unfolding refusal
returns c = rw (c.if-x.false, c.if-x-2.false)
