-- `section::refusals::refusal::radius_refusal` meets its contract.
use Rattle.section.specs.profile.Refusals.{refusal}
use Rattle.section.proofs.refusals.refusal.radius_refusal.Goals as goal

pub returns-then-radius : goal.returns-then-radius
unfolding refusal
returns-then-radius c = rw c.if-radius.true

pub returns : goal.returns
unfolding refusal
returns c = rw c.if-radius.false
