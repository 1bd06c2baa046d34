-- `section::refusals::refusal::shape_refusal` meets its contract.
use borrow.Author.Tests.{eq-eqb, le-ltb, lt-ltb, ne_eqb}
use Rattle.section.specs.profile.Refusals.{any_of, refusal}
use Rattle.section.proofs.refusals.refusal.shape_refusal.Goals as goal

pub returns-then-l-eq1 : goal.returns-then-l-eq1
unfolding refusal any_of
returns-then-l-eq1 c = rw (eq-eqb _ _ c.if-l-eq1.true)

pub returns-then-n-least : goal.returns-then-n-least
unfolding refusal any_of
returns-then-n-least c = rw (ne_eqb _ _ c.if-l-eq1.false, lt-ltb _ _ c.if-n-least.true)

pub returns-then-most-n : goal.returns-then-most-n
unfolding refusal any_of
returns-then-most-n c = rw (ne_eqb _ _ c.if-l-eq1.false, le-ltb _ _ c.if-n-least.false, lt-ltb _ _ c.if-most-n.true)

pub returns : goal.returns
unfolding refusal any_of
returns c = rw (ne_eqb _ _ c.if-l-eq1.false, le-ltb _ _ c.if-n-least.false, le-ltb _ _ c.if-most-n.false)
