-- `bodies::refusal::sphere_alone` meets its contract.
use Rattle.section.specs.profile.Refusals.{number_tests}
use Rattle.bodies.proofs.Alone.{then_own}
use Rattle.bodies.proofs.refusal.sphere_alone.Goals as goal

pub returns : goal.returns
returns c = then_own (number_tests _) _ tt c.alone_refusal.ensures c.radius_refusal.ensures
