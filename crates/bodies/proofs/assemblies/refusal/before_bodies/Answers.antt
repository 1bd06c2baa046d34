-- `bodies::assemblies::refusal::before_bodies` meets its contract: a call with the clearance for its numbers, and 17 for the body's own.
use mathlib.Core.List.{[]}
use Rattle.section.specs.profile.Refusals.{given_tests, axis_tests}
use Rattle.section.proofs.profile.Refusals.Ordered.{no_settings, own_after}
use Rattle.bodies.proofs.assemblies.refusal.before_bodies.Goals as goal

pub returns : goal.returns
returns c =
    own_after (given_tests _ _) [] (axis_tests _) _ tt tt tt c.body_refusal.ensures no_settings
    c.count_refusal.ensures
