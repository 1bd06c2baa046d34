-- `section::refusals::refusal::box_refusal` meets its contract.
use mathlib.Core.Path.{◌∙◌}
use Rattle.section.specs.profile.Refusals.{given_tests, axis_tests}
use Rattle.section.proofs.profile.Refusals.Ordered.{own_after}
use Rattle.section.proofs.refusals.refusal.box_refusal.Goals as goal

pub returns : goal.returns
returns g c ts h e =
    own_after (given_tests _ _) ts (axis_tests _) _ tt h tt c.body_refusal.ensures e (c.of-own.ensures ∙ c.bounds_refusal.ensures)
