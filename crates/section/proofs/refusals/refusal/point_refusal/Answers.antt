-- `section::refusals::refusal::point_refusal` meets its contract.
use mathlib.Core.List.{[]}
use Rattle.section.specs.profile.Refusals.{given_tests, axis_tests}
use Rattle.section.proofs.profile.Refusals.Ordered.{no_settings, own_after}
use Rattle.section.proofs.refusals.refusal.point_refusal.Goals as goal

pub returns : goal.returns
returns c =
    own_after (given_tests _ _) [] (axis_tests _) [] tt tt tt c.body_refusal.ensures no_settings no_settings
