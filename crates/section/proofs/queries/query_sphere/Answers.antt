-- `section::queries::query_sphere` meets its contract: the number or the hit, and demand 1 of it.
use mathlib.Core.List.{[], ◌++◌}
use mathlib.Core.Path.{sym}
use Rattle.section.specs.profile.Refusals.{axis_tests, radius_tests}
use Rattle.section.proofs.profile.Refusals.Ordered.{no_settings}
use Rattle.section.proofs.profile.Refusals.Passed.{section_long}
use Rattle.section.proofs.profile.Replies.{answered, refused_answer, value_answer}
use Rattle.section.specs.Answers.{sphere_answer}
use Rattle.section.specs.Demand.{BoundedOffAxis}
use Rattle.section.proofs.Demand.Queries.{sphere_demand}
use Rattle.section.proofs.profile.Numbered.{handed_on}
use Rattle.section.proofs.queries.query_sphere.Goals as goal

pub returns-in_err-sphere_refusal : goal.returns-in_err-sphere_refusal
unfolding sphere_answer
returns-in_err-sphere_refusal c =
    answered (BoundedOffAxis _) (sphere_demand _ _) (rw (handed_on c.from_residual.result c.from_residual.ensures) (refused_answer _ _ (c.in_err-sphere_refusal.ensures [] tt no_settings)))

pub sphere_distance-requires : goal.sphere_distance-requires
sphere_distance-requires c = section_long _ _ (axis_tests _ ++ radius_tests _) tt (sym (c.in_ok-sphere_refusal.ensures [] tt no_settings))

pub returns : goal.returns
unfolding sphere_answer
returns c = answered (BoundedOffAxis _) (sphere_demand _ _) (value_answer (c.in_ok-sphere_refusal.ensures [] tt no_settings) c.sphere_distance.ensures)
