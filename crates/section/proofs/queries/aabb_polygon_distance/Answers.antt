-- `section::queries::aabb_polygon_distance` meets its contract: the number or the hit, and demand 1 of it.
use mathlib.Core.List.{[], ◌++◌}
use mathlib.Core.Path.{sym}
use Rattle.section.specs.profile.Refusals.{axis_tests, bounds_tests}
use Rattle.section.proofs.profile.Refusals.Ordered.{no_settings}
use Rattle.section.proofs.profile.Refusals.Passed.{section_long}
use Rattle.section.proofs.profile.Replies.{answered, refused_answer, value_answer}
use Rattle.section.specs.Answers.{box_answer}
use Rattle.section.specs.Demand.{Bounded}
use Rattle.section.proofs.Demand.Queries.{box_demand}
use Rattle.section.proofs.profile.Numbered.{handed_on}
use Rattle.section.proofs.queries.aabb_polygon_distance.Goals as goal

pub returns-in_err-box_refusal : goal.returns-in_err-box_refusal
unfolding box_answer
returns-in_err-box_refusal c =
    answered (Bounded _) (box_demand _ _) (rw (handed_on c.from_residual.result c.from_residual.ensures) (refused_answer _ _ (c.in_err-box_refusal.ensures [] tt no_settings)))

pub box_distance-requires : goal.box_distance-requires
box_distance-requires c = section_long _ _ (axis_tests _ ++ bounds_tests _) tt (sym (c.in_ok-box_refusal.ensures [] tt no_settings))

pub returns : goal.returns
unfolding box_answer
returns c = answered (Bounded _) (box_demand _ _) (value_answer (c.in_ok-box_refusal.ensures [] tt no_settings) c.box_distance.ensures)
