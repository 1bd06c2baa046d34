-- `section::queries::signed_distance` meets its contract: the number or the hit, and demand 1 of it.
use mathlib.Core.Path.{sym}
use Rattle.section.specs.profile.Refusals.{axis_tests}
use Rattle.section.proofs.profile.Refusals.Passed.{section_long}
use Rattle.section.proofs.profile.Replies.{answered, refused_answer, value_answer}
use Rattle.section.specs.Answers.{point_answer}
use Rattle.section.specs.Demand.{BoundedOffAxis}
use Rattle.section.proofs.Demand.Queries.{point_demand}
use Rattle.section.proofs.profile.Numbered.{handed_on}
use Rattle.section.proofs.queries.signed_distance.Goals as goal

pub returns-in_err-point_refusal : goal.returns-in_err-point_refusal
unfolding point_answer
returns-in_err-point_refusal c =
    answered (BoundedOffAxis _) (point_demand _ _) (rw (handed_on c.from_residual.result c.from_residual.ensures) (refused_answer _ _ c.in_err-point_refusal.ensures))

pub signed_distance_2d-requires : goal.signed_distance_2d-requires
signed_distance_2d-requires c = section_long _ _ (axis_tests _) tt (sym c.in_ok-point_refusal.ensures)

pub returns : goal.returns
unfolding point_answer
returns c = answered (BoundedOffAxis _) (point_demand _ _) (value_answer c.in_ok-point_refusal.ensures (rw (c.signed_distance_2d.ensures, c.meridian.ensures)))
