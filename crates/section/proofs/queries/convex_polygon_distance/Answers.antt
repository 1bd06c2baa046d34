-- `section::queries::convex_polygon_distance` meets its contract: the number or the hit, and demand 1 of it.
use mathlib.Core.Path.{sym}
use Rattle.section.specs.profile.Refusals.{axis_tests}
use Rattle.section.proofs.profile.Refusals.Passed.{convex_long}
use Rattle.section.proofs.profile.Replies.{answered, refused_answer, value_answer}
use Rattle.section.specs.Answers.{convex_answer}
use Rattle.section.specs.Demand.{Bounded}
use Rattle.section.proofs.Demand.Queries.{convex_demand}
use Rattle.section.proofs.profile.Numbered.{handed_on}
use Rattle.section.proofs.queries.convex_polygon_distance.Goals as goal

pub returns-in_err-convex_refusal : goal.returns-in_err-convex_refusal
unfolding convex_answer
returns-in_err-convex_refusal c =
    answered (Bounded _) (convex_demand _ _) (rw (handed_on c.from_residual.result c.from_residual.ensures) (refused_answer _ _ c.in_err-convex_refusal.ensures))

pub convex_distance-requires : goal.convex_distance-requires
convex_distance-requires c = convex_long _ _ _ (axis_tests _) tt (sym c.in_ok-convex_refusal.ensures)

pub returns : goal.returns
unfolding convex_answer
returns c = answered (Bounded _) (convex_demand _ _) (value_answer c.in_ok-convex_refusal.ensures c.convex_distance.ensures)
