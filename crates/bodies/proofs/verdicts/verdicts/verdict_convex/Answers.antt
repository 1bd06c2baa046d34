-- `bodies::verdicts::verdicts::verdict_convex` meets its contract.
use mathlib.Core.Path.{sym}
use Rattle.section.specs.profile.Refusals.{axis_tests}
use Rattle.section.proofs.profile.Numbered.{handed_on}
use Rattle.section.proofs.profile.Refusals.Passed.{convex_long}
use Rattle.section.proofs.profile.Replies.{refused_answer, value_answer}
use Rattle.bodies.specs.verdicts.Verdicts.{convex_verdict}
use Rattle.bodies.proofs.verdicts.verdicts.verdict_convex.Goals as goal

pub returns-in_err-convex_refusal : goal.returns-in_err-convex_refusal
unfolding convex_verdict
returns-in_err-convex_refusal c =
    rw (handed_on c.from_residual.result c.from_residual.ensures) (refused_answer _ _ c.in_err-convex_refusal.ensures)

pub convex_distance-requires : goal.convex_distance-requires
convex_distance-requires c = convex_long _ _ _ (axis_tests _) tt (sym c.in_ok-convex_refusal.ensures)

pub returns : goal.returns
unfolding convex_verdict
returns c = value_answer c.in_ok-convex_refusal.ensures (rw (← c.convex_distance.ensures) c.judged.ensures)
