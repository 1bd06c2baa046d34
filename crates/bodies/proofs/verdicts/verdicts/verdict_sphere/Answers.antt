-- `bodies::verdicts::verdicts::verdict_sphere` meets its contract.
use mathlib.Core.List.{[], ◌++◌}
use mathlib.Core.Path.{sym}
use Rattle.section.specs.profile.Refusals.{axis_tests, radius_tests}
use Rattle.section.proofs.profile.Numbered.{handed_on}
use Rattle.section.proofs.profile.Refusals.Ordered.{no_settings}
use Rattle.section.proofs.profile.Refusals.Passed.{section_long}
use Rattle.section.proofs.profile.Replies.{refused_answer, value_answer}
use Rattle.bodies.specs.verdicts.Verdicts.{body_verdict}
use Rattle.bodies.proofs.verdicts.verdicts.verdict_sphere.Goals as goal

pub returns-in_err-sphere_refusal : goal.returns-in_err-sphere_refusal
unfolding body_verdict
returns-in_err-sphere_refusal c =
    rw (handed_on c.from_residual.result c.from_residual.ensures)
    (refused_answer _ _ (c.in_err-sphere_refusal.ensures [] tt no_settings))

pub sphere_distance-requires : goal.sphere_distance-requires
sphere_distance-requires c =
    section_long _ _ (axis_tests _ ++ radius_tests _) tt (sym (c.in_ok-sphere_refusal.ensures [] tt no_settings))

pub returns : goal.returns
unfolding body_verdict
returns c =
    value_answer (c.in_ok-sphere_refusal.ensures [] tt no_settings) (rw (← c.sphere_distance.ensures) c.judged.ensures)
