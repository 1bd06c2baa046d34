-- `bodies::verdicts::verdicts::verdict_cylinder` meets its contract.
use mathlib.Core.List.{[]}
use mathlib.Core.Path.{refl}
use Rattle.section.proofs.profile.Numbered.{handed_on}
use Rattle.section.proofs.profile.Refusals.Ordered.{no_settings}
use Rattle.section.proofs.profile.Replies.{refused_answer, value_answer}
use Rattle.walk.proofs.cylinders.Given.{finest_measurable}
use Rattle.bodies.specs.verdicts.Verdicts.{body_verdict}
use Rattle.bodies.proofs.verdicts.verdicts.verdict_cylinder.Goals as goal

pub returns-in_err-cylinder_refusal : goal.returns-in_err-cylinder_refusal
unfolding body_verdict
returns-in_err-cylinder_refusal c =
    rw (handed_on c.from_residual.result c.from_residual.ensures)
    (refused_answer _ _ (c.in_err-cylinder_refusal.ensures.number [] tt no_settings))

pub cylinder_distance-counted-requires : goal.cylinder_distance-counted-requires
cylinder_distance-counted-requires c =
    rw c.finest.ensures (finest_measurable c.axis_of-axis.ensures c.in_ok-cylinder_refusal.ensures refl)

pub returns : goal.returns
unfolding body_verdict
returns c =
    value_answer (c.in_ok-cylinder_refusal.ensures.number [] tt no_settings)
    (rw (
      ← c.finest.ensures,
      ← c.cylinder_distance-counted.ensures,
      ← c.axis_of-axis.ensures,
      ← c.less_tilt-distance.ensures,
    ) c.judged.ensures)
