-- `bodies::walk_verdicts::judging::verdict_walk` meets its contract: the refusal, or what is told of the hit; few boxes by its walk's cover.
use mathlib.Core.List.{[]}
use mathlib.Core.Path.{refl}
use Rattle.section.proofs.profile.Numbered.{handed_on}
use Rattle.section.proofs.profile.Refusals.Ordered.{no_settings}
use Rattle.section.proofs.profile.Replies.{answered, refused_answer, value_answer}
use Rattle.walk.proofs.cylinders.Given.{finest_measurable}
use Rattle.bodies.specs.walk_verdicts.WalkVerdicts.{FewCounted, walk_verdict}
use Rattle.bodies.proofs.walk_verdicts.Counted.{few_counted}
use Rattle.bodies.proofs.walk_verdicts.judging.verdict_walk.Goals as goal

pub returns-in_err-cylinder_refusal : goal.returns-in_err-cylinder_refusal
unfolding walk_verdict
returns-in_err-cylinder_refusal c =
    let checked = c.in_err-cylinder_refusal.ensures in
    answered FewCounted (few_counted _ _ _ checked.f64s)
    (rw (handed_on c.from_residual.result c.from_residual.ensures) (refused_answer _ _ (checked.number [] tt no_settings)))

pub cylinder_distance-counted-requires : goal.cylinder_distance-counted-requires
cylinder_distance-counted-requires c =
    rw c.finest.ensures (finest_measurable c.axis_of-axis.ensures c.in_ok-cylinder_refusal.ensures refl)

pub returns : goal.returns
unfolding walk_verdict
returns c =
    let checked = c.in_ok-cylinder_refusal.ensures in
    answered FewCounted (few_counted _ _ _ checked.f64s)
    (value_answer (checked.number [] tt no_settings)
    (rw (
      ← c.finest.ensures,
      ← c.cylinder_distance-counted.ensures,
      ← c.axis_of-axis.ensures,
      c.judged_walk.ensures,
    )))
