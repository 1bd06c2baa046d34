-- `walk::cylinders::queries::query_cylinder` meets its contract: the refusal or the hit, and demands 1 and 3 of it.
use mathlib.Core.Path.{refl}
use Rattle.section.proofs.profile.Numbered.{handed_on}
use Rattle.section.proofs.profile.Replies.{answered, refused_answer, value_answer}
use Rattle.walk.specs.settings.Settings.{settings_tests}
use Rattle.walk.specs.cylinders.Cylinders.{cylinder_answer}
use Rattle.walk.specs.cylinders.Promised.{Promised}
use Rattle.walk.proofs.cylinders.Given.{is_f64, query_measurable}
use Rattle.walk.proofs.cylinders.Promise.{promised}
use Rattle.walk.proofs.cylinders.queries.query_cylinder.Goals as goal

pub returns-in_err-cylinder_refusal : goal.returns-in_err-cylinder_refusal
unfolding cylinder_answer
returns-in_err-cylinder_refusal c =
    let checked = c.in_err-cylinder_refusal.ensures in
    let t = c.args.settings in
    let f64 = is_f64 t.tolerance c.well_formed.1.1.0.1.1.0.1 in
    answered (Promised _ _ t) (promised _ _ t checked.f64s f64)
    (rw (handed_on c.from_residual.result c.from_residual.ensures)
    (refused_answer _ _ (checked.number (settings_tests t) tt c.settings_refusal.ensures)))

pub cylinder_distance-requires : goal.cylinder_distance-requires
cylinder_distance-requires c =
    query_measurable (is_f64 _ c.well_formed.1.1.0.1.1.0.1) c.axis_of-axis.ensures c.in_ok-cylinder_refusal.ensures
    c.settings_refusal.ensures refl

pub returns : goal.returns
unfolding cylinder_answer
returns c =
    let checked = c.in_ok-cylinder_refusal.ensures in
    let t = c.args.settings in
    let f64 = is_f64 t.tolerance c.well_formed.1.1.0.1.1.0.1 in
    answered (Promised _ _ t) (promised _ _ t checked.f64s f64)
    (value_answer (checked.number (settings_tests t) tt c.settings_refusal.ensures) c.cylinder_distance.ensures)
