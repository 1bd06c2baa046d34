-- `bodies::queries::query_sphere` meets its contract: the refusal or the hit, and demand 1 of it.
use mathlib.Core.List.{◌++◌}
use mathlib.Core.Path.{sym}
use Rattle.section.specs.profile.Refusals.{axis_tests, radius_tests}
use Rattle.section.proofs.profile.Numbered.{handed_on}
use Rattle.section.proofs.profile.Refusals.Passed.{section_long}
use Rattle.section.proofs.profile.Replies.{answered, refused_answer, value_answer}
use Rattle.walk.specs.settings.Settings.{settings_tests}
use Rattle.bodies.specs.Bodies.{body_answer, BodyPromised}
use Rattle.bodies.specs.declared.shapes.Body.TheVariants as body_kinds
use Rattle.bodies.proofs.OfKind.{sphere_promised}
use Rattle.bodies.proofs.queries.query_sphere.Goals as goal

pub returns-in_err-sphere_refusal : goal.returns-in_err-sphere_refusal
unfolding body_answer
returns-in_err-sphere_refusal c =
    let a = c.args in
    answered (BodyPromised _ (body_kinds.Sphere a.sphere) a.settings) (sphere_promised _ a.settings a.sphere)
    (rw (handed_on c.from_residual.result c.from_residual.ensures)
    (refused_answer _ _ (c.in_err-sphere_refusal.ensures (settings_tests a.settings) tt c.settings_refusal.ensures)))

pub sphere_distance-requires : goal.sphere_distance-requires
sphere_distance-requires c =
    let tests = settings_tests c.args.settings in
    section_long _ _ (tests ++ (axis_tests _ ++ radius_tests _)) tt
    (sym (c.in_ok-sphere_refusal.ensures tests tt c.settings_refusal.ensures))

pub returns : goal.returns
unfolding body_answer
returns c =
    let a = c.args in
    answered (BodyPromised _ (body_kinds.Sphere a.sphere) a.settings) (sphere_promised _ a.settings a.sphere)
    (value_answer (c.in_ok-sphere_refusal.ensures (settings_tests a.settings) tt c.settings_refusal.ensures)
    (rw (← c.sphere_distance.ensures) c.boxes_only.ensures))
