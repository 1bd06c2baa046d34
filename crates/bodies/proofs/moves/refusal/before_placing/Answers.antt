-- `bodies::moves::refusal::before_placing` meets its contract.
use mathlib.Core.Path.{◌∙◌, ap}
use Rattle.section.specs.profile.Numbers.{refused_by}
use Rattle.walk.specs.settings.Settings.{settings_tests}
use Rattle.bodies.proofs.moves.Given.{given_then_steps}
use Rattle.bodies.proofs.moves.refusal.before_placing.Goals as goal

pub returns : goal.returns
returns c =
    let a = c.args in
    ap refused_by c.and.ensures
    ∙ given_then_steps _ a.body a.clearance a.travel a.settings _ _
    (c.beside_refusal-given.ensures (settings_tests a.settings) tt c.settings_refusal.ensures) c.steps_refusal.ensures
