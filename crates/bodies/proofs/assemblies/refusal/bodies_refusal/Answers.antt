-- `bodies::assemblies::refusal::bodies_refusal` meets its contract: what is not yet checked decides for all.
use mathlib.Core.Path.{refl}
use Rattle.section.proofs.profile.Numbered.{above_zero, handed_on}
use Rattle.bodies.specs.Bodies.{alone_tests}
use Rattle.bodies.proofs.Alone.{own_numbered}
use Rattle.bodies.proofs.assemblies.Front.{refused_later, refused_here, refused_never}
use Rattle.bodies.proofs.assemblies.refusal.bodies_refusal.Goals as goal

pub returns-in_err-body_alone : goal.returns-in_err-body_alone
returns-in_err-body_alone c =
    rw (handed_on c.from_residual.result c.from_residual.ensures)
    (refused_here _ alone_tests _ c.loop-body.invariant own_numbered _ c.loop-body-test.true
    c.in_err-body_alone.ensures (above_zero _))

pub loop-body-preserved : goal.loop-body-preserved
loop-body-preserved c =
    refused_later _ alone_tests _ c.loop-body.invariant own_numbered _ c.loop-body-test.true
    c.in_ok-body_alone.ensures refl

pub returns : goal.returns
returns c = refused_never _ alone_tests _ c.loop-body.invariant c.loop-body-test.false
