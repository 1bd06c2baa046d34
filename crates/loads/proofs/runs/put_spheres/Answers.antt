-- `loads::runs::put_spheres`. Four states go into a sphere in a turn.
use native.Mathlib.Omega.{arith}
use Rattle.loads.proofs.Putting.{spheres_none, spheres_more, spheres_end}
use Rattle.loads.proofs.runs.put_spheres.Goals as goal

pub loop-j-init : goal.loop-j-init
loop-j-init c = spheres_none _ _ _

pub put_sphere-state-requires : goal.put_sphere-state-requires
put_sphere-state-requires c = (omega arith, omega arith)

pub loop-j-preserved : goal.loop-j-preserved
loop-j-preserved c = spheres_more _ _ _ c.loop-j.invariant c.put_sphere-state.ensures

pub returns : goal.returns
returns c = spheres_end _ _ _ (omega arith) c.loop-j-test.false c.loop-j.invariant
