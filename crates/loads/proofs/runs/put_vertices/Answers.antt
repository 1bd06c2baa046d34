-- `loads::runs::put_vertices`. Two states go into a vertex in a turn.
use native.Mathlib.Omega.{arith}
use Rattle.loads.proofs.Putting.{vertices_none, vertices_more, vertices_end}
use Rattle.loads.proofs.runs.put_vertices.Goals as goal

pub loop-i-init : goal.loop-i-init
loop-i-init c = vertices_none _ _

pub put_vertex-state-requires : goal.put_vertex-state-requires
put_vertex-state-requires c = omega arith

pub loop-i-preserved : goal.loop-i-preserved
loop-i-preserved c = vertices_more _ _ c.loop-i.invariant c.put_vertex-state.ensures

pub returns : goal.returns
returns c = vertices_end _ _ _ (omega arith) c.loop-i-test.false c.loop-i.invariant
