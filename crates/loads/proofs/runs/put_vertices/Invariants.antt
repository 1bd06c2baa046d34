-- `loads::runs::put_vertices`. Two states go into a vertex in a turn.
use Prim.Native.Nat.{◌*◌}
use Rattle.loads.specs.Xorshift.{state_after}
use Rattle.loads.specs.Load.{load_vertices}
use Rattle.loads.specs.Steps.{Drawn}
use Rattle.loads.proofs.runs.put_vertices.Given as goal

abbrev pub invariant-loop-i : goal.invariant-loop-i
invariant-loop-i l =
    Drawn l.initial.space 40 (load_vertices l.seed l.i) l.space (state_after l.seed (l.i * 2)) l.state
