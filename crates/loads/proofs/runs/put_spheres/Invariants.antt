-- `loads::runs::put_spheres`. Four states go into a sphere in a turn.
use Prim.Native.Nat.{◌+◌, ◌*◌}
use Rattle.loads.specs.Xorshift.{state_after}
use Rattle.loads.specs.Load.{load_spheres}
use Rattle.loads.specs.Steps.{Drawn}
use Rattle.loads.proofs.runs.put_spheres.Given as goal

abbrev pub invariant-loop-j : goal.invariant-loop-j
invariant-loop-j l =
    Drawn l.initial.space (l.n * 40 + 40) (load_spheres l.state0 l.n l.j) l.space (state_after l.state0 (l.j * 4)) l.state
