-- `walk::walker::walker::walk_with`. The locals are a state of the definition's walk, from start to end.
use Prim.Native.Nat.{◌-◌}
use Rattle.walk.specs.pieces.Steps.{pieces, Known}
use Rattle.walk.proofs.Loop.{State}
use Rattle.walk.proofs.walker.walker.walk_with.Given as goal

abbrev pub invariant-loop-part : goal.invariant-loop-part
invariant-loop-part l =
    record {
      state : State l.s l.b l.t.tolerance l.t.most l.t.intervals (pieces l.waiting) l.so_far;
      known : Known l.b l.right l.waiting;
    }

abbrev pub decreases-loop-part : goal.decreases-loop-part
decreases-loop-part l =
    l.t.most - l.so_far.boxes
