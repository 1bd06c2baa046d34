-- `bodies::trials::trying::try_move` meets its contract: a fold over the steps that the first refused one leaves.
use Rattle.bodies.proofs.moves.Turns.{SoFar}
use Rattle.bodies.proofs.trials.trying.try_move.Given as goal

abbrev pub invariant-loop-i : goal.invariant-loop-i
invariant-loop-i l = SoFar l.section l.body l.clearance l.travel l.settings l.report l.i
