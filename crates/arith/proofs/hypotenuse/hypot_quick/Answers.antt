-- `arith::hypotenuse::hypot_quick`. The larger operand bounds both; below 2^52 the smaller one is too small to count.
use Rattle.std.proofs.Common.{arith}
use Rattle.arith.proofs.roots.Root.HypotCore.{either_way, far_bits, operands}
use Rattle.arith.proofs.hypotenuse.hypot_quick.Goals as goal

pub returns-then-big-2 : goal.returns-then-big-2
returns-then-big-2 c = record {
  p_fine = omega arith;
  q_fine = omega arith;
  hypot_is = either_way _ _ _ (rw (← c.max-big.ensures, ← c.min-small.ensures)
      (far_bits _ _ (rw (c.max-big.ensures, c.min-small.ensures) (operands _ _ (omega arith) (omega arith))) (omega arith)));
}
