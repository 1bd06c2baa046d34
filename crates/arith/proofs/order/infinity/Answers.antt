-- `arith::order::infinity` meets its contract: the constant's bits are those of infinity.
use Rattle.std.proofs.Common.{refl}
use lib.Ieee.{of_bits}
use Rattle.arith.proofs.order.infinity.Goals as goal

pub returns : goal.returns
unfolding of_bits
returns c = refl
