-- `arith::roots::wide::Wide::square`. The square of a number of two digits of 28 bits.
use Rattle.std.proofs.Common.{arith}
use Rattle.arith.proofs.roots.Halves.{digits}
use Rattle.arith.proofs.roots.wide.Wide.square.Goals as goal

pub returns : goal.returns
returns c = let e = digits c.args.c in omega arith
