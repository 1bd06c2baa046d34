-- `arith::hypotenuse::sticky`. The square's digits that a shift loses are those of its lower limb.
use Rattle.std.proofs.Common.{arith}
use Rattle.arith.proofs.roots.Root.HypotSticky.{sticky_told}
use Rattle.arith.proofs.hypotenuse.sticky.Goals as goal

pub returns : goal.returns
returns c = sticky_told _ _ c.square-q.result (omega arith) c.square-q.ensures
