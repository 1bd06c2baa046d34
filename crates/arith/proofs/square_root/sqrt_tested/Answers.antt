-- `arith::square_root::sqrt_tested`. What passes the test is the root.
use Rattle.std.proofs.Common.{arith}
use Rattle.arith.proofs.roots.Root.SqrtCore.{sqrt_checked}
use Rattle.arith.proofs.square_root.sqrt_tested.Goals as goal

pub returns : goal.returns
returns c = sqrt_checked _ _ _ _ _ _ (omega arith) (omega arith) c.radicand-z.ensures c.widened.ensures.value
    c.in_ok-r.ensures
