-- `walk::samples::fraction` meets its contract.
use Rattle.walk.proofs.Sixteenths.{at_sixteen}
use Rattle.walk.proofs.samples.fraction.Goals as goal

pub returns-then-n-eq16 : goal.returns-then-n-eq16
returns-then-n-eq16 c = at_sixteen _ _ c.requires.1 c.if-n-eq16.true
