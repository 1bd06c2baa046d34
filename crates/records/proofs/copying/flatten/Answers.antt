-- `records::copying::flatten` meets its contract.
use native.Mathlib.Omega.{arith}
use Rattle.records.proofs.FrontFilled.{filled_start, filled_next}
use Rattle.records.proofs.copying.flatten.Goals as goal

pub loop-i-init : goal.loop-i-init
loop-i-init c = filled_start _ c.told-items

pub loop-i-preserved : goal.loop-i-preserved
loop-i-preserved c = filled_next _ c.loop-i.invariant c.loop-i-test.true c.put.ensures
