-- `arith::Vec3::sub` meets its contract, component by component.
use Rattle.std.proofs.Common.{refl}
use Rattle.arith.proofs.vector.Vec3.sub.Goals as goal

pub returns : goal.returns
returns c = refl
