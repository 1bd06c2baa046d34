-- `arith::Vec3::scale` meets its contract, component by component.
use Rattle.std.proofs.Common.{refl}
use Rattle.arith.proofs.vector.Vec3.scale.Goals as goal

pub returns : goal.returns
returns c = refl
