-- `loads::draws::coordinate` is its definition; a remainder is small enough to be cast.
use native.Mathlib.Omega.{arith}
use mathlib.Core.Path.{refl}
use Rattle.loads.specs.Load.{coordinate}
use Rattle.loads.proofs.Coordinates.{whole_float}
use Rattle.loads.proofs.draws.coordinate.Goals as goal

pub int_to_float-result : goal.int_to_float-result
int_to_float-result c = whole_float _ (omega arith)

pub returns : goal.returns
unfolding coordinate
returns c = refl
