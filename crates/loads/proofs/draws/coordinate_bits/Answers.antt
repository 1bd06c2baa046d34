-- `loads::draws::coordinate_bits`. A coordinate is no NaN.
use Rattle.loads.proofs.Coordinates.{no_nan, coordinate_ranged}
use Rattle.loads.proofs.draws.coordinate_bits.Goals as goal

pub float_to_bits-result : goal.float_to_bits-result
float_to_bits-result c = rw c.coordinate.ensures (no_nan _ _ (coordinate_ranged _))

pub returns : goal.returns
returns c = rw c.coordinate.ensures
