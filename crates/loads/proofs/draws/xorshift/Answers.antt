-- `loads::draws::xorshift` is its definition.
use mathlib.Core.Path.{refl}
use Rattle.loads.specs.Xorshift.{xorshift}
use Rattle.loads.proofs.draws.xorshift.Goals as goal

pub returns : goal.returns
unfolding xorshift
returns c = refl
