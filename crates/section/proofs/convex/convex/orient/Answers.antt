-- `section::convex::convex::orient` meets its contract.
use mathlib.Core.Path.{refl}
use Rattle.section.specs.convex.Convex.{orient}
use Rattle.section.proofs.convex.convex.orient.Goals as goal

pub returns : goal.returns
unfolding orient
returns c = refl
