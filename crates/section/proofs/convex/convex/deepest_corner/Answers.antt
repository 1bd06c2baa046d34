-- `section::convex::convex::deepest_corner` meets its contract: a fold.
use mathlib.Core.Path.{refl}
use Rattle.section.specs.profile.Vertices.{upto}
use Rattle.section.proofs.profile.Fold.{upto_more}
use Rattle.section.proofs.convex.convex.deepest_corner.Goals as goal

pub loop-i-init : goal.loop-i-init
unfolding upto
loop-i-init c = refl

pub loop-i-preserved : goal.loop-i-preserved
loop-i-preserved c = upto_more _ _ _ c.loop-i.invariant c.deeper_corner-best.ensures
