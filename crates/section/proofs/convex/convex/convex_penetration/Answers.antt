-- `section::convex::convex::convex_penetration` meets its contract: a fold, from the deepest convex vertex on.
use native.Mathlib.Omega.{arith}
use mathlib.Core.Path.{refl}
use Rattle.section.specs.profile.Vertices.{upto}
use Rattle.section.specs.convex.Convex.{convex_penetration}
use Rattle.section.proofs.profile.Fold.{upto_more, upto_end}
use Rattle.section.proofs.convex.convex.convex_penetration.Goals as goal

pub loop-j-init : goal.loop-j-init
unfolding upto
loop-j-init c = refl

pub loop-j-preserved : goal.loop-j-preserved
loop-j-preserved c = upto_more _ _ _ c.loop-j.invariant c.deeper_vertex-best.ensures

pub returns : goal.returns
unfolding convex_penetration
returns c =
    rw (← c.deepest_corner-best.ensures)
    (upto_end _ _ _ c.loop-j.invariant _ (omega arith))
