-- `section::convex::convex::convex_near` meets its contract: a fold.
use native.Mathlib.Omega.{arith}
use Rattle.section.specs.profile.Vertices.{upto}
use Rattle.section.specs.convex.Convex.{convex_near}
use Rattle.section.proofs.profile.Fold.{upto_more, upto_end}
use Rattle.section.proofs.convex.convex.convex_near.Goals as goal

pub loop-k-init : goal.loop-k-init
unfolding upto
loop-k-init c = c.infinity-best.ensures

pub loop-k-preserved : goal.loop-k-preserved
loop-k-preserved c = upto_more _ _ _ c.loop-k.invariant c.closer_edge-best.ensures

pub returns : goal.returns
unfolding convex_near
returns c = upto_end _ _ _ c.loop-k.invariant _ (omega arith)
