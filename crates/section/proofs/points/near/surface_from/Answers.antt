-- `section::points::near::surface_from` meets its contract: a fold, from whatever start.
use native.Mathlib.Omega.{arith}
use mathlib.Core.Path.{◌∙◌}
use Rattle.section.proofs.profile.Fold.{upto_more, upto_end}
use Rattle.section.proofs.points.Surface.{step_at}
use Rattle.section.proofs.points.near.surface_from.Goals as goal

pub loop-k-preserved : goal.loop-k-preserved
loop-k-preserved c = λ a e. upto_more _ _ _ (c.loop-k.invariant a e) (c.surface_step-best.ensures ∙ step_at _ _ _ _)

pub returns : goal.returns
returns c = λ a e. upto_end _ _ _ (c.loop-k.invariant a e) _ (omega arith)
