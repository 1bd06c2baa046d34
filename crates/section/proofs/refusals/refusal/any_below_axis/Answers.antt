-- `section::refusals::refusal::any_below_axis` meets its contract.
use native.Mathlib.Omega.{arith}
use mathlib.Core.Path.{refl}
use Rattle.section.specs.profile.Vertices.{any}
use Rattle.section.specs.profile.Refusals.{any_below_axis}
use Rattle.section.proofs.profile.Fold.{any_more, any_end, any_at}
use Rattle.section.proofs.refusals.refusal.any_below_axis.Goals as goal

pub loop-k-init : goal.loop-k-init
unfolding any
loop-k-init c = refl

pub returns-then-l-k : goal.returns-then-l-k
unfolding any_below_axis
returns-then-l-k c = any_at _ _ _ c.loop-k-test.true refl c.if-l-k.true

pub loop-k-preserved : goal.loop-k-preserved
loop-k-preserved c = any_more _ _ c.loop-k.invariant refl c.if-l-k.false

pub returns : goal.returns
unfolding any_below_axis
returns c = any_end _ _ c.loop-k.invariant _ (omega arith)
