-- `section::profile::vertices::any_edge` meets its contract: a search, nothing found so far.
use native.Mathlib.Omega.{arith}
use mathlib.Core.Path.{refl}
use Rattle.section.specs.profile.Vertices.{any}
use Rattle.section.proofs.profile.Fold.{any_more, any_end, any_at}
use Rattle.section.proofs.profile.vertices.any_edge.Goals as goal

pub loop-k-init : goal.loop-k-init
unfolding any
loop-k-init g c = λ t h. refl

pub returns-then-test : goal.returns-then-test
returns-then-test g c = λ t h. any_at _ _ _ c.loop-k-test.true (rw (← c.vertex_at.ensures, ← c.end_at.ensures) (h _ _ _ c.test.ensures)) c.if-test.true

pub loop-k-preserved : goal.loop-k-preserved
loop-k-preserved g c = λ t h. any_more _ _ (c.loop-k.invariant t h) (rw (← c.vertex_at.ensures, ← c.end_at.ensures) (h _ _ _ c.test.ensures)) c.if-test.false

pub returns : goal.returns
returns g c = λ t h. any_end _ _ (c.loop-k.invariant t h) _ (omega arith)
