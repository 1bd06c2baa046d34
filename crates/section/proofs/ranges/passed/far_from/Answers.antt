-- `section::ranges::passed::far_from` meets its contract: both computed ends lie as far to one side.
use mathlib.Core.Path.{sym, ◌∙◌}
use Rattle.section.proofs.ranges.FarApart.{far_over, far_under}
use Rattle.section.proofs.ranges.passed.far_from.Goals as goal

pub returns-then-end-x : goal.returns-then-end-x
returns-then-end-x c = λ t. far_over _ _ _ _ (sym c.is_finite.ensures ∙ t) c.if-a-x.true c.if-end-x.true

pub returns-then-x-end : goal.returns-then-x-end
returns-then-x-end c = λ t. far_under _ _ _ _ (sym c.is_finite-then-x-end.ensures ∙ t) c.if-x-a.true c.if-x-end.true
