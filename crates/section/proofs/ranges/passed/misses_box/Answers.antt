-- `section::ranges::passed::misses_box` meets its contract: along one axis.
use mathlib.Core.Path.{sym, ◌∙◌}
use Rattle.section.proofs.ranges.Missed.{missed_r, missed_z}
use Rattle.section.proofs.ranges.passed.misses_box.Goals as goal

pub returns-then-misses_along : goal.returns-then-misses_along
returns-then-misses_along c = λ t. missed_z _ _ _ (sym c.misses_along.ensures ∙ c.if-misses_along.true)

pub returns-else-misses_along : goal.returns-else-misses_along
returns-else-misses_along c = λ t. missed_r _ _ _ (sym c.misses_along-else-misses_along.ensures ∙ t)
