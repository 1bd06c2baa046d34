-- `bodies::pairs::refusal::section_refusal` meets its contract.
use mathlib.Core.Path.{refl, ◌∙◌}
use Rattle.section.specs.profile.Refusals.{axis_tests}
use Rattle.section.proofs.profile.Numbered.{above_zero, handed_on}
use Rattle.section.proofs.profile.Refusals.Ordered.{by_first, by_rest, or_else_none}
use Rattle.bodies.proofs.pairs.Together.{below_axis_lem, not_below_axis}
use Rattle.bodies.proofs.pairs.refusal.section_refusal.Goals as goal

pub returns-in_err-list_refusal : goal.returns-in_err-list_refusal
returns-in_err-list_refusal c =
    rw (handed_on c.from_residual.result c.from_residual.ensures)
    (by_first _ (axis_tests _) tt 0 c.in_err-list_refusal.ensures (above_zero _) ∙ or_else_none _)

pub returns-then-any_below_axis : goal.returns-then-any_below_axis
returns-then-any_below_axis c =
    by_rest _ (axis_tests _) tt c.in_ok-list_refusal.ensures refl
    (below_axis_lem _ c.any_below_axis.ensures c.if-any_below_axis.true)

pub returns : goal.returns
returns c =
    by_rest _ (axis_tests _) tt c.in_ok-list_refusal.ensures refl
    (not_below_axis _ c.any_below_axis.ensures c.if-any_below_axis.false)
