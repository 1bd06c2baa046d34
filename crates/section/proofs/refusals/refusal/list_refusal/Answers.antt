-- `section::refusals::refusal::list_refusal` meets its contract.
use mathlib.Core.List.{append-nil}
use mathlib.Core.Path.{refl, sym, ◌∙◌}
use Rattle.section.specs.profile.Refusals.{number_tests}
use Rattle.section.proofs.profile.Numbered.{above_zero, handed_on}
use Rattle.section.proofs.profile.Refusals.Beyond.{none_refused}
use Rattle.section.proofs.profile.Refusals.Ordered.{by_first, by_rest, or_else_none}
use Rattle.section.proofs.refusals.refusal.list_refusal.Goals as goal

pub returns-in_err-shape_refusal : goal.returns-in_err-shape_refusal
returns-in_err-shape_refusal c =
    rw (handed_on c.from_residual.result c.from_residual.ensures) (by_first _ (number_tests _) tt 0 c.in_err-shape_refusal.ensures (above_zero _) ∙ or_else_none _)

pub returns-then-any_beyond_limit : goal.returns-then-any_beyond_limit
returns-then-any_beyond_limit c =
    by_rest _ (number_tests _) tt c.in_ok-shape_refusal.ensures refl (rw append-nil at c.numbers_refusal.ensures)

pub returns : goal.returns
returns c =
    by_rest _ (number_tests _) tt c.in_ok-shape_refusal.ensures refl
    (none_refused _ (sym c.any_beyond_limit.ensures ∙ c.if-any_beyond_limit.false))
