-- `section::refusals::refusal::convex_refusal` meets its contract.
use mathlib.Core.Path.{◌∙◌, refl, sym}
use Rattle.section.specs.profile.Refusals.{refusal, given_tests, number_tests, axis_tests}
use Rattle.section.proofs.profile.Numbered.{above_zero, handed_on}
use Rattle.section.proofs.profile.Refusals.Beyond.{none_below, none_refused, none_within_second}
use Rattle.section.proofs.profile.Refusals.Ordered.{by_first, by_second, by_own, or_else_none, refusal_append}
use Rattle.section.proofs.refusals.refusal.convex_refusal.Goals as goal

pub returns-in_err-shapes_refusal : goal.returns-in_err-shapes_refusal
returns-in_err-shapes_refusal c =
    rw (handed_on c.from_residual.result c.from_residual.ensures)
    (by_first _ (number_tests _) tt (refusal (axis_tests _)) c.in_err-shapes_refusal.ensures (above_zero _)
    ∙ sym (refusal_append (given_tests _ _) (axis_tests _) tt))

pub returns-then-numbers_fine : goal.returns-then-numbers_fine
returns-then-numbers_fine c =
    let fine = c.numbers_fine.ensures c.if-numbers_fine.true in
    sym (none_below _ fine.section.over)
    ∙ by_own _ _ tt _ c.in_ok-shapes_refusal.ensures refl
    (none_refused _ (none_within_second fine)) refl
    ∙ sym (refusal_append (given_tests _ _) (axis_tests _) tt)

pub returns-in_err-numbers_refusal : goal.returns-in_err-numbers_refusal
returns-in_err-numbers_refusal c =
    rw (handed_on c.from_residual-in_err-numbers_refusal.result c.from_residual-in_err-numbers_refusal.ensures)
    (by_second _ _ tt (refusal (axis_tests _)) c.in_ok-shapes_refusal.ensures refl
    c.in_err-numbers_refusal.ensures (above_zero _)
    ∙ sym (refusal_append (given_tests _ _) (axis_tests _) tt))

pub returns : goal.returns
returns c =
    c.axis_refusal.ensures
    ∙ or_else_none _
    ∙ by_own _ _ tt _ c.in_ok-shapes_refusal.ensures refl c.in_ok-numbers_refusal.ensures refl
    ∙ sym (refusal_append (given_tests _ _) (axis_tests _) tt)
