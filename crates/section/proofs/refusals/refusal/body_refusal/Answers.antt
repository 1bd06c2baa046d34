-- `section::refusals::refusal::body_refusal` meets its contract.
use mathlib.Core.Path.{refl, ◌∙◌}
use Rattle.section.specs.profile.Refusals.{number_tests}
use Rattle.section.proofs.profile.Numbered.{is_above, is_none}
use Rattle.section.proofs.profile.Refusals.Beyond.{none_below, none_refused, none_within}
use Rattle.section.proofs.profile.Refusals.Ordered.{by_first, by_second, by_own, or_else_first, or_else_second}
use Rattle.section.proofs.refusals.refusal.body_refusal.Goals as goal

pub returns-then-is_refused : goal.returns-then-is_refused
returns-then-is_refused g c =
    by_first _ (number_tests _) tt _ (c.of-of_shape.ensures ∙ c.shape_refusal.ensures) (is_above c.is_refused.ensures c.if-is_refused.true)

pub returns-then-is_refused-2 : goal.returns-then-is_refused-2
returns-then-is_refused-2 g c =
    or_else_first _ _ (is_above c.is_refused-then-numbers_fine.ensures c.if-is_refused-2.true)
    ∙ by_own _ _ tt _ (c.of-of_shape.ensures ∙ c.shape_refusal.ensures) (is_none c.is_refused.ensures c.if-is_refused.false)
    (none_refused _ (none_within (c.numbers_fine.ensures c.if-numbers_fine.true))) refl

pub returns-then-numbers_fine : goal.returns-then-numbers_fine
returns-then-numbers_fine g c =
    let fine = c.numbers_fine.ensures c.if-numbers_fine.true in
    or_else_second _ _ (none_below _ fine.section.over)
    ∙ or_else_second _ _ (is_none c.is_refused-then-numbers_fine.ensures c.if-is_refused-2.false)
    ∙ by_own _ _ tt _ (c.of-of_shape.ensures ∙ c.shape_refusal.ensures) (is_none c.is_refused.ensures c.if-is_refused.false)
    (none_refused _ (none_within fine)) refl

pub returns-then-is_refused-3 : goal.returns-then-is_refused-3
returns-then-is_refused-3 g c =
    by_second _ _ tt _ (c.of-of_shape.ensures ∙ c.shape_refusal.ensures) (is_none c.is_refused.ensures c.if-is_refused.false)
    (c.of-of_numbers.ensures ∙ c.numbers_refusal.ensures) (is_above c.is_refused-2.ensures c.if-is_refused-3.true)

pub returns-then-is_refused-4 : goal.returns-then-is_refused-4
returns-then-is_refused-4 g c =
    or_else_first _ _ (is_above c.is_refused-3.ensures c.if-is_refused-4.true)
    ∙ by_own _ _ tt _ (c.of-of_shape.ensures ∙ c.shape_refusal.ensures) (is_none c.is_refused.ensures c.if-is_refused.false)
    (c.of-of_numbers.ensures ∙ c.numbers_refusal.ensures) (is_none c.is_refused-2.ensures c.if-is_refused-3.false)

pub returns : goal.returns
returns g c =
    c.axis_refusal.ensures
    ∙ or_else_second _ _ (is_none c.is_refused-3.ensures c.if-is_refused-4.false)
    ∙ by_own _ _ tt _ (c.of-of_shape.ensures ∙ c.shape_refusal.ensures) (is_none c.is_refused.ensures c.if-is_refused.false)
    (c.of-of_numbers.ensures ∙ c.numbers_refusal.ensures) (is_none c.is_refused-2.ensures c.if-is_refused-3.false)
