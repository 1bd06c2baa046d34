-- `section::refusals::refusal::alone_refusal` meets its contract.
use mathlib.Core.List.{[], append-nil}
use mathlib.Core.Path.{refl, sym, ◌∙◌}
use Rattle.section.specs.profile.Refusals.{number_tests}
use Rattle.section.proofs.profile.Numbered.{is_above, is_none}
use Rattle.section.proofs.profile.Refusals.Beyond.{none_refused}
use Rattle.section.proofs.profile.Refusals.Ordered.{by_first, by_own, no_settings, or_else_second}
use Rattle.section.proofs.refusals.refusal.alone_refusal.Goals as goal

pub returns-then-is_refused : goal.returns-then-is_refused
returns-then-is_refused g c =
    let e = c.of-of_body.ensures ∙ c.numbers_refusal.ensures in
    by_first (number_tests _) [] tt _ (rw append-nil at e) (is_above c.is_refused.ensures c.if-is_refused.true)

pub returns-then-any_beyond_limit : goal.returns-then-any_beyond_limit
returns-then-any_beyond_limit g c =
    let e = c.of-of_body.ensures ∙ c.numbers_refusal.ensures in
    by_own (number_tests _) [] tt _ (rw append-nil at e) (is_none c.is_refused.ensures c.if-is_refused.false) no_settings refl

pub returns : goal.returns
returns g c = or_else_second _ _ (sym (none_refused _ (sym c.any_beyond_limit.ensures ∙ c.if-any_beyond_limit.false)))
