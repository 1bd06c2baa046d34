-- `section::refusals::fine::numbers_fine` meets its contract.
use Rattle.arith.proofs.Laws.OrderHeld.{true→T}
use mathlib.Core.Path.{sym, ◌∙◌}
use Rattle.section.proofs.refusals.fine.numbers_fine.Goals as goal

pub returns-then-any_beyond_limit : goal.returns-then-any_beyond_limit
returns-then-any_beyond_limit c = λ t. absurd (true→T t)

pub returns-then-any_beyond_limit-2 : goal.returns-then-any_beyond_limit-2
returns-then-any_beyond_limit-2 c = λ t. absurd (true→T t)

pub returns-then-section_fine : goal.returns-then-section_fine
returns-then-section_fine c = λ t. record {
  section = c.section_fine.ensures c.if-section_fine.true;
  numbers_within = sym c.any_beyond_limit.ensures ∙ c.if-any_beyond_limit.false;
  extra_within = sym c.any_beyond_limit-then-section_fine.ensures ∙ c.if-any_beyond_limit-2.false;
}

pub returns : goal.returns
returns c = λ t. absurd (true→T t)
