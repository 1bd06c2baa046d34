-- `section::refusals::refusal::any_not_finite` meets its contract.
use Rattle.std.proofs.Common.{rules}
use Rattle.section.specs.profile.Refusals.{not_finite}
use Rattle.section.proofs.refusals.refusal.any_not_finite.Goals as goal

pub returns : goal.returns
returns c = c.any_number.ensures not_finite (λ x r p. search rules)
