-- `section::refusals::refusal::any_beyond_limit` meets its contract.
use Rattle.std.proofs.Common.{rules}
use Rattle.section.specs.profile.Steps.{beyond_limit}
use Rattle.section.proofs.refusals.refusal.any_beyond_limit.Goals as goal

pub returns : goal.returns
returns c = c.any_number.ensures beyond_limit (λ x r p. search rules)
