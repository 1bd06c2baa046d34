-- `capi::verdict::jorghipa_verdict_cylinder` meets its contract: the verdict's case in the lent place.
use Rattle.capi.proofs.handing.Same.{gives}
use Rattle.capi.proofs.verdict.jorghipa_verdict_cylinder.Goals as goal

pub returns : goal.returns
returns c = gives (rw c.bar.ensures at c.verdict_cylinder-verdict.ensures) c.judge.ensures
