-- `capi::verdict::jorghipa_verdict_sphere` meets its contract: the verdict's case in the lent place.
use Rattle.capi.proofs.handing.Same.{gives}
use Rattle.capi.proofs.verdict.jorghipa_verdict_sphere.Goals as goal

pub returns : goal.returns
returns c = gives c.verdict_sphere-verdict.ensures c.judge.ensures
