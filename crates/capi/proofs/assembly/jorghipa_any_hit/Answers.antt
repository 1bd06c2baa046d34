-- `capi::assembly::jorghipa_any_hit` meets its contract.
use Rattle.capi.proofs.handing.Same.{gives}
use Rattle.capi.proofs.assembly.jorghipa_any_hit.Goals as goal

pub returns : goal.returns
returns c = gives c.any_hit_of.ensures c.judge.ensures
