-- `section::probes::reach::reach_of` meets its contract.
use Rattle.section.proofs.probes.Radii.{everywhere}
use Rattle.section.proofs.probes.reach.reach_of.Goals as goal

pub returns : goal.returns
returns c = everywhere _ _ c.infinity-top.ensures
