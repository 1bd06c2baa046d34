-- `section::probes::probes::odd_probes` meets its contract: five folds at once.
use native.Mathlib.Omega.{arith}
use Rattle.section.proofs.probes.Parity.{at_first, at_last, one_more}
use Rattle.section.proofs.probes.probes.odd_probes.Goals as goal

pub loop-k-init : goal.loop-k-init
loop-k-init c = at_first _ _

pub loop-k-preserved : goal.loop-k-preserved
loop-k-preserved c = one_more _ _ _ c.loop-k.invariant c.odd_at-odd.ensures

pub returns : goal.returns
returns c = at_last _ _ _ _ (omega arith) c.loop-k.invariant
