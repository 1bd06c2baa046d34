-- `section::probes::probes::odd_probes` meets its contract: five folds at once.
use Rattle.section.specs.probes.Probes.{OddProbes}
use Rattle.section.proofs.probes.probes.odd_probes.Given as goal

abbrev pub invariant-loop-k : goal.invariant-loop-k
invariant-loop-k l = OddProbes l.s l.at l.k l.odd
