-- `section::ranges::likely::edge_to_nearest` meets its contract: it names an edge.
use Prim.Native.Nat.{◌<◌}
use Rattle.section.proofs.ranges.likely.edge_to_nearest.Given as goal

abbrev pub invariant-loop-k : goal.invariant-loop-k
invariant-loop-k g l = l.near < l.n
