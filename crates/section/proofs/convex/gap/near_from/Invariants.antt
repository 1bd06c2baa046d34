-- `section::convex::gap::near_from` meets its contract: the search leaves at the first edge that is not far.
use Prim.Native.Nat.{ℕ, ◌<◌}
use Rattle.section.specs.profile.Vertices.{vertex_at, end_at}
use Rattle.section.specs.ranges.Hull.{FarOff}
use Rattle.section.proofs.convex.gap.near_from.Given as goal

abbrev pub invariant-loop-j : goal.invariant-loop-j
invariant-loop-j l = (k : ℕ) → k < l.j → FarOff l.least (vertex_at l.s k) (end_at l.s k) l.hull
