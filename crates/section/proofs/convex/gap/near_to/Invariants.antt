-- `section::convex::gap::near_to` meets its contract: the search, from the end, leaves at the first edge that is not far.
use Prim.Native.Nat.{ℕ, ◌<◌, ◌≤◌}
use Rattle.section.specs.profile.Vertices.{vertex_at, end_at}
use Rattle.section.specs.ranges.Hull.{FarOff}
use Rattle.section.proofs.convex.gap.near_to.Given as goal

abbrev pub invariant-loop-j : goal.invariant-loop-j
invariant-loop-j l = (k : ℕ) → l.j ≤ k → k < l.m → FarOff l.least (vertex_at l.s k) (end_at l.s k) l.hull
