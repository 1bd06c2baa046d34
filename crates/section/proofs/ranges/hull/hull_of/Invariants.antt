-- `section::ranges::hull::hull_of` meets its contract: a fold, and what each step learnt of its vertex.
use Prim.Native.Nat.{ℕ, ◌<◌}
use mathlib.Core.Path.{◌≡◌}
use Rattle.section.specs.profile.Vertices.{vertex_at}
use Rattle.section.specs.ranges.Hull.{hull_of, VertexHeld}
use Rattle.section.proofs.ranges.hull.hull_of.Given as goal

abbrev pub invariant-loop-k : goal.invariant-loop-k
invariant-loop-k l =
    (l.hull ≡ hull_of l.c l.k) × ((i : ℕ) → i < l.k → VertexHeld (vertex_at l.c i))
