-- `section::convex::convex::deepest_corner` meets its contract: a fold.
use mathlib.Core.Path.{◌≡◌}
use Rattle.section.specs.profile.Vertices.{vertex_at, nearest_of}
use Rattle.section.specs.points.Points.{point_distance}
use Rattle.section.proofs.convex.convex.deepest_corner.Given as goal

abbrev pub invariant-loop-i : goal.invariant-loop-i
invariant-loop-i l = l.best ≡ nearest_of (λ k. point_distance l.s (vertex_at l.c k)) l.initial.best l.i
