-- `section::convex::convex::convex_penetration` meets its contract: a fold, from the deepest convex vertex on.
use mathlib.Core.Path.{◌≡◌}
use Rattle.section.specs.profile.Vertices.{on, hit, vertex_at, nearest_of}
use Rattle.section.specs.convex.Convex.{signed_distance_convex}
use Rattle.section.proofs.convex.convex.convex_penetration.Given as goal

abbrev pub invariant-loop-j : goal.invariant-loop-j
invariant-loop-j l = l.best ≡ nearest_of (λ k. hit (signed_distance_convex l.c (vertex_at l.s k)) (on k (vertex_at l.s k))) l.initial.best l.j
