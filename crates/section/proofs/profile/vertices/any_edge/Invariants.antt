-- `section::profile::vertices::any_edge` meets its contract: a search, nothing found so far.
use mathlib.Core.Bool.{Bool, false}
use mathlib.Core.Path.{◌≡◌}
use Rattle.section.specs.profile.Vertices.{any, vertex_at, end_at}
use Rattle.section.specs.declared.profile.shapes.Vertex.{Vertex}
use Rattle.section.proofs.profile.vertices.any_edge.Given as goal

abbrev pub invariant-loop-k : goal.invariant-loop-k
invariant-loop-k g l =
    (t : Vertex → Vertex → Bool) → ((a b : Vertex) (r : Bool) → goal.F-post g l.test a b r → r ≡ t a b)
    → any (λ j. t (vertex_at l.s j) (end_at l.s j)) l.k ≡ false
