-- The side on which a section vertex lies, kept from one edge to the next: where an edge ends the next one starts.
use Prim.Native.Nat.{ℕ, ◌+◌, ◌<◌}
use native.Mathlib.Omega.{arith}
use mathlib.Core.Bool.{Bool, cond}
use mathlib.Core.List.{List}
use mathlib.Core.Path.{◌≡◌, ap, ◌∙◌}
use borrow.Author.Tests.{ne_eqb}
use lib.Ieee.{Float}
use Rattle.section.specs.profile.Vertices.{count, end_at, vertex_at}
use Rattle.section.specs.declared.profile.shapes.Vertex.{Vertex}
use Rattle.section.specs.convex.Convex.{orient}

-- the cross product at vertex k, where there is one
pub record SideAt (s : List Float) (a b : Vertex) (k : ℕ) (side : Float) : Type 0 where
  pub is : k < count s → side ≡ orient a b (vertex_at s k)

pub starts_there : (s : List Float) (k : ℕ) (a b : Vertex) {v : Vertex} {side : Float} → v ≡ end_at s k → side ≡ orient a b v
    → SideAt s a b (k + 1) side
starts_there s k a b e h = record {
  is = λ l. h ∙ ap (orient a b) e
      ∙ ap (λ (t : Bool). orient a b (vertex_at s (cond t 0 (k + 1)))) (ne_eqb (k + 1) (count s) (omega arith));
}
