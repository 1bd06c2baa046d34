-- f64 holds every distance of an edge from a box, which is 0 or one of two segments.
use Prim.Native.Nat.{ℕ}
use lib.Ieee.{binary64}
use Rattle.arith.specs.F64.{𝟘, ∞}
use Rattle.arith.proofs.Laws.OrderHeld.{number_held}
use Rattle.arith.proofs.Laws.Sizes.{zero_number}
use Rattle.section.specs.profile.Vertices.{on, hit, nearest_of, vertex_at, end_at}
use Rattle.section.specs.declared.profile.shapes.Aabb.{Aabb}
use Rattle.section.specs.declared.profile.shapes.CollisionHit.{CollisionHit}
use Rattle.section.specs.declared.profile.shapes.Edge.{Edge}
use Rattle.section.proofs.profile.Numbers.{Held, infinite, nearest_number}
use Rattle.section.proofs.profile.Steps.{pick_some}
use Rattle.section.specs.segments.Clip.{clip}
use Rattle.section.specs.segments.Segments.{segments}
use Rattle.section.proofs.segments.Held.{segments_held}
use Rattle.section.specs.boxes.Boxes.{corners, edge_box}

pub edge_held : (x : Aabb) (e : Edge) → Held (edge_box x e)
unfolding edge_box
edge_held x e =
    pick_some Held (clip x e.a e.b) (λ c h. number_held binary64 𝟘 zero_number)
    (λ h. number_held binary64 (nearest_of side none 4).distance
    (nearest_number side none 4 infinite (λ k. segments_held e (vertex_at (corners x) k) (end_at (corners x) k))))
  where
    side : ℕ → CollisionHit
    side k = segments e (vertex_at (corners x) k) (end_at (corners x) k)

    none : CollisionHit
    none = hit ∞ (on e.number e.a)
