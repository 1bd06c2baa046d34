-- No distance of a point is a NaN, whatever the numbers: the search starts with an infinity, and a NaN is never strictly smaller.
use mathlib.Core.List.{List}
use lib.Ieee.{Float, binary64}
use Rattle.arith.specs.F64.{◌≼◌, ∞, e_12}
use Rattle.arith.specs.Num.{is_finite}
use Rattle.arith.proofs.Laws.Extended.{neg_number}
use Rattle.arith.proofs.Laws.Sizes.{Number, cond_keeps, zero_number}
use Rattle.section.specs.profile.Vertices.{on, hit, count, vertex_at, end_at, edge_at}
use Rattle.section.specs.declared.profile.shapes.Vertex.{Vertex}
use Rattle.section.proofs.profile.Numbers.{NumberHit, infinite, nearer_number}
use Rattle.section.proofs.profile.Steps.{pick, upto_keeps}
use Rattle.section.specs.segments.Segments.{closest}
use Rattle.section.proofs.segments.Held.{closest_held}
use Rattle.section.specs.points.Points.{edge_is_surface, surface_step, surface_near, in_section, point_distance}

surface_number : (s : List Float) (p : Vertex) → NumberHit (surface_near s p)
unfolding surface_near surface_step
surface_number s p =
    upto_keeps NumberHit (surface_step s p) (hit ∞ (on 0 (vertex_at s 0))) (count s) infinite
    (λ k l x q. pick NumberHit (edge_is_surface (vertex_at s k) (end_at s k))
    (λ h. nearer_number x (closest p (edge_at s k)) q (closest_held p (edge_at s k))) (λ h. q))

pub point_number : (s : List Float) (p : Vertex) → NumberHit (point_distance s p)
unfolding point_distance
point_number s p =
    let d = (surface_near s p).distance in
    let h = surface_number s p in
    cond_keeps Number (is_finite d)
    (cond_keeps Number (d ≼ e_12) zero_number (cond_keeps Number (in_section s p) (neg_number binary64 d h) h)) infinite
