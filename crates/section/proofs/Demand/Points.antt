-- Point and sphere distance: bounded where some vertex is off the axis, and otherwise +infinity with the first vertex
-- as witness.
use Prim.Native.Nat.{ℕ, ◌<◌}
use mathlib.Core.Bool.{Bool, true, false, not, ◌||◌, cond}
use mathlib.Core.List.{List}
use mathlib.Core.Path.{◌≡◌, refl}
use lib.Dec.{T, T_not}
use lib.Ieee.{Float, binary64, neg}
use Rattle.arith.specs.F64.{◌≺◌, ◌≼◌, 𝟘, ∞, e_9, e_12}
use Rattle.arith.specs.Num.{abs, is_finite}
use Rattle.arith.specs.declared.vector.Vec3.{Vec3}
use Rattle.arith.proofs.Laws.Extended.{infinity_less}
use Rattle.arith.proofs.Laws.Sizes.{Finite, neg_finite, zero_finite, finite_ends}
use Rattle.section.proofs.profile.Steps.{any_found, any_not, pick, upto_keeps, upto_reaches}
use Rattle.section.specs.Demand.{AtMost, off_axis}
use Rattle.section.specs.points.Points.{in_section, meridian, point_distance, sphere_distance, edge_is_surface, surface_near}
use Rattle.section.specs.points.Points.{surface_step}
use Rattle.section.specs.segments.Segments.{closest}
use Rattle.section.specs.profile.Vertices.{count, edge_at, end_at, hit, nearer, next, on, vertex_at}
use Rattle.section.specs.declared.profile.shapes.CollisionHit.{CollisionHit}
use Rattle.section.specs.declared.profile.shapes.Sphere.{Sphere}
use Rattle.section.specs.declared.profile.shapes.Vertex.{Vertex}
use Rattle.section.proofs.Demand.Bounds.{finite_at_most, hypot_at_most, sub_at_most}
use Rattle.section.proofs.Demand.Hits.{BestAtMost, edge_at_at_most, found, HitAtMost, nearer_new, next_below, none_yet}
use Rattle.section.proofs.Demand.Hits.{vertex_witness, VertexAtMost, VerticesAtMost, WitnessAtMost}
use Rattle.section.proofs.Demand.Segments.{closest_at_most}
use Rattle.section.proofs.Demand.AtMost.{at_most_raise}

first_vertex : {s : List Float} → VerticesAtMost 23 s → WitnessAtMost (count s) (on 0 (vertex_at s 0))
first_vertex S = vertex_witness S tt 0 S.some

-- a bounded hit where some vertex is off the axis, and otherwise +infinity with the first vertex, and edge 0
pub record OffAxisAtMost (n : ℕ) (s : List Float) (h : CollisionHit) : Type 0 where
  pub off : T (off_axis s) → HitAtMost n (count s) h
  pub on : T (not (off_axis s)) → h ≡ hit ∞ (on 0 (vertex_at s 0))

pub off_axis_best : {n : ℕ} {s : List Float} {h : CollisionHit} → VerticesAtMost 23 s → OffAxisAtMost n s h
    → BestAtMost n (count s) h
off_axis_best {n} {s} {h} S H = go (off_axis s) H.off H.on
  where
    go : (b : Bool) → (T b → HitAtMost n (count s) h) → (T (not b) → h ≡ hit ∞ (on 0 (vertex_at s 0))) → BestAtMost n (count s) h
    go true f g = found (f tt)
    go false f g = rw (g tt) (none_yet refl (first_vertex S))

-- vertex k is off the axis; an edge counts exactly where one of its ends is
abbrev off_at : List Float → ℕ → Bool
off_at s k = e_9 ≺ abs (vertex_at s k).r

off_counts : (s : List Float) (k : ℕ) → T (off_at s k) → T (not (edge_is_surface (vertex_at s k) (end_at s k))) → ⊥
off_counts s k = go (off_at s k) (off_at s (next (count s) k))
  where
    go : (a b : Bool) → T a → T (not (a || b)) → ⊥
    go true b h g = g
    go false b h g = h

counts_off : (s : List Float) (k : ℕ) → k < count s → T (not (off_axis s)) → T (edge_is_surface (vertex_at s k) (end_at s k)) → ⊥
unfolding off_axis
counts_off s k l h =
    let m = next (count s) k in
    go (off_at s k) (off_at s m) (any_not (off_at s) (count s) h k l)
    (any_not (off_at s) (count s) h m (next_below (count s) k l))
  where
    go : (a b : Bool) → (T a → ⊥) → (T b → ⊥) → T (a || b) → ⊥
    go true b f g = f
    go false b f g = g

-- ---- the closest point on the edges that count
module _ {s : List Float} (S : VerticesAtMost 23 s) {p : Vertex} (P : VertexAtMost 23 p) where
  closer : (k : ℕ) → k < count s → {b : CollisionHit} → BestAtMost 27 (count s) b
      → HitAtMost 27 (count s) (nearer b (closest p (edge_at s k)))
  closer k l B = nearer_new B (closest_at_most P (edge_at_at_most S k l))

  surface_near_off : T (off_axis s) → HitAtMost 27 (count s) (surface_near s p)
  unfolding surface_near surface_step off_axis
  surface_near_off h =
      let z = any_found (off_at s) (count s) h in
      upto_reaches (BestAtMost 27 (count s)) (HitAtMost 27 (count s)) (surface_step s p) (hit ∞ (on 0 (vertex_at s 0))) (count s)
      (none_yet refl (first_vertex S))
      (λ k l b B. pick (BestAtMost 27 (count s)) (counts k) (λ g. found (closer k l B)) (λ g. B))
      (λ k l b B. pick (HitAtMost 27 (count s)) (counts k) (λ g. closer k l (found B)) (λ g. B))
      z.0 z.1
      (λ b B. pick (HitAtMost 27 (count s)) (counts z.0) (λ g. closer z.0 z.1 B)
      (λ g. absurd (off_counts s z.0 z.2 g)))
    where
      counts : ℕ → Bool
      counts k = edge_is_surface (vertex_at s k) (end_at s k)

  surface_near_on : T (not (off_axis s)) → surface_near s p ≡ hit ∞ (on 0 (vertex_at s 0))
  unfolding surface_near surface_step
  surface_near_on h =
      upto_keeps None (surface_step s p) (hit ∞ (on 0 (vertex_at s 0))) (count s) refl
      (λ k l b B. pick None (edge_is_surface (vertex_at s k) (end_at s k)) (λ g. absurd (counts_off s k l h g)) (λ g. B))
    where
      None : CollisionHit → Type 0
      None b = b ≡ hit ∞ (on 0 (vertex_at s 0))

  -- ---- point distance
  pub point_at_most : OffAxisAtMost 27 s (point_distance s p)
  unfolding point_distance is_finite
  point_at_most =
      record {
        off = λ h. let N = surface_near_off h in record { distance = signed N.distance; witness = N.witness };
        on = λ h. rw (surface_near_on h);
      }
    where
      signed : {d : Float} → Finite 27 d
          → Finite 27 (cond (is_finite d) (cond (d ≼ e_12) 𝟘 (cond (in_section s p) (neg d) d)) ∞)
      signed {d} D =
          pick (Finite 27) (is_finite d)
          (λ h. pick (Finite 27) (d ≼ e_12) (λ k. zero_finite 27)
          (λ k. pick (Finite 27) (in_section s p) (λ l. neg_finite D) (λ l. D)))
          (λ h. absurd (T_not (is_finite d) h (finite_ends D)))

  pub point_best : BestAtMost 27 (count s) (point_distance s p)
  point_best = off_axis_best S point_at_most

-- ---- points of space and spheres: coordinates and radius up to 2 ^ 20
pub record Vec3AtMost (n : ℕ) (p : Vec3) : Type 0 where
  pub x : AtMost n p.x
  pub y : AtMost n p.y
  pub z : AtMost n p.z

pub meridian_at_most : {p : Vec3} → Vec3AtMost 20 p → VertexAtMost 23 (meridian p)
meridian_at_most P = record { z = at_most_raise P.z tt; r = at_most_raise (finite_at_most (hypot_at_most P.x P.y tt)) tt }

pub sphere_at_most : {s : List Float} → VerticesAtMost 23 s → {b : Sphere} → Vec3AtMost 20 b.center → AtMost 20 b.radius
    → OffAxisAtMost 28 s (sphere_distance s b)
unfolding sphere_distance
sphere_at_most {s} S {b} C R =
    let N = point_at_most S (meridian_at_most C) in
    record {
      off = λ h. record { distance = sub_at_most (finite_at_most (N.off h).distance) R tt; witness = (N.off h).witness };
      on = λ h. rw (N.on h, infinity_less b.radius R.ends binary64);
    }
