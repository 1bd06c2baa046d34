-- The closest point on the section is the first smallest of one for each edge, at +infinity where the edge does not count, so
-- that the likeliest edge may be tried first. By the cases of that test: nothing at +infinity is strictly smaller.
use Prim.Native.Nat.{ℕ, zero, suc, ◌+◌, ◌<◌}
use mathlib.Core.Bool.{Bool, true, false, cond}
use mathlib.Core.List.{List}
use mathlib.Core.Path.{◌≡◌, ap, refl, subst, sym, ◌∙◌}
use lib.Ieee.{Float}
use Rattle.arith.specs.F64.{◌≺◌, ∞}
use Rattle.arith.proofs.Laws.OrderHeld.{inf_not_less, number_held}
use Rattle.section.specs.profile.Vertices.{count, edge_at, end_at, hit, nearer, nearest_of, on, upto, vertex_at}
use Rattle.section.specs.declared.profile.shapes.CollisionHit.{CollisionHit}
use Rattle.section.specs.declared.profile.shapes.Edge.{Edge}
use Rattle.section.specs.declared.profile.shapes.Vertex.{Vertex}
use Rattle.section.specs.declared.profile.shapes.Witness.{Witness}
use Rattle.section.proofs.profile.Numbers.{Held, infinite}
use Rattle.section.proofs.profile.Steps.{pick}
use Rattle.section.specs.segments.Segments.{apart, closest, closest_point}
use Rattle.section.proofs.segments.Held.{closest_held}
use Rattle.section.specs.ranges.Search.{StartOver}
use Rattle.section.proofs.ranges.Nearest.{met_first}
use Rattle.section.specs.points.Points.{edge_is_surface, surface_near, surface_step}
use Rattle.section.specs.points.Steps.{no_edge, surface_at, SurfaceFrom}

kept : (t : Bool) (best : CollisionHit) → best ≡ cond t best best
kept true best = refl
kept false best = refl

far_kept : (t : Bool) (best new : CollisionHit) (w : Witness) → cond t (nearer best new) best ≡ nearer best (cond t new (hit ∞ w))
far_kept true best new w = refl
far_kept false best new w = rw (inf_not_less best.distance)

module _ (s : List Float) (p : Vertex) where
  at_held : (k : ℕ) → Held (surface_at s p k)
  at_held k =
      pick Held (edge_is_surface (vertex_at s k) (end_at s k)) (λ h. closest_held p (edge_at s k)) (λ h. number_held _ ∞ infinite)

  -- edge k, which is e, is not smaller than the best and leaves it, whether it counts or not
  pub unmoved : (k : ℕ) (best : CollisionHit) {e : Edge} → e ≡ edge_at s k
      → (apart p (closest_point p e.a e.b) ≺ best.distance) ≡ false → best ≡ surface_step s p k best
  unfolding surface_step closest
  unmoved k best {e} i f =
      rw (subst (λ (x : Edge). (apart p (closest_point p x.a x.b) ≺ best.distance) ≡ false) i f)
      (kept (edge_is_surface (vertex_at s k) (end_at s k)) best)

  pub step_at : (k : ℕ) (best : CollisionHit) → surface_step s p k best ≡ nearer best (surface_at s p k)
  unfolding surface_step
  step_at k best = far_kept (edge_is_surface (vertex_at s k) (end_at s k)) best (closest p (edge_at s k)) _

  steps_at : (a : CollisionHit) (n : ℕ) → upto (surface_step s p) a n ≡ nearest_of (surface_at s p) a n
  unfolding upto
  steps_at a zero = refl
  steps_at a (suc n) =
      step_at n (upto (surface_step s p) a n) ∙ ap (λ (b : CollisionHit). nearer b (surface_at s p n)) (steps_at a n)

  -- what edge k, which is e, makes of the best
  pub stepped : (k : ℕ) (best r : CollisionHit) {e : Edge} {counts : Bool} → e ≡ edge_at s k
      → counts ≡ edge_is_surface e.a e.b → r ≡ cond counts (nearer best (closest p e)) best → r ≡ surface_step s p k best
  unfolding surface_step
  stepped k best r {e} i c f =
      subst (λ (x : Edge). r ≡ cond (edge_is_surface x.a x.b) (nearer best (closest p x)) best) i
      (f ∙ ap (λ (t : Bool). cond t (nearer best (closest p e)) best) c)

  module _ (none : CollisionHit) (i : none ≡ no_edge s) where
    -- all edges in turn
    pub surface_in_turn : {r : CollisionHit} → r ≡ upto (surface_step s p) none (count s) → r ≡ surface_near s p
    unfolding surface_near
    surface_in_turn e = e ∙ ap (λ (a : CollisionHit). upto (surface_step s p) a (count s)) i

    -- edge k is met first
    pub surface_met_first : (k : ℕ) → k < count s → (first start : CollisionHit) {before best r : CollisionHit}
        → first ≡ surface_step s p k (no_edge s) → StartOver first none start → SurfaceFrom s p 0 k start before
        → best ≡ nearer before first → SurfaceFrom s p (k + 1) (count s) best r → r ≡ surface_near s p
    unfolding surface_near
    surface_met_first k l first start f o b n g =
        met_first (surface_at s p) at_held _ k (count s) l none first start i
        (f ∙ step_at k (no_edge s) ∙ ap (λ (h : CollisionHit). nearer h (surface_at s p k)) (sym i)) o b n g
        ∙ sym (steps_at (hit ∞ (on 0 (vertex_at s 0))) (count s))
