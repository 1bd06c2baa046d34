-- The distance of a point does not see the sign of a zero in its coordinates, nor how they are written: its tests come out the
-- same, and what divides is of the section alone.
use mathlib.Core.Bool.{◌&&◌, ◌||◌, Bool, not}
use mathlib.Core.List.{List}
use mathlib.Core.Path.{ap, refl, ◌∙◌, ◌≡◌}
use lib.Ieee.{binary64, Float, unlike}
use Rattle.arith.specs.F64.{◌⊕◌, ◌⊖◌, ◌≼◌, e_8, e_9, e_12, e_18}
use Rattle.arith.specs.Num.{abs, is_finite, max, min}
use Rattle.section.specs.profile.Vertices.{count, edge_at, end_at, vertex_at}
use Rattle.section.specs.declared.profile.shapes.Vertex.{Vertex}
use Rattle.section.specs.points.Points.{crosses, edge_is_surface, inside_axis_edge, in_section, point_distance, point_inside}
use Rattle.section.specs.points.Points.{surface_near, surface_step}
use Rattle.symmetry.specs.Alike.{Like, LikeHit, same, zeros}
use Rattle.symmetry.proofs.Floats.Like.{like_add, like_div, like_le, like_mul, like_neg}
use Rattle.symmetry.proofs.Section.Segments.{closest_like}
use Rattle.symmetry.proofs.Floats.Written.{equal_le_left, equal_lt, equal_sub, one}
use Rattle.symmetry.proofs.Section.Shapes.{any_same, branch, EqualVertex, nearer_like, either, same_hit, upto_like}

like_finite : {x y : Float} → Like x y → is_finite x ≡ is_finite y
unfolding is_finite
like_finite same = refl
like_finite zeros = refl

module _ (s : List Float) {p p' : Vertex} (P : EqualVertex p p') where
  surface_like : LikeHit (surface_near s p) (surface_near s p')
  unfolding surface_near surface_step
  surface_like =
      upto_like LikeHit same_hit
      (λ k x x' X. branch LikeHit (edge_is_surface (vertex_at s k) (end_at s k))
      (λ h. nearer_like X (closest_like (edge_at s k) P)) (λ h. X))
      (count s)

  crosses_like : (a b : Vertex) → crosses p a b ≡ crosses p' a b
  unfolding crosses
  crosses_like a b =
      by (not (abs (b.r ⊖ a.r) ≼ e_18)) (equal_lt P.r (one (same {x = a.r}))) (equal_lt P.r (one (same {x = b.r})))
      (equal_lt P.z
      (one (like_add binary64 (same {x = a.z})
      (like_div binary64 (b.r ⊖ a.r)
      (like_mul binary64 (same {x = b.z ⊖ a.z}) (equal_sub binary64 P.r (one (same {x = a.r}))))))))
    where
      by : (w : Bool) {t t' u u' v v' : Bool} → t ≡ t' → u ≡ u' → v ≡ v'
          → (unlike t u && (w && v)) ≡ (unlike t' u' && (w && v'))
      by w e f g = rw (e, f, g)

  inside_like : point_inside s p ≡ point_inside s p'
  unfolding point_inside
  inside_like =
      upto_like (λ (x y : Bool). x ≡ y) refl
      (λ k x x' e. ap (λ (t : Bool). unlike t (crosses p (vertex_at s k) (end_at s k))) e
      ∙ ap (unlike x') (crosses_like (vertex_at s k) (end_at s k)))
      (count s)

  axis_edge_like : (a b : Vertex) → inside_axis_edge p.z a b ≡ inside_axis_edge p'.z a b
  unfolding inside_axis_edge
  axis_edge_like a b =
      ap (λ (t : Bool). not (edge_is_surface a b) && t)
      (by (equal_lt (one (same {x = min a.z b.z ⊕ e_9})) P.z)
      (equal_lt P.z (one (same {x = max a.z b.z ⊖ e_9}))))
    where
      by : {t t' u u' : Bool} → t ≡ t' → u ≡ u' → (t && u) ≡ (t' && u')
      by e f = rw (e, f)

  in_section_like : in_section s p ≡ in_section s p'
  unfolding in_section
  in_section_like =
      by inside_like (equal_le_left e_8 P.r)
      (any_same (λ k. axis_edge_like (vertex_at s k) (end_at s k)) (count s))
    where
      by : {t t' u u' v v' : Bool} → t ≡ t' → u ≡ u' → v ≡ v' → (t || (u && v)) ≡ (t' || (u' && v'))
      by e f g = rw (e, f, g)

  pub point_like : LikeHit (point_distance s p) (point_distance s p')
  unfolding point_distance
  point_like =
      let n = surface_like in
      record {
        distance = either Like (like_finite n.distance)
            (λ h. either Like (like_le n.distance (same {x = e_12})) (λ k. same)
            (λ k. either Like in_section_like (λ l. like_neg n.distance) (λ l. n.distance)))
            (λ h. same);
        witness = n.witness;
      }
