-- CLEAR OF THE SOLID, for spheres: a sphere's reported distance, with its radius added exactly, exceeds the distance from its
-- centre to no point of the section by more than 112 u; and where the verdict is clear, the clearance and the radius, less 1e-9,
-- do so by no more than 125 u.
use Prim.Native.Nat.{◌*◌, ◌+◌, ◌-◌, ◌<◌, ◌^◌, suc, ℕ, ◌≤◌}
use mathlib.Core.Bool.{Bool, false, not, true}
use mathlib.Core.List.{List}
use mathlib.Core.Path.{◌≡◌, refl, subst, sym}
use native.Mathlib.Omega.{arith}
use lib.Dec.{T}
use lib.Ieee.{binary64, Float, prec}
use Rattle.arith.proofs.roots.Rounding.Key.{number, unit}
use Rattle.arith.specs.F64.{◌⊕◌, ◌≺◌, e_9}
use Rattle.arith.proofs.Laws.Bounded.{Bounded, overflow}
use Rattle.arith.proofs.Laws.Sizes.{K, M}
use Rattle.section.specs.profile.Vertices.{count, vertex_at}
use Rattle.section.specs.declared.profile.shapes.Sphere.{Sphere}
use Rattle.section.specs.declared.profile.shapes.Vertex.{Vertex}
use Rattle.section.specs.points.Points.{meridian, point_distance, sphere_distance}
use Rattle.section.specs.Demand.{off_axis}
use Rattle.truth.specs.Exact.{origin, place, units, units_of_sum}
use Rattle.truth.specs.Solid.{ClearOfSolid, plain}
use Rattle.truth.proofs.Points.Closest.{Fine, Within}
use Rattle.truth.proofs.Points.Distance.{point_bounded, point_true}
use Rattle.truth.proofs.Points.Spheres.{cleared, sum_units}
use Rattle.truth.proofs.Sides.Clear.{no_surface, nothing_inside, point_solid, solid_less}

module _ (e k : ℕ) (fine : Fine e k) (coarse : unit binary64 ≤ 2 ^ e * 2 ^ 1014)
    (wider : suc (suc (suc (suc (suc (prec binary64 + e))))) < overflow binary64) (s : List Float) (b : Sphere)
    (C : Within (suc e) (meridian b.center)) (c⁺ : M ≤ K (meridian b.center).r)
    (S : (m : ℕ) → m < count s → Within e (vertex_at s m)) (straight : T (plain s))
    (R : Bounded binary64 (prec binary64 + e) b.radius) where
  abbrev p : Vertex
  p = meridian b.center

  abbrev d : Float
  d = (point_distance s p).distance

  -- where there is a surface the point's distance is finite; where there is none, nothing counts
  solid_from : (δ w : ℕ) → (Bounded binary64 (prec binary64 + suc (suc (suc (suc e)))) d → w - δ ≤ units d - 77 * 2 ^ e)
      → ClearOfSolid δ w s p
  solid_from δ w h = go (off_axis s) refl
    where
      go : (o : Bool) → off_axis s ≡ o → ClearOfSolid δ w s p
      go true q =
          let o : T (off_axis s) = subst T (sym q) tt in
          let T' = point_true e k fine s p C S in
          solid_less (77 * 2 ^ e) δ (units d) w s p (h (point_bounded e k fine s p C S _ (T'.edge o) (T'.surface o)))
          (point_solid e k fine coarse s p C c⁺ S straight)
      go false q =
          let o : T (not (off_axis s)) = subst (λ x. T (not x)) (sym q) tt in
          record {
            surface = λ m l t. absurd (no_surface e s S straight o m l t);
            inside = λ n z r a t. absurd (subst T (nothing_inside e s S straight n z r o) t);
          }

  pub sphere_solid : ClearOfSolid (112 * 2 ^ e) (units_of_sum (sphere_distance s b).distance b.radius) s p
  sphere_solid = solid_from (112 * 2 ^ e) _ (λ D. less _ _ (2 ^ e) (sum_units e k fine wider s b C S R D))
    where
      less : (w d u : ℕ) → w ≤ d + 16 * u → w - 112 * u ≤ d - 77 * u
      less w d u h = omega arith

  pub verdict_solid : (clearance : Float) → T (number binary64 clearance)
      → T (not ((sphere_distance s b).distance ⊕ e_9 ≺ clearance))
      → suc (suc (suc (suc (suc (suc (prec binary64 + e)))))) < overflow binary64 → Bounded binary64 (prec binary64 + e) e_9
      → ClearOfSolid (125 * 2 ^ e) (place clearance + place b.radius - (origin + place e_9)) s p
  verdict_solid c C' h room nine = solid_from (125 * 2 ^ e) _ (λ D. less _ _ _ (2 ^ e)
      (cleared e k fine wider s b C S R c C' h room nine D) (sum_units e k fine wider s b C S R D))
    where
      less : (w v d u : ℕ) → w ≤ v + 32 * u → v ≤ d + 16 * u → w - 125 * u ≤ d - 77 * u
      less w v d u h g = omega arith
