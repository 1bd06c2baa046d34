-- A point outside the section has no distance below 0, so that it lowers nothing that is at most 0. By the signs alone.
use mathlib.Core.Bool.{Bool, true, false, cond}
use mathlib.Core.List.{List}
use mathlib.Core.Path.{◌≡◌, refl}
use lib.Ieee.{Float, of_bits}
use Rattle.arith.specs.F64.{◌≺◌, ◌≼◌, 𝟘, ∞, e_12}
use Rattle.arith.specs.Num.{is_finite}
use Rattle.arith.proofs.Laws.Upright.{not_below, over_upright}
use Rattle.section.specs.declared.profile.shapes.Vertex.{Vertex}
use Rattle.section.specs.points.Points.{in_section, surface_near, point_distance}

module _ (b : Float) (low : (b ≼ 𝟘) ≡ true) where
  -- 0, d where it is over 1e-12, or +infinity
  kept : (d : Float) (t u : Bool) → is_finite d ≡ t → (d ≼ e_12) ≡ u → (cond t (cond u 𝟘 d) ∞ ≺ b) ≡ false
  unfolding of_bits
  kept d true true f g = not_below 𝟘 b tt low
  kept d true false f g = not_below d b (over_upright d f g) low
  kept d false u f g = not_below ∞ b tt low

  pub point_outside : (s : List Float) (p : Vertex) → in_section s p ≡ false → ((point_distance s p).distance ≺ b) ≡ false
  unfolding point_distance
  point_outside s p e = rw e (kept (surface_near s p).distance _ _ refl refl)
