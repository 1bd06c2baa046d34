-- Where none of a box's five probes lies inside the section there is no penetration. By the law that a point outside is not
-- below 0.
use mathlib.Core.Bool.{false, true}
use mathlib.Core.List.{List}
use mathlib.Core.Path.{◌≡◌, refl}
use lib.Ieee.{Float, le, of_bits}
use Rattle.arith.specs.F64.{𝟘}
use Rattle.section.specs.profile.Vertices.{hit, upto}
use Rattle.section.specs.declared.profile.shapes.Aabb.{Aabb}
use Rattle.section.specs.declared.profile.shapes.Witness.{Witness}
use Rattle.section.specs.points.Points.{in_section}
use Rattle.section.proofs.points.Outside.{point_outside}
use Rattle.section.specs.boxes.Boxes.{box_penetration, probe}

pub no_penetration : (s : List Float) (x : Aabb) (w : Witness) → in_section s (probe x 0) ≡ false → in_section s (probe x 1) ≡ false
    → in_section s (probe x 2) ≡ false → in_section s (probe x 3) ≡ false → in_section s (probe x 4) ≡ false
    → hit 𝟘 w ≡ box_penetration s x w
unfolding box_penetration upto le of_bits
no_penetration s x w i₀ i₁ i₂ i₃ i₄ =
    rw (
      point_outside 𝟘 low s (probe x 0) i₀,
      point_outside 𝟘 low s (probe x 1) i₁,
      point_outside 𝟘 low s (probe x 2) i₂,
      point_outside 𝟘 low s (probe x 3) i₃,
      point_outside 𝟘 low s (probe x 4) i₄,
    )
  where
    low : le 𝟘 𝟘 ≡ true
    low = refl
