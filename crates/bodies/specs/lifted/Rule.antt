-- 02's lifted witness of a body whose middle is at x and y.
use Rattle.std.specs.Prelude.{cond, Float}
use Rattle.std.specs.Float.{binary64}
use Rattle.std.specs.Float.Ieee.{eq}
use Rattle.arith.specs.F64.{◌⊗◌, ◌⊘◌, 𝟘}
use Rattle.arith.specs.Num.{max}
use Rattle.arith.specs.Vector.{vec}
use Rattle.arith.specs.declared.vector.Vec3.{Vec3}
use Rattle.arith.specs.roots.Roots.{hypot}
use Rattle.section.specs.declared.profile.shapes.Witness.{Witness}

-- with h = hypot(x, y): (radius·x/h, radius·y/h, z), multiplication first
abbrev pub towards : Float → Float → Float → Float → Float → Vec3
towards x y h radius z = vec (radius ⊗ x ⊘ h) (radius ⊗ y ⊘ h) z

-- h = 0 gives (radius, 0, z); a radius below 0 counts as 0
unfoldable pub lift : Float → Float → Witness → Vec3
lift x y w =
    let h = hypot binary64 x y in
    let radius = max w.r 𝟘 in
    cond (eq h 𝟘) (vec radius 𝟘 w.z) (towards x y h radius w.z)
