-- Vectors of three f64, by component.
use Rattle.std.specs.Prelude.{Float}
use Rattle.std.specs.Float.{binary64}
use Rattle.arith.specs.F64.{◌⊖◌, ◌⊗◌}
use Rattle.arith.specs.roots.Roots.{hypot}
use Rattle.arith.specs.declared.vector.Vec3.{Vec3}

abbrev pub vec : Float → Float → Float → Vec3
vec x y z = record { x = x; y = y; z = z }

abbrev pub subtract : Vec3 → Vec3 → Vec3
subtract a b = vec (a.x ⊖ b.x) (a.y ⊖ b.y) (a.z ⊖ b.z)

abbrev pub scale_by : Vec3 → Float → Vec3
scale_by a k = vec (a.x ⊗ k) (a.y ⊗ k) (a.z ⊗ k)

-- 01's Vec3 length: hypot(hypot(x, y), z)
abbrev pub norm : Vec3 → Float
norm a = hypot binary64 (hypot binary64 a.x a.y) a.z
