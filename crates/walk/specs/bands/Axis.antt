-- 01's axis test, with 02's third direction.
use Rattle.std.specs.Prelude.{◌&&◌, cond}
use Rattle.arith.specs.F64.{◌⊖◌, ◌⊘◌, ◌≼◌, 𝟘, 𝟙, e_8}
use Rattle.arith.specs.Num.{abs}
use Rattle.arith.specs.Vector.{vec, subtract, scale_by, norm}
use Rattle.arith.specs.declared.vector.Vec3.{Vec3}
use Rattle.walk.specs.declared.bands.shapes.Cylinder.{Cylinder}
use Rattle.walk.specs.declared.bands.shapes.Axis.{Axis}
use Rattle.walk.specs.declared.bands.shapes.Axis.TheVariants.{Axial, AlongX, AlongY, Neither}

-- 01's `axis_dir` divides by length, by its reciprocal; length 0 counts as along z
unfoldable pub axis_dir : Cylinder → Vec3
axis_dir c =
    let d = subtract c.b c.a in
    let l = norm d in
    cond (l ≼ 𝟘) (vec 𝟘 𝟘 𝟙) (scale_by d (𝟙 ⊘ l))

-- |dir z| ≥ 1 - 1e-8 is axial; |dir z| ≤ 1e-8 with |dir x| ≥ 1 - 1e-8 is radial along X, with |dir y| ≥ 1 - 1e-8 along Y
unfoldable pub axis : Cylinder → Axis
axis c =
    let d = axis_dir c in
    let most = 𝟙 ⊖ e_8 in
    cond (most ≼ abs d.z) Axial
    (cond ((abs d.z ≼ e_8) && (most ≼ abs d.x)) AlongX
    (cond ((abs d.z ≼ e_8) && (most ≼ abs d.y)) AlongY Neither))
