-- A cylinder with x and y exchanged has the direction with x and y exchanged, since a hypotenuse does not tell its legs apart.
-- So one along X is along Y and the reverse, as no cylinder is along both, and any other stays what it was.
use mathlib.Core.Bool.{Bool, true, false, ◌&&◌, cond}
use mathlib.Core.Path.{◌≡◌, ◌∙◌, ap, refl, subst, sym}
use lib.Dec.{T}
use lib.Ieee.{Float, binary64}
use Rattle.arith.specs.F64.{◌⊖◌, ◌⊘◌, ◌≼◌, 𝟘, 𝟙, e_8}
use Rattle.arith.specs.Num.{abs}
use Rattle.arith.specs.Vector.{vec, subtract, scale_by, norm}
use Rattle.arith.specs.declared.vector.Vec3.{Vec3}
use Rattle.arith.proofs.Laws.Hypot.{hypot_comm}
use Rattle.walk.specs.bands.Axis.{axis, axis_dir}
use Rattle.walk.specs.bands.Band.{exchange, exchanged}
use Rattle.walk.specs.declared.bands.shapes.Axis.{Axis}
use Rattle.walk.specs.declared.bands.shapes.Axis.TheVariants.{Axial, AlongX, AlongY, Neither}
use Rattle.walk.specs.declared.bands.shapes.Cylinder.{Cylinder}
use Rattle.walk.proofs.bands.Directions.{never_both}

pub exchanged_dir : (c : Cylinder) → axis_dir (exchanged c) ≡ exchange (axis_dir c)
unfolding axis_dir
exchanged_dir c =
    let d = subtract c.b c.a in
    rw (hypot_comm binary64 d.y d.x) (go (norm d ≼ 𝟘) d (𝟙 ⊘ norm d))
  where
    go : (t : Bool) (d : Vec3) (u : Float)
        → cond t (vec 𝟘 𝟘 𝟙) (scale_by (exchange d) u) ≡ exchange (cond t (vec 𝟘 𝟘 𝟙) (scale_by d u))
    go true d u = refl
    go false d u = refl

-- the answer by its tests: |dir z| is at least 1 - 1e-8, at most 1e-8; |dir x|, |dir y| at least 1 - 1e-8
abbrev along : Bool → Bool → Bool → Bool → Axis
along p q r s = cond p Axial (cond (q && r) AlongX (cond (q && s) AlongY Neither))

abbrev most : Float → Bool
most x = 𝟙 ⊖ e_8 ≼ abs x

abbrev least : Float → Bool
least z = abs z ≼ e_8

axis_is : (c : Cylinder)
    → axis c ≡ along (most (axis_dir c).z) (least (axis_dir c).z) (most (axis_dir c).x) (most (axis_dir c).y)
unfolding axis
axis_is c = refl

exchanged_is : (c : Cylinder) → axis (exchanged c)
    ≡ along (most (axis_dir c).z) (least (axis_dir c).z) (most (axis_dir c).y) (most (axis_dir c).x)
unfolding axis
exchanged_is c = subst (λ (d : Vec3). along (most d.z) (least d.z) (most d.x) (most d.y)
    ≡ along (most (axis_dir c).z) (least (axis_dir c).z) (most (axis_dir c).y) (most (axis_dir c).x))
    (sym (exchanged_dir c)) refl

-- ---- the directions, exchanged
abbrev pub swapped : Axis → Axis
swapped Axial = Axial
swapped AlongX = AlongY
swapped AlongY = AlongX
swapped Neither = Neither

-- not both tests hold, so their order does not matter
swap : (p q r s : Bool) → (T q → T r → T s → ⊥) → along p q s r ≡ swapped (along p q r s)
swap true q r s n = refl
swap false false r s n = refl
swap false true true true n = absurd (n tt tt tt)
swap false true true false n = refl
swap false true false true n = refl
swap false true false false n = refl

pub exchanged_axis : (c : Cylinder) → axis (exchanged c) ≡ swapped (axis c)
exchanged_axis c =
    let d = axis_dir c in
    exchanged_is c ∙ swap (most d.z) (least d.z) (most d.x) (most d.y) (never_both c)
    ∙ ap swapped (sym (axis_is c))
