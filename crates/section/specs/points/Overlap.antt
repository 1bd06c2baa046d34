-- The result of a body that may overlap the section: what boxes and convex bodies share.
use Rattle.std.specs.Prelude.{Bool, cond, Float}
use Rattle.std.specs.Float.Ieee.{neg}
use Rattle.arith.specs.F64.{◌≺◌, ◌≼◌, 𝟘, e_8, e_9, e_12}

-- the result of a body: penetration below -1e-9, or -1e-8 where it overlaps otherwise, or the gap, 0 if ≤ 1e-12
unfoldable pub result_of : Float → Bool → Float → Float
result_of penetration overlaps gap =
    cond (penetration ≺ neg e_9) penetration (cond overlaps (neg e_8) (cond (gap ≼ e_12) 𝟘 gap))
