-- Where the penetration is the result, what else overlaps is never asked. By the two cases of that test.
use mathlib.Core.Bool.{Bool, true, false, not, ◌&&◌, cond}
use mathlib.Core.Path.{◌≡◌, refl}
use lib.Ieee.{Float, neg}
use Rattle.arith.specs.F64.{◌≺◌, e_9}
use Rattle.section.specs.points.Overlap.{result_of}

unasked : (deep overlaps : Bool) (a b c : Float) →
    cond deep a (cond (not deep && overlaps) b c) ≡ cond deep a (cond overlaps b c)
unasked true overlaps a b c = refl
unasked false overlaps a b c = refl

pub result_asked : (p : Float) (overlaps : Bool) (gap : Float) →
    result_of p (not (p ≺ neg e_9) && overlaps) gap ≡ result_of p overlaps gap
unfolding result_of
result_asked p overlaps gap = unasked (p ≺ neg e_9) overlaps _ _ _
