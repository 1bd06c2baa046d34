-- `section::convex::convex::share_a_sign` meets its contract: each flag says whether a cross product of an edge below k
-- lies on its side, and not both are set.
use mathlib.Core.Bool.{false, ◌&&◌}
use mathlib.Core.Path.{◌≡◌}
use lib.Ieee.{neg}
use Rattle.arith.specs.F64.{◌≺◌, e_9}
use Rattle.section.specs.profile.Vertices.{vertex_at, end_at, any}
use Rattle.section.specs.convex.Convex.{orient}
use Rattle.section.proofs.convex.convex.share_a_sign.Given as goal

abbrev pub invariant-loop-k : goal.invariant-loop-k
invariant-loop-k l =
    (l.left ≡ any (λ j. e_9 ≺ orient (vertex_at l.c j) (end_at l.c j) l.p) l.k)
    × (l.right ≡ any (λ j. orient (vertex_at l.c j) (end_at l.c j) l.p ≺ neg e_9) l.k)
    × ((l.left && l.right) ≡ false)
