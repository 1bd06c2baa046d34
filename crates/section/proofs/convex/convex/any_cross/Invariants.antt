-- `section::convex::convex::any_cross` meets its contract: while it searches, no row below i has a proper crossing, and no
-- edge below j in row i.
use mathlib.Core.Bool.{false}
use mathlib.Core.Path.{◌≡◌}
use Rattle.section.specs.profile.Vertices.{vertex_at, end_at, any}
use Rattle.section.specs.convex.Convex.{proper_cross, row_crossing}
use Rattle.section.proofs.convex.Carried.{SideAt}
use Rattle.section.proofs.convex.convex.any_cross.Given as goal

abbrev pub invariant-loop-j : goal.invariant-loop-j
invariant-loop-j l =
    (l.found ≡ false)
    × (any (λ k. proper_cross l.a l.b (vertex_at l.s k) (end_at l.s k)) l.j ≡ false)
    × SideAt l.s l.a l.b l.j l.side

abbrev pub invariant-search : goal.invariant-search
invariant-search l = (l.found ≡ false) × (any (row_crossing l.c l.s) l.i ≡ false)
