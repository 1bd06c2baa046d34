-- `section::convex::convex::any_cross` meets its contract: while it searches, no row below i has a proper crossing, and no
-- edge below j in row i.
use native.Mathlib.Omega.{arith}
use mathlib.Core.Path.{refl, sym, ap, ◌∙◌}
use Rattle.section.specs.profile.Vertices.{any}
use Rattle.section.specs.convex.Convex.{row_crossing, any_cross}
use Rattle.section.proofs.profile.Fold.{any_more, any_end, any_at}
use Rattle.section.proofs.convex.Carried.{starts_there}
use Rattle.section.proofs.convex.convex.any_cross.Goals as goal

pub search-init : goal.search-init
unfolding any
search-init c = (refl, refl)

pub loop-j-init : goal.loop-j-init
unfolding any
loop-j-init c = (
  c.search.invariant.0,
  refl,
  record { is = λ l. rw (← c.vertex_at.ensures) c.orient-side.ensures },
)

pub crosses_edge-requires : goal.crosses_edge-requires
crosses_edge-requires c = (
  c.loop-j-test.true,
  rw (← c.end_at.ensures, ← c.orient-next.ensures, ← c.loop-j.invariant.2.is c.loop-j-test.true),
)

pub loop-j-preserved : goal.loop-j-preserved
loop-j-preserved c =
    let inv = c.loop-j.invariant in (
      inv.0,
      any_more _ _ inv.1 c.crosses_edge.ensures c.if-crosses_edge.false,
      starts_there _ _ _ _ c.end_at.ensures c.orient-next.ensures,
    )

pub search-preserved : goal.search-preserved
unfolding row_crossing
search-preserved c = (
  c.loop-j.invariant.0,
  any_more _ _ c.search.invariant.1
      (rw (c.vertex_at-a.ensures, c.end_at-b.ensures) (ap (any _) (omega arith)))
      c.loop-j.invariant.1,
)

pub returns-after-search : goal.returns-after-search
unfolding any_cross
returns-after-search c = c.search.invariant.0 ∙ any_end _ _ c.search.invariant.1 _ (omega arith)

pub returns-then-crosses_edge : goal.returns-then-crosses_edge
unfolding any_cross row_crossing
returns-then-crosses_edge c =
    let cross = rw (c.vertex_at-a.ensures, c.end_at-b.ensures) at c.crosses_edge.ensures in
    any_at _ _ _ c.search-test.true refl
    (sym (any_at _ _ _ c.loop-j-test.true cross c.if-crosses_edge.true))
