-- `section::convex::gap::nearer_edge` meets its contract: an edge that lies far off is not nearer.
use mathlib.Core.Path.{subst, sym}
use Rattle.section.proofs.ranges.FarOff.{far_off_not_nearer}
use Rattle.section.proofs.ranges.HeldEdges.{HoldsEdge, edge_holds}
use Rattle.section.specs.declared.ranges.shapes.Sides.{Sides}
use Rattle.section.proofs.convex.gap.nearer_edge.Goals as goal

pub returns-then-far_off : goal.returns-then-far_off
returns-then-far_off c =
    let a = c.args.a in
    let b = c.args.b in
    rw (
      ← c.edge_at-edge.ensures,
      far_off_not_nearer c.args.best.distance c.edge_at-edge.result a b c.args.sides
          (subst (λ (g : Sides). HoldsEdge g a b) (sym c.requires.1)
          (edge_holds a b (record { z = c.well_formed.1.1.0.1.1.0.1; r = c.well_formed.1.1.0.1.1.1.0.1 })))
          (c.far_off.ensures c.if-far_off.true),
    )
