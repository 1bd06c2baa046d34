-- `section::boxes::gap::passed_over` meets its contract: z tells, or its legs are hopeless, and no clip is left.
use mathlib.Core.Path.{refl}
use Rattle.arith.proofs.Laws.OrderHeld.{true→T}
use Rattle.section.proofs.ranges.Apart.{gap_plus}
use Rattle.section.proofs.boxes.Passed.{passed}
use Rattle.section.proofs.boxes.gap.passed_over.Goals as goal

pub hopeless-requires : goal.hopeless-requires
hopeless-requires c = (
  rw c.gap_between-z.ensures (gap_plus _ _),
  rw c.gap_between-r.ensures (gap_plus _ _),
)

pub returns-then-hopeless : goal.returns-then-hopeless
returns-then-hopeless c =
    λ t. passed _ _
    (record {
      a_z = true→T c.well_formed.0.1.1.0.1.1.0.1;
      a_r = true→T c.well_formed.0.1.1.0.1.1.1.0.1;
      z0 = true→T c.well_formed.1.0.1.1.0.1.1.0.1;
      z1 = true→T c.well_formed.1.0.1.1.0.1.1.1.0.1;
      r0 = true→T c.well_formed.1.0.1.1.0.1.1.1.1.0.1;
      r1 = true→T c.well_formed.1.0.1.1.0.1.1.1.1.1.0.1;
    })
    c.args.x.known refl _
    (rw (
      c.gap_between-z.ensures,
      c.range_of.ensures,
      c.gap_between-r.ensures,
      c.range_of-2.ensures,
    ) at (c.hopeless.ensures c.if-hopeless.true))
    (c.misses_box.ensures t)
