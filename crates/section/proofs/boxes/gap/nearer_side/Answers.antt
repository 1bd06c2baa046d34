-- `section::boxes::gap::nearer_side` meets its contract.
use Rattle.section.proofs.ranges.Apart.{gap_plus}
use Rattle.section.proofs.boxes.Passed.{side_passed}
use Rattle.section.proofs.boxes.gap.nearer_side.Goals as goal

pub hopeless-requires : goal.hopeless-requires
hopeless-requires c =
    (rw c.gap_between-z.ensures (gap_plus _ _), rw c.gap_between-r.ensures (gap_plus _ _))

pub returns-then-hopeless : goal.returns-then-hopeless
returns-then-hopeless c =
    rw (side_passed _ _ _ _ _ _ _ c.requires
    (rw (c.gap_between-z.ensures, c.gap_between-r.ensures) at (c.hopeless.ensures c.if-hopeless.true)))
