-- `section::probes::probes::odd_at` meets its contract: an edge that no probe's radius parts is crossed at none.
use Rattle.section.proofs.probes.Radii.{odd_kept}
use Rattle.section.proofs.probes.probes.odd_at.Goals as goal

pub returns-then-unparted : goal.returns-then-unparted
returns-then-unparted c =
    odd_kept _ _ c.requires.1 _ c.args.s.now c.args.k c.vertex_at-a.ensures
    c.end_at-b.ensures (c.unparted.ensures c.if-unparted.true)
