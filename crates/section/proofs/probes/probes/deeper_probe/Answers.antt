-- `section::probes::probes::deeper_probe` meets its contract: what lies outside is not below 0.
use mathlib.Core.Path.{sym, ◌∙◌}
use Rattle.section.proofs.points.Outside.{point_outside}
use Rattle.section.proofs.probes.Parity.{odd_inside, off_axis_lem}
use Rattle.section.proofs.probes.probes.deeper_probe.Goals as goal

pub deeper_inside-requires : goal.deeper_inside-requires
deeper_inside-requires c =
    (c.requires.0, odd_inside _ _ (sym c.requires.1 ∙ c.if-odd.true), c.if-best.true)

pub returns-then-not-p : goal.returns-then-not-p
returns-then-not-p c =
    let outside = off_axis_lem _ _ (sym c.requires.1 ∙ c.if-odd.false) c.if-not-p.true in
    rw (point_outside _ c.if-best.true _ _ outside)
