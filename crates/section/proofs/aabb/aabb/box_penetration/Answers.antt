-- `section::aabb::aabb::box_penetration` meets its contract: the even-odd rule of the five probes is told in one pass.
use Rattle.section.specs.profile.Vertices.{upto}
use Rattle.section.specs.points.Points.{point_inside}
use Rattle.section.proofs.probes.Parity.{all_outside}
use Rattle.section.specs.boxes.Boxes.{box_penetration}
use Rattle.section.proofs.boxes.Outside.{no_penetration}
use borrow.Author.Rules.{rules}
use Rattle.section.proofs.aabb.aabb.box_penetration.Goals as goal

pub returns-then-none_inside : goal.returns-then-none_inside
returns-then-none_inside c =
    let outside = all_outside c.odd_probes-odd.ensures (c.none_inside.ensures c.if-none_inside.true) in
    no_penetration _ _ _ (rw c.middle_of-centre.ensures at outside.centre) outside.c00
    outside.c10 outside.c11
    outside.c01

pub deeper_probe-start-requires : goal.deeper_probe-start-requires
unfolding point_inside
deeper_probe-start-requires c = (search rules, c.odd_probes-odd.ensures.centre)

pub deeper_probe-first-requires : goal.deeper_probe-first-requires
unfolding point_inside
deeper_probe-first-requires c = (search rules, c.odd_probes-odd.ensures.c00)

pub deeper_probe-second-requires : goal.deeper_probe-second-requires
unfolding point_inside
deeper_probe-second-requires c = (search rules, c.odd_probes-odd.ensures.c10)

pub deeper_probe-third-requires : goal.deeper_probe-third-requires
unfolding point_inside
deeper_probe-third-requires c = (search rules, c.odd_probes-odd.ensures.c11)

pub deeper_probe-requires : goal.deeper_probe-requires
unfolding point_inside
deeper_probe-requires c = (search rules, c.odd_probes-odd.ensures.c01)

pub returns : goal.returns
unfolding box_penetration upto
returns c =
    rw (
      ← c.middle_of-centre.ensures,
      ← c.deeper_probe-start.ensures,
      ← c.deeper_probe-first.ensures,
      ← c.deeper_probe-second.ensures,
      ← c.deeper_probe-third.ensures,
      ← c.deeper_probe.ensures,
    )
