-- `section::aabb::aabb::box_distance_near` meets its contract: what is not read changes nothing.
use mathlib.Core.Bool.{true}
use mathlib.Core.Path.{◌≡◌, subst, sym, ◌∙◌}
use lib.Ieee.{neg}
use Rattle.arith.specs.F64.{◌≺◌, e_9}
use Rattle.section.specs.declared.profile.shapes.CollisionHit.{CollisionHit}
use Rattle.section.proofs.boxes.Unread.{box_apart_lem, box_deep, box_within}
use Rattle.section.proofs.aabb.aabb.box_distance_near.Goals as goal

pub returns-then-any_vertex_inside : goal.returns-then-any_vertex_inside
returns-then-any_vertex_inside c =
    rw (c.result_of.ensures, c.box_witness.ensures, c.box_penetration-deep.ensures)
    (box_within _ _ _ _ (sym c.any_vertex_inside.ensures ∙ c.if-any_vertex_inside.true))

pub returns-then-deep : goal.returns-then-deep
returns-then-deep c =
    let p = c.box_penetration-deep.ensures in
    p ∙ box_deep _ _ _ (sym c.any_vertex_inside.ensures ∙ c.if-any_vertex_inside.false)
    (subst (λ (h : CollisionHit). (h.distance ≺ neg e_9) ≡ true) p c.if-deep.true)

pub returns : goal.returns
returns c =
    c.box_apart.ensures
    ∙ box_apart_lem _ _ _ c.box_penetration-deep.ensures
    (sym c.any_vertex_inside.ensures ∙ c.if-any_vertex_inside.false)
