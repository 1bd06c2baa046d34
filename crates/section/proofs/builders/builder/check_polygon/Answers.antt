-- `section::builders::builder::check_polygon` meets its contract.
use native.Mathlib.Omega.{arith}
use mathlib.Core.Path.{refl, sym}
use Rattle.section.proofs.builders.Builders.Closing.{polygon_most}
use Rattle.section.proofs.builders.Builders.Accepted.{polygon_listed, polygon_below, polygon_small, polygon_counted}
use Rattle.section.proofs.profile.Numbered.{above_zero, handed_on}
use Rattle.section.proofs.profile.Refusals.Passed.{list_counted}
use Rattle.section.proofs.builders.builder.check_polygon.Goals as goal

pub returns-in_err-list_refusal : goal.returns-in_err-list_refusal
returns-in_err-list_refusal c =
    rw (handed_on c.from_residual.result c.from_residual.ensures) (polygon_listed _ _ c.in_err-list_refusal.ensures (above_zero _))

pub returns-then-any_below_axis : goal.returns-then-any_below_axis
returns-then-any_below_axis c =
    polygon_below _ _ c.in_ok-list_refusal.ensures refl c.any_below_axis.ensures c.if-any_below_axis.true

pub returns-then-space-n : goal.returns-then-space-n
returns-then-space-n c =
    polygon_small _ _ c.in_ok-list_refusal.ensures refl c.any_below_axis.ensures
    c.if-any_below_axis.false c.if-space-n.true

pub push_polygon-requires : goal.push_polygon-requires
push_polygon-requires c =
    let taken = list_counted 3 256 _ (sym c.in_ok-list_refusal.ensures) in
    (taken.enough, taken.few, omega arith, omega arith)

pub three_kept-requires : goal.three_kept-requires
three_kept-requires c =
    let taken = list_counted 3 256 _ (sym c.in_ok-list_refusal.ensures) in
    let most = polygon_most c.args.points.now in
    omega arith

pub returns : goal.returns
returns c =
    polygon_counted _ _ c.in_ok-list_refusal.ensures refl c.any_below_axis.ensures
    c.if-any_below_axis.false c.if-space-n.false c.push_polygon.ensures.0 c.three_kept.ensures
