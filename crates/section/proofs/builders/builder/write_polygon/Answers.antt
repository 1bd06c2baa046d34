-- `section::builders::builder::write_polygon` meets its contract.
use native.Mathlib.Omega.{arith}
use mathlib.Core.Path.{◌∙◌}
use Rattle.section.proofs.builders.Builders.Closing.{polygon_whole, polygon_most}
use Rattle.section.proofs.builders.Builders.Accepted.{polygon_accepted}
use Rattle.section.proofs.builders.Builders.Written.{polygon_stays, polygon_written}
use Rattle.section.proofs.profile.Numbered.{handed_on}
use Rattle.section.proofs.builders.builder.write_polygon.Goals as goal

pub push_polygon-requires : goal.push_polygon-requires
push_polygon-requires c =
    let s = c.args.points.now in
    let taken = polygon_accepted _ _ c.in_ok-numbers.ensures in
    let most = polygon_most s in
    let whole = polygon_whole s in
    (taken.0, taken.1, omega arith, omega arith)

pub returns-in_err-numbers : goal.returns-in_err-numbers
returns-in_err-numbers c =
    let e = c.in_err-numbers.ensures in
    record { equal = rw (handed_on c.from_residual.result c.from_residual.ensures) e; space_after = polygon_stays _ _ e }

pub returns : goal.returns
returns c =
    let answer = c.in_ok-numbers.ensures in
    record { equal = answer; space_after = c.push_polygon.ensures.1 ∙ polygon_written _ _ answer }
