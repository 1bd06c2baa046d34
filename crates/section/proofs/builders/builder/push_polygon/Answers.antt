-- `section::builders::builder::push_polygon` meets its contract.
use native.Mathlib.Omega.{arith}
use mathlib.Core.Path.{◌∙◌}
use borrow.Author.Tests.{lt-ltb, le-ltb}
use Rattle.section.proofs.builders.Builders.Closing.{polygon_count, polygon_space}
use native.Mathlib.Omega.{arith}
use mathlib.Core.Path.{◌∙◌}
use borrow.Author.Tests.{lt-ltb, le-ltb}
use Rattle.section.proofs.builders.Builders.Closing.{polygon_count, polygon_space}
use Rattle.section.proofs.builders.builder.push_polygon.Goals as goal

pub returns-then-n-le1 : goal.returns-then-n-le1
returns-then-n-le1 c =
    let number = polygon_count _ (omega arith) c.push_points-run.ensures.0 c.point_at-first.ensures in
    let space = c.push_points-run.ensures.1 ∙ polygon_space _ _ _ c.requires.3 in
    (rw (number, le-ltb _ _ c.if-n-le1.true), space)

pub returns-then-same_point : goal.returns-then-same_point
returns-then-same_point c =
    let number = polygon_count _ (omega arith) c.push_points-run.ensures.0 c.point_at-first.ensures in
    let space = c.push_points-run.ensures.1 ∙ polygon_space _ _ _ c.requires.3 in
    (rw (number, lt-ltb _ _ c.if-n-le1.false, ← c.same_point.ensures, c.if-same_point.true), space)

pub returns : goal.returns
returns c =
    let number = polygon_count _ (omega arith) c.push_points-run.ensures.0 c.point_at-first.ensures in
    let space = c.push_points-run.ensures.1 ∙ polygon_space _ _ _ c.requires.3 in
    (rw (number, lt-ltb _ _ c.if-n-le1.false, ← c.same_point.ensures, c.if-same_point.false), space)
