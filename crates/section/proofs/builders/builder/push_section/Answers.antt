-- `section::builders::builder::push_section` meets its contract.
use native.Mathlib.Omega.{arith}
use mathlib.Core.Path.{ap}
use borrow.Author.Rules.{rules}
use Rattle.section.specs.declared.builders.builder.Run.{Run}
use Rattle.section.proofs.builders.Builders.Points.{count_most}
use Rattle.section.proofs.builders.Builders.Closing.{down_most, section_run, section_space}
use native.Mathlib.Omega.{arith}
use mathlib.Core.Path.{ap}
use borrow.Author.Rules.{rules}
use Rattle.section.specs.declared.builders.builder.Run.{Run}
use Rattle.section.proofs.builders.Builders.Points.{count_most}
use Rattle.section.proofs.builders.Builders.Closing.{down_most, section_run, section_space}
use Rattle.section.proofs.builders.builder.push_section.Goals as goal

pub push_dedup-closing-requires : goal.push_dedup-closing-requires
push_dedup-closing-requires c =
    let most = count_most _ _ c.push_points-run.ensures.0 in (search rules, omega arith)

pub push_dedup-closed-requires : goal.push_dedup-closed-requires
push_dedup-closed-requires c =
    let pre = c.requires in
    let e = c.push_points-run.ensures.0 in
    let most = down_most _ pre.0 e c.push_dedup-closing.ensures.0 c.point_at-first.ensures in
    (search rules, omega arith)

pub returns : goal.returns
returns c =
    let pre = c.requires in
    let e = c.push_points-run.ensures in
    let e₁ = c.push_dedup-closing.ensures in
    let e₂ = c.push_dedup-closed.ensures in
    let f = c.point_at-first.ensures in (
      ap (λ (run : Run). run.count) (section_run _ pre.0 e.0 e₁.0 f e₂.0),
      section_space _ pre.0 e.0 e₁.0 f _ _ pre.2 e.1 e₁.1 e₂.1,
    )
