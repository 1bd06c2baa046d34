-- `section::builders::builder::write_section` meets its contract.
use native.Mathlib.Omega.{arith}
use mathlib.Core.Path.{◌∙◌}
use Rattle.section.proofs.builders.Builders.Closing.{section_whole, section_most}
use Rattle.section.proofs.builders.Builders.Accepted.{section_accepted}
use Rattle.section.proofs.builders.Builders.Written.{section_stays, section_written}
use Rattle.section.proofs.profile.Numbered.{handed_on}
use Rattle.section.proofs.builders.builder.write_section.Goals as goal

pub push_section-requires : goal.push_section-requires
push_section-requires c =
    let s = c.args.points.now in
    let taken = section_accepted _ _ c.in_ok-numbers.ensures in
    let most = section_most s in
    let whole = section_whole s in
    (taken.0, taken.1, omega arith)

pub returns-in_err-numbers : goal.returns-in_err-numbers
returns-in_err-numbers c =
    let e = c.in_err-numbers.ensures in
    record { equal = rw (handed_on c.from_residual.result c.from_residual.ensures) e; space_after = section_stays _ _ e }

pub returns : goal.returns
returns c =
    let answer = c.in_ok-numbers.ensures in
    record { equal = answer; space_after = c.push_section.ensures.1 ∙ section_written _ _ answer }
