-- `section::builders::builder::try_from_section` meets its contract.
use mathlib.Core.Path.{◌∙◌, ap, refl, sym}
use lib.ListN.{length}
use Rattle.section.proofs.builders.Builders.Written.{handed, section_long}
use Rattle.section.proofs.builders.builder.try_from_section.Goals as goal

pub slice_bounds-result-end : goal.slice_bounds-result-end
slice_bounds-result-end c =
    let e = c.write_section.ensures in
    let long = section_long _ _ c.write_section.result c.unwrap_or-numbers.ensures e.equal in
    long ∙ ap length (sym (handed _ _ long e.space_after))

pub returns : goal.returns
returns c =
    let e = c.write_section.ensures in
    (handed _ _ (section_long _ _ c.write_section.result c.unwrap_or-numbers.ensures e.equal) e.space_after, refl)
