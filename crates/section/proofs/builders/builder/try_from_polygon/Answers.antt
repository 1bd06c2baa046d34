-- `section::builders::builder::try_from_polygon` meets its contract.
use mathlib.Core.Path.{◌∙◌, ap, refl, sym}
use lib.ListN.{length}
use Rattle.section.proofs.builders.Builders.Written.{handed, polygon_long}
use Rattle.section.proofs.builders.builder.try_from_polygon.Goals as goal

pub slice_bounds-result-end : goal.slice_bounds-result-end
slice_bounds-result-end c =
    let e = c.write_polygon.ensures in
    let long = polygon_long _ _ c.write_polygon.result c.unwrap_or-count.ensures e.equal in
    long ∙ ap length (sym (handed _ _ long e.space_after))

pub returns : goal.returns
returns c =
    let e = c.write_polygon.ensures in
    (handed _ _ (polygon_long _ _ c.write_polygon.result c.unwrap_or-count.ensures e.equal) e.space_after, refl)
