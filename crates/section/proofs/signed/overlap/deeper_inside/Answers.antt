-- `section::signed::overlap::deeper_inside` meets its contract: what is known to lie inside is as deep as its nearest edge is far.
use mathlib.Core.Path.{sym, ◌∙◌}
use Rattle.arith.proofs.Laws.OrderHeld.{true→T}
use Rattle.section.proofs.points.Inside.{as_deep, no_deeper, nothing_near, on_boundary}
use Rattle.section.proofs.signed.overlap.deeper_inside.Goals as goal

pub returns-then-first-best : goal.returns-then-first-best
returns-then-first-best c =
    no_deeper _ _ c.requires.1 _ c.requires.2 _ c.likely_edge_at-k.ensures
    (true→T c.well_formed.1.1.0.1.1.0.1) c.surface_first-first.ensures c.if-first-best.true

pub returns-then-depth : goal.returns-then-depth
returns-then-depth c =
    on_boundary _ _ c.requires.1 _ c.requires.2 c.surface_rest-near.ensures
    (sym c.is_finite.ensures ∙ c.if-is_finite.true) c.if-depth.true

pub returns-then-is_finite : goal.returns-then-is_finite
returns-then-is_finite c =
    c.nearer_of.ensures
    ∙ as_deep _ _ c.requires.1 _ c.requires.2 c.surface_rest-near.ensures
    (sym c.is_finite.ensures ∙ c.if-is_finite.true) c.if-depth.false

pub returns : goal.returns
returns c =
    nothing_near _ _ c.requires.1 _ c.requires.2 c.surface_rest-near.ensures
    (sym c.is_finite.ensures ∙ c.if-is_finite.false)
