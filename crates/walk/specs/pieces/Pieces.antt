-- A piece of the cylinder's width: its box, its variation and its halves.
use Rattle.std.specs.Prelude.{List, ◌∷◌, Float}
use Rattle.arith.specs.F64.{◌⊕◌, ◌⊖◌, 𝟘}
use Rattle.arith.specs.Num.{min, max, clamp}
use Rattle.section.specs.declared.profile.shapes.Aabb.{Aabb}
use Rattle.section.specs.declared.profile.shapes.CollisionHit.{CollisionHit}
use Rattle.section.specs.boxes.Boxes.{box_distance}
use Rattle.walk.specs.bands.Band.{mean, half_width, span_at}
use Rattle.walk.specs.declared.bands.shapes.RadialBand.{RadialBand}
use Rattle.walk.specs.declared.bands.shapes.Span.{Span}
use Rattle.walk.specs.declared.pieces.shapes.Piece.{Piece}
use Rattle.walk.specs.declared.pieces.shapes.Spans.{Spans}

abbrev pub piece : Float → Float → Piece
piece z0 z1 = record { z0 = z0; z1 = z1 }

-- the cylinder's width: every z from zc - radius to zc + radius
abbrev pub whole_width : RadialBand → Piece
whole_width b = piece (b.zc ⊖ b.radius) (b.zc ⊕ b.radius)

-- the spans at the piece's greatest and at its least half width
unfoldable pub widest : RadialBand → Piece → Span
widest b p = span_at b (half_width b (clamp b.zc p.z0 p.z1))

unfoldable pub narrowest : RadialBand → Piece → Span
narrowest b p = span_at b (min (half_width b p.z0) (half_width b p.z1))

abbrev pub spans_of : RadialBand → Piece → Spans
spans_of b p = record { widest = widest b p; narrowest = narrowest b p }

-- the box: its z range is the piece, its radial range joins the two spans
abbrev pub box_of : Piece → Spans → Aabb
box_of p x =
    record {
      z0 = p.z0;
      z1 = p.z1;
      r0 = min x.widest.lo x.narrowest.lo;
      r1 = max x.widest.hi x.narrowest.hi;
    }

unfoldable pub piece_box : RadialBand → Piece → Aabb
piece_box b p = box_of p (spans_of b p)

-- the box of a piece is measured
abbrev pub box_hit : List Float → RadialBand → Piece → CollisionHit
box_hit s b p = box_distance s (piece_box b p)

-- variation: the larger of how far the lower ends and how far the upper ends of the two spans lie apart, at least 0
abbrev pub variation_of : Spans → Float
variation_of x =
    let w = x.widest in
    let n = x.narrowest in
    max (max (max w.lo n.lo ⊖ min w.lo n.lo) (max w.hi n.hi ⊖ min n.hi w.hi)) 𝟘

unfoldable pub variation : RadialBand → Piece → Float
variation b p = variation_of (spans_of b p)

-- both halves wait: the left one first, so that the right one is taken next
abbrev pub halves : Piece → List Piece → List Piece
halves p ps = let m = mean p.z0 p.z1 in piece m p.z1 ∷ piece p.z0 m ∷ ps
