-- 01's walk over the pieces of a cylinder across the spindle, with 02's settings in the places of 01's numbers: the agreement
-- tolerance for 1e-9, the most boxes for 8,192, the number n of sampling intervals for 16.
use Rattle.std.specs.Prelude.{ℕ, zero, suc, max as maxℕ, Bool, true, false, not, ◌&&◌, cond, List, [], ◌∷◌, length, pos, Float}
use Rattle.std.specs.Float.{binary64}
use Rattle.std.specs.Float.Ieee.{of_int}
use Rattle.arith.specs.F64.{◌⊕◌, ◌⊖◌, ◌⊗◌, ◌⊘◌, ◌≺◌, ◌≼◌, 𝟘, ∞, e_12, e_15}
use Rattle.arith.specs.Num.{min}
use Rattle.section.specs.profile.Vertices.{vertex, on, hit, upto, nearer, nearest_of}
use Rattle.section.specs.points.Points.{point_distance}
use Rattle.section.specs.boxes.Boxes.{box_distance}
use Rattle.section.specs.declared.profile.shapes.Vertex.{Vertex}
use Rattle.section.specs.declared.profile.shapes.CollisionHit.{CollisionHit}
use Rattle.section.specs.declared.profile.shapes.Aabb.{Aabb}
use Rattle.walk.specs.bands.Band.{mean, half_width, span_at}
use Rattle.walk.specs.declared.bands.shapes.RadialBand.{RadialBand}
use Rattle.walk.specs.declared.settings.shapes.Settings.{Settings}
use Rattle.walk.specs.pieces.Pieces.{whole_width, box_hit, variation, halves}
use Rattle.walk.specs.declared.pieces.shapes.Piece.{Piece}
use Rattle.walk.specs.declared.shapes.CountedHit.{CountedHit}

-- ---- the starting distance

-- at z the least, the greatest and the mean radius, in this order
unfoldable pub sample_vertex : RadialBand → Float → ℕ → Vertex
sample_vertex b z j =
    let r = span_at b (half_width b z) in
    vertex z (choose j r.lo r.hi (mean r.lo r.hi))
  where
    choose : ℕ → Float → Float → Float → Float
    choose zero x y z = x
    choose (suc zero) x y z = y
    choose (suc (suc j)) x y z = z

-- i/n, rounded
abbrev pub fraction : ℕ → ℕ → Float
fraction i n = of_int binary64 (pos i) ⊘ of_int binary64 (pos n)

-- z of sample i of n + 1: z0 + (z1 - z0)·(i/n)
abbrev pub sample_z : RadialBand → ℕ → ℕ → Float
sample_z b n i = let w = whole_width b in w.z0 ⊕ (w.z1 ⊖ w.z0) ⊗ fraction i n

-- ---- the walk

-- What the walk has so far: the best distance with its witness, the least box distance seen, the most pieces that waited at any one
-- time, the pieces measured (the last one first), and the mark.
pub record Walk : Type 0 where
  pub best : CollisionHit
  pub least : Float
  pub most : ℕ
  pub seen : List Piece
  pub cut : Bool

-- box distance > best + 1e-12: the piece is dropped
abbrev pub dropped : CollisionHit → CollisionHit → Bool
dropped m best = best.distance ⊕ e_12 ≺ m.distance

-- if box distance + variation < best, that becomes best, with its witness
abbrev pub better : CollisionHit → Float → CollisionHit → CollisionHit
better m v best = cond (dropped m best) best (nearer best (hit (m.distance ⊕ v) m.witness))

-- variation and width (right end less left, rounded) both above the tolerance: the piece is halved
abbrev pub halved : Float → CollisionHit → Float → CollisionHit → Piece → Bool
halved tol m v best p = not (dropped m best) && ((tol ≺ v) && (tol ≺ p.z1 ⊖ p.z0))

abbrev pub marked : Walk → Walk
marked w = record { best = w.best; least = w.least; most = w.most; seen = w.seen; cut = true }

abbrev pub start : CollisionHit → Walk
start best = record { best = best; least = ∞; most = 1; seen = []; cut = false }

module _ (s : List Float) (b : RadialBand) where
  -- strictly smallest first, over the samples in order; the first witness is (zc, 0), with edge 0
  unfoldable pub sampled : ℕ → CollisionHit
  sampled n =
      upto (λ i best. nearest_of (λ j. point_distance s (sample_vertex b (sample_z b n i) j)) best 3)
      (hit ∞ (on 0 (vertex b.zc 𝟘))) (suc n)

  module _ (tol : Float) where
    -- what waits when piece p, taken from before ps, has gone through
    abbrev pub waiting : Piece → List Piece → CollisionHit → List Piece
    waiting p ps best = cond (halved tol (box_hit s b p) (variation b p) best p) (halves p ps) ps

    abbrev pub bested : Piece → CollisionHit → CollisionHit
    bested p best = better (box_hit s b p) (variation b p) best

    abbrev pub measured : Piece → List Piece → Walk → Walk
    measured p ps w =
        record {
          best = bested p w.best;
          least = min w.least (box_hit s b p).distance;
          most = maxℕ w.most (length (waiting p ps w.best));
          seen = p ∷ w.seen;
          cut = false;
        }

    -- At most n boxes more, over the pieces that wait, the last one taken first; one piece more is not measured and marks it cut.
    unfoldable pub walk : ℕ → List Piece → Walk → Walk
    walk zero [] w = w
    walk zero (p ∷ ps) w = marked w
    walk (suc n) [] w = w
    walk (suc n) (p ∷ ps) w = walk n (waiting p ps w.best) (measured p ps w)

    -- what waits when n pieces, or all that there are, have gone through their whole step
    unfoldable pub left : ℕ → List Piece → CollisionHit → List Piece
    left zero ps best = ps
    left (suc n) [] best = []
    left (suc n) (p ∷ ps) best = left n (waiting p ps best) (bested p best)

    -- the one waiting piece is the whole width
    unfoldable pub walk_all : ℕ → ℕ → Walk
    walk_all cap n = walk cap (whole_width b ∷ []) (start (sampled n))

-- the walk with these settings
abbrev pub walk_with : List Float → RadialBand → Settings → Walk
walk_with s b t = walk_all s b t.tolerance t.most t.intervals

-- uncut gives best, cut gives the least box distance; the witness is best's either way
abbrev pub reported : Walk → Float
reported w = cond w.cut w.least w.best.distance

abbrev pub walked : Walk → CountedHit
walked w =
    record { hit = hit (reported w) w.best.witness; boxes = length w.seen; waiting = w.most; cut = w.cut }

-- one box, nothing waiting, uncut
abbrev pub one_box : CollisionHit → CountedHit
one_box h = record { hit = h; boxes = 1; waiting = 0; cut = false }

-- radius ≤ 1e-15 measures one box at zc
abbrev pub thin_box : RadialBand → Aabb
thin_box b = let r = span_at b 𝟘 in record { z0 = b.zc; z1 = b.zc; r0 = r.lo; r1 = r.hi }

-- 01's `band_distance`
unfoldable pub band_distance : List Float → RadialBand → Settings → CountedHit
band_distance s b t =
    cond (b.radius ≼ e_15) (one_box (box_distance s (thin_box b))) (walked (walk_with s b t))
