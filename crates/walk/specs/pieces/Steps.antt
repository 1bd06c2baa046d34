-- What the functions on pieces compute on the way, and what is known of the pieces that wait.
use Rattle.std.specs.Prelude.{ℕ, zero, suc, ◌+◌, ◌*◌, List, [], ◌∷◌, map, ◌≡◌, Float, get_or}
use Rattle.std.specs.Float.{nan}
use Rattle.walk.specs.bands.Band.{half_width, mean, span, span_at}
use Rattle.walk.specs.declared.bands.shapes.RadialBand.{RadialBand}
use Rattle.walk.specs.pieces.Pieces.{piece, whole_width, box_hit, variation}
use Rattle.walk.specs.declared.pieces.shapes.Piece.{Piece}
use Rattle.walk.specs.declared.pieces.shapes.Cross.{Cross}
use Rattle.walk.specs.declared.pieces.shapes.Part.{Part}
use Rattle.walk.specs.declared.pieces.shapes.Measured.{Measured}

-- the distance of a piece's box, and its variation
abbrev pub measure : List Float → RadialBand → Piece → Measured
measure s b p = record { hit = box_hit s b p; variation = variation b p }

-- half width and span at z
abbrev pub cross_at : RadialBand → Float → Cross
cross_at b z = record { rho = half_width b z; span = span_at b (half_width b z) }

-- ---- the pieces that wait, each with what is known at its left end

abbrev pub part : Piece → Cross → Part
part p left = record { piece = p; left = left }

-- past the end of the array
abbrev pub nowhere : Cross
nowhere = record { rho = nan; span = span nan nan }

-- the whole width, and p's halves
abbrev pub whole : RadialBand → Part
whole b = let p = whole_width b in part p (cross_at b p.z0)

abbrev pub left_half : Part → Part
left_half p = part (piece p.piece.z0 (mean p.piece.z0 p.piece.z1)) p.left

abbrev pub right_half : RadialBand → Part → Part
right_half b p = let m = mean p.piece.z0 p.piece.z1 in part (piece m p.piece.z1) (cross_at b m)

-- the first n of the flat array of start and end, each with its left end, the last one first
unfoldable pub stacked : List Float → List Cross → ℕ → List Part
stacked w ls zero = []
stacked w ls (suc n) = part (piece (get_or w (2 * n) nan) (get_or w (2 * n + 1) nan)) (get_or ls n nowhere) ∷ stacked w ls n

abbrev pub pieces : List Part → List Piece
pieces = map (λ (p : Part). p.piece)

-- the pieces lie end to end, from z down, and what each has at its left end is known
abbrev pub Chain : RadialBand → Float → List Part → Type 0
Chain b z [] = Unit {0}
Chain b z (p ∷ ps) = (p.piece.z1 ≡ z) × ((p.left ≡ cross_at b p.piece.z0) × Chain b p.piece.z0 ps)

-- of the pieces that wait: both ends of the one taken next are known, right being its right one, and the left ends of those below
abbrev pub Known : RadialBand → Cross → List Part → Type 0
Known b right [] = Unit {0}
Known b right (p ∷ ps) = (right ≡ cross_at b p.piece.z1) × ((p.left ≡ cross_at b p.piece.z0) × Chain b p.piece.z0 ps)
