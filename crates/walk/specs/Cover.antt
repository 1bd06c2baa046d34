-- Demand 3: what 01 promises of the walk across the spindle, as one statement about the call's result.
use Rattle.std.specs.Prelude.{ℕ, ◌≤◌, ◌≡◌, ◌⊎◌, Bool, true, false, ◌||◌, length, T, Float}
use mathlib.Core.List.{List, [], ◌∷◌, Memᴰ}
use Rattle.std.specs.Float.{binary64}
use Rattle.std.specs.Float.Ieee.{fits}
use Rattle.arith.specs.F64.{◌⊕◌, ◌⊖◌, ◌≺◌, ◌≼◌}
use Rattle.walk.specs.bands.Band.{half_width, span_at}
use Rattle.walk.specs.pieces.Pieces.{whole_width, piece_box, variation, box_hit}
use Rattle.walk.specs.declared.pieces.shapes.Piece.{Piece}
use Rattle.walk.specs.Walk.{Walk, sampled, left, reported}
use Rattle.walk.specs.declared.bands.shapes.RadialBand.{RadialBand}

abbrev pub waits : List Piece → Bool
waits [] = false
waits (p ∷ ps) = true

module _ (s : List Float) (b : RadialBand) (tol : Float) (w : Walk) where
  -- A measured box has z in its z range and holds the whole radial span that 01 computes at z. Its distance exceeds the reported one,
  -- or its variation or its width, each as the walk rounds it, is at most the tolerance and the reported distance is at most
  -- distance + variation, added in f64.
  pub record Covered (z : Float) : Type 0 where
    pub piece : Piece
    pub measured : Memᴰ piece w.seen
    pub from : T ((piece_box b piece).z0 ≼ z)
    pub to : T (z ≼ (piece_box b piece).z1)
    pub inner : T ((piece_box b piece).r0 ≼ (span_at b (half_width b z)).lo)
    pub outer : T ((span_at b (half_width b z)).hi ≼ (piece_box b piece).r1)
    pub settled :
        T (reported w ≺ (box_hit s b piece).distance)
        ⊎ (T ((variation b piece ≼ tol) || (piece.z1 ⊖ piece.z0 ≼ tol))
        × T (reported w ≼ (box_hit s b piece).distance ⊕ variation b piece))

  -- what is reported is the least of the measured boxes' distances
  pub record Least : Type 0 where
    pub piece : Piece
    pub measured : Memᴰ piece w.seen
    pub equal : reported w ≡ (box_hit s b piece).distance
    pub below : (p : Piece) → Memᴰ p w.seen → T (reported w ≼ (box_hit s b p).distance)

-- what is promised of a walk w with this tolerance, cap and number of sample intervals
pub record Covers (s : List Float) (b : RadialBand) (tol : Float) (cap n : ℕ) (w : Walk) : Type 0 where
  pub some_box : 1 ≤ length w.seen
  pub boxes : length w.seen ≤ cap
  pub room : w.most ≤ 54
  -- cut exactly when one piece more than cap is due: a piece still waits after the last of cap has gone through its whole step
  pub due : w.cut ≡ waits (left s b tol cap (whole_width b ∷ []) (sampled s b n))
  pub uncut : w.cut ≡ false → (z : Float) → T (fits binary64 z) → T ((whole_width b).z0 ≼ z) → T (z ≼ (whole_width b).z1)
      → Covered s b tol w z
  pub cut : w.cut ≡ true → Least s b tol w
