-- Every box that a walk measures has z0 ≤ z1 and 0 ≤ r0 ≤ r1: number 10 would turn none of them down. For every piece that it
-- measures is sound.
use Prim.Native.Nat.{ℕ, zero, suc}
use mathlib.Core.List.{List, [], ◌∷◌}
use lib.Ieee.{Float}
use Rattle.section.proofs.profile.Each.{All, all_map, cons, nil}
use Rattle.walk.specs.declared.bands.shapes.RadialBand.{RadialBand}
use Rattle.walk.proofs.bands.AxialBox.{Ordered}
use Rattle.walk.proofs.bands.Limit.{InLimit}
use Rattle.walk.specs.pieces.Pieces.{piece_box, whole_width}
use Rattle.walk.specs.declared.pieces.shapes.Piece.{Piece}
use Rattle.walk.specs.Walk.{Walk, sampled, start, walk, walk_all}
use Rattle.walk.proofs.Demand.Pieces.{Sound, box_of_ordered, waiting_sound, whole_width_sound}

module _ (s : List Float) {b : RadialBand} (B : InLimit b) (tol : Float) where
  walk_sound : (n : ℕ) (ps : List Piece) (w : Walk) → All Sound ps → All Sound w.seen
      → All Sound (walk s b tol n ps w).seen
  unfolding walk
  walk_sound zero [] w A W = W
  walk_sound zero (p ∷ ps) w A W = W
  walk_sound (suc n) [] w A W = W
  walk_sound (suc n) (p ∷ ps) w (cons P A) W = walk_sound n _ _ (waiting_sound s b tol P A w.best) (cons P W)

  pub walk_all_ordered : (cap n : ℕ) → All (λ (p : Piece). Ordered (piece_box b p)) (walk_all s b tol cap n).seen
  unfolding walk_all
  walk_all_ordered cap n =
      all_map (λ p P. box_of_ordered B P)
      (walk_sound cap (whole_width b ∷ []) (start (sampled s b n)) (cons (whole_width_sound B) nil) nil)
