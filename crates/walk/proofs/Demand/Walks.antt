-- Once a box is measured, the walk's best distance is at most 2 ^ 28 and its least box distance 2 ^ 27. So what it
-- reports is bounded, cut or not, for any tolerance and any cap from 1 on.
use Prim.Native.Nat.{ℕ, zero, suc, ◌<◌}
use mathlib.Core.List.{List, [], ◌∷◌}
use mathlib.Core.Path.{refl}
use native.Mathlib.Omega.{arith}
use lib.Dec.{T}
use lib.Ieee.{Float, binary64}
use Rattle.arith.specs.F64.{◌⊕◌, ◌≺◌, e_12}
use Rattle.arith.proofs.Laws.Extended.{infinity_plus}
use Rattle.arith.proofs.Laws.Intervals.{Intervals}
use Rattle.arith.proofs.Laws.OrderHeld.{none_above_inf}
use Rattle.arith.proofs.Laws.Sizes.{add_finite, e_12_finite, Finite, finite_ends, finite_raise}
use Rattle.section.proofs.profile.Steps.{pick}
use Rattle.section.specs.profile.Vertices.{count}
use Rattle.section.specs.declared.profile.shapes.CollisionHit.{CollisionHit}
use Rattle.section.proofs.Demand.Boxes.{box_at_most}
use Rattle.section.proofs.Demand.Hits.{BestAtMost, HitAtMost, LeastAtMost, VerticesAtMost, found, min_new, nearer_new}
use Rattle.section.proofs.Demand.Hits.{best_raise, no_distance, none_yet, some_distance}
use Rattle.section.proofs.profile.Each.{All, cons, nil}
use Rattle.walk.specs.declared.pieces.shapes.Piece.{Piece}
use Rattle.walk.specs.Walk.{Walk, better, dropped, measured, start, walk}
use Rattle.walk.specs.Walk.{walk_all, walked}
use Rattle.walk.specs.declared.bands.shapes.RadialBand.{RadialBand}
use Rattle.walk.proofs.bands.Limit.{InLimit}
use Rattle.walk.proofs.Demand.Pieces.{Sound, box_of_at_most, variation_finite, waiting_sound}
use Rattle.walk.proofs.Demand.Pieces.{whole_width_sound}
use Rattle.walk.proofs.Demand.Samples.{sampled_best}

-- nothing is dropped as long as best is +infinity
better_at_most : {j : ℕ} {m best : CollisionHit} {v : Float} → HitAtMost 27 j m → Finite 23 v → BestAtMost 28 j best
    → HitAtMost 28 j (better m v best)
better_at_most {j} {m} {best} {v} H D A =
    pick (HitAtMost 28 j) (dropped m best) (kept A)
    (λ h. nearer_new A (record { distance = add_finite H.distance D tt; witness = H.witness }))
  where
    kept : BestAtMost 28 j best → T (best.distance ⊕ e_12 ≺ m.distance) → HitAtMost 28 j best
    kept (found B) h = B
    kept (none_yet e w) h =
        absurd (none_above_inf m.distance (rw (infinity_plus e_12 (finite_ends e_12_finite) binary64) at (rw e at h)))

-- ---- a walk that has measured a box
pub record WalkAtMost (j : ℕ) (w : Walk) : Type 0 where
  pub best : HitAtMost 28 j w.best
  pub least : Finite 27 w.least

module _ {s : List Float} (S : VerticesAtMost 23 s) {b : RadialBand} (B : InLimit b) (tol : Float) where
  measured_at_most : {p : Piece} → Sound p → (ps : List Piece) (w : Walk) → BestAtMost 28 (count s) w.best
      → LeastAtMost 27 w.least → WalkAtMost (count s) (measured s b tol p ps w)
  measured_at_most P ps w A L =
      let m = box_at_most S (box_of_at_most B P) in
      record { best = better_at_most m (variation_finite B P) A; least = min_new L m.distance }

  walk_at_most : (n : ℕ) (ps : List Piece) (w : Walk) → All Sound ps → WalkAtMost (count s) w
      → WalkAtMost (count s) (walk s b tol n ps w)
  unfolding walk
  walk_at_most zero [] w A W = W
  walk_at_most zero (p ∷ ps) w A W = record { best = W.best; least = W.least }
  walk_at_most (suc n) [] w A W = W
  walk_at_most (suc n) (p ∷ ps) w (cons P A) W =
      walk_at_most n _ _ (waiting_sound s b tol P A w.best)
      (measured_at_most P ps w (found W.best) (some_distance W.least))

  -- the first piece is measured, whatever the start
  starts_at_most : (cap : ℕ) {p : Piece} → Sound p → {best : CollisionHit} → 0 < cap → BestAtMost 28 (count s) best
      → WalkAtMost (count s) (walk s b tol cap (p ∷ []) (start best))
  unfolding walk
  starts_at_most zero P l A = let c : ⊥ = omega arith in absurd c
  starts_at_most (suc cap) P {best} l A =
      walk_at_most cap _ _ (waiting_sound s b tol P nil best) (measured_at_most P [] (start best) A (no_distance refl))

  pub walk_all_at_most : (cap : ℕ) → 0 < cap → {n : ℕ} → Intervals n → WalkAtMost (count s) (walk_all s b tol cap n)
  unfolding walk_all
  walk_all_at_most cap l N = starts_at_most cap (whole_width_sound B) l (best_raise (sampled_best B S N) tt)

-- what is reported, cut or not
pub walked_at_most : {j : ℕ} {w : Walk} → WalkAtMost j w → HitAtMost 28 j (walked w).hit
walked_at_most {w = w} W =
    record {
      distance = pick (Finite 28) w.cut (λ h. finite_raise W.least tt) (λ h. W.best.distance);
      witness = W.best.witness;
    }
