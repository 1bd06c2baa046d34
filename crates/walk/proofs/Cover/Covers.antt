-- The walk covers: demand 3 for every tolerance from 1e-9 on, every cap from 1 on and every number of sample intervals. What is
-- found (Found), counted (Counts) and least (Least), in the words of the statement.
use Prim.Native.Nat.{ℕ, zero, suc, ◌≤◌}
use mathlib.Core.Path.{◌≡◌, refl}
use mathlib.Core.Logic.{inl, inr, ◌⊎◌}
use mathlib.Core.Bool.{false, ◌||◌}
use mathlib.Core.List.{List, [], ◌∷◌}
use native.Mathlib.Nat.{le_refl, le_trans, le_of_eq, add-zero}
use native.Mathlib.Omega.{arith}
use lib.ListN.{length}
use lib.Dec.{T, lit≤, lit<}
use lib.Ieee.{Float, binary64, fits}
use Rattle.arith.specs.F64.{◌⊕◌, ◌⊖◌, ◌≺◌, ◌≼◌}
use Rattle.arith.proofs.roots.Rounding.KeyOrder.{le→key, key→le, key→lt}
use Rattle.arith.proofs.Laws.Bounded.{between_bounded}
use Rattle.walk.specs.pieces.Pieces.{whole_width, piece_box, variation, box_hit}
use Rattle.walk.specs.declared.pieces.shapes.Piece.{Piece}
use Rattle.walk.specs.Walk.{Walk, start, sampled, waiting, measured, walk, walk_all}
use Rattle.walk.specs.Cover.{Covered, Covers}
use Rattle.walk.specs.declared.bands.shapes.RadialBand.{RadialBand}
use Rattle.arith.proofs.Laws.Extended.{sum_number}
use Rattle.arith.proofs.Laws.OrderHeld.{T→true, held_number, le_right}
use Rattle.arith.proofs.Laws.SizedOrder.{key_le}
use Rattle.arith.proofs.Laws.Sizes.{Finite, K, Number, finite_number_lem}
use Rattle.section.proofs.Numbers.{box_number}
use Rattle.walk.proofs.bands.Limit.{InLimit}
use Rattle.walk.proofs.Demand.Pieces.{Sound, variation_finite, whole_width_sound}
use Rattle.walk.proofs.Demand.Samples.{sampled_number}
use Rattle.walk.proofs.Cover.Boxes.{box_inner, box_outer}
use Rattle.walk.proofs.Cover.Depth.{Tolerance, whole}
use Rattle.walk.proofs.Cover.Turns.{Settles, Ready}
use Rattle.walk.proofs.Cover.Found.{Found, found, best_keeps}
use Rattle.walk.proofs.Cover.Counts.{boxes, due, few}
use Rattle.walk.proofs.Cover.Least.{least}

-- what is asked of a walk: a band within the limit, whose radius is an f64, a tolerance from 1e-9 on, a cap from 1 on
pub record Coverable (b : RadialBand) (tol : Float) (cap : ℕ) : Type 0 where
  pub band : InLimit b
  pub held : T (fits binary64 b.radius)
  pub tolerance : Tolerance tol
  pub some_box : 1 ≤ cap

module _ (s : List Float) (b : RadialBand) (tol : Float) (B : InLimit b) (t : Tolerance tol) where
  -- the best distance settles the piece, in the order of floats
  settled : (best : Float) (p : Piece) → Number best → Sound p
      → Settles tol (box_hit s b p).distance (variation b p) (p.z1 ⊖ p.z0) (K best)
      → T (best ≺ (box_hit s b p).distance)
      ⊎ (T ((variation b p ≼ tol) || (p.z1 ⊖ p.z0 ≼ tol)) × T (best ≼ (box_hit s b p).distance ⊕ variation b p))
  settled best p nb P (inl h) = inl (key→lt binary64 best _ nb (box_number s (piece_box b p)) h)
  settled best p nb P (inr h) =
      let sum = sum_number binary64 _ (variation b p) (box_number s (piece_box b p)) (variation_finite B P).bounded.sure in
      inr (h.0, key→le binary64 best _ nb sum h.1)

  covered : (w : Walk) → w.cut ≡ false → Number w.best.distance → (z : Float) → Finite 21 z → Found s b tol B t z w
      → Covered s b tol w z
  covered w e nb z Z f =
      record {
        piece = f.piece;
        measured = f.seen;
        from = unfold piece_box in key_le f.sound.z0 Z f.from;
        to = unfold piece_box in key_le Z f.sound.z1 f.to;
        inner = box_inner B f.sound Z f.from f.to;
        outer = box_outer B f.sound Z f.from f.to;
        settled = rw e (settled w.best.distance f.piece nb f.sound f.settles);
      }

  -- a place of the whole width, by its key
  record InWidth (z : Float) : Type 0 where
    place : Finite 21 z
    from : K (whole_width b).z0 ≤ K z
    to : K z ≤ K (whole_width b).z1

  in_width : (z : Float) → T (fits binary64 z) → T ((whole_width b).z0 ≼ z) → T (z ≼ (whole_width b).z1) → InWidth z
  in_width z f l u =
      let P = whole_width_sound B in
      let nz : Number z = held_number binary64 z f (le_right (whole_width b).z0 z (T→true _ l)) in
      let kl = le→key binary64 (whole_width b).z0 z (finite_number_lem P.z0) nz l in
      let ku = le→key binary64 z (whole_width b).z1 nz (finite_number_lem P.z1) u in
      let w = between_bounded binary64 1095 _ z _ nz (lit< tt) P.z0.bounded P.z1.bounded kl ku in
      record { place = record { bounded = w }; from = kl; to = ku }

  covers_all : T (fits binary64 b.radius) → (cap n : ℕ) → 1 ≤ cap → Covers s b tol cap n (walk_all s b tol cap n)
  unfolding walk_all walk
  covers_all held zero n c = let e : ⊥ = omega arith in absurd e
  covers_all held (suc cap) n c =
      record {
        some_box = one_box_lem;
        boxes = le_trans (boxes s b tol (suc cap) ps w₀).1 (le_of_eq (add-zero (suc cap)));
        room = le_trans (few s b tol B t (suc cap) ps w₀ ready number (lit≤ tt) (lit≤ tt)) (lit≤ tt);
        due = due s b tol (suc cap) ps w₀ refl;
        uncut = λ e z f l u.
            let Z = in_width z f l u in
            covered (walk s b tol (suc cap) ps w₀) e best z Z.place
            (found s b tol B t z (suc cap) ps w₀ ready number (inl (Z.from, Z.to)) e);
        cut = λ e. least s b tol (suc cap) ps (sampled s b n) e one_box_lem;
      }
    where
      ps : List Piece
      ps = whole_width b ∷ []

      w₀ : Walk
      w₀ = start (sampled s b n)

      ready : Ready ps
      ready = (whole B held, tt)

      number : Number (sampled s b n).distance
      number = sampled_number s b n

      one_box_lem : 1 ≤ length (walk s b tol (suc cap) ps w₀).seen
      one_box_lem =
          (boxes s b tol cap (waiting s b tol (whole_width b) [] w₀.best) (measured s b tol (whole_width b) [] w₀)).0

      best : Number (walk s b tol (suc cap) ps w₀).best.distance
      best = (best_keeps s b tol B t (K w₀.best.distance) (suc cap) ps w₀ ready (number, le_refl _)).0

pub covers : (s : List Float) (b : RadialBand) (tol : Float) (cap n : ℕ) → Coverable b tol cap
    → Covers s b tol cap n (walk_all s b tol cap n)
covers s b tol cap n h = covers_all s b tol h.band h.tolerance h.held cap n h.some_box
