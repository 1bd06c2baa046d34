-- INSIDE: an exact point of the cylinder lies in a measured and settled box, widened: the one that the cover (demand 3) names for
-- the f64 nearest its z.
use Prim.Native.Nat.{◌*◌, ◌+◌, ◌^◌, suc, ℕ, ◌≤◌}
use mathlib.Core.Bool.{false}
use mathlib.Core.List.{List}
use mathlib.Core.Path.{◌≡◌}
use lib.Dec.{T}
use lib.Ieee.{binary64, Float, prec}
use Rattle.arith.proofs.roots.Rounding.Key.{number, number_of}
use Rattle.arith.proofs.roots.Rounding.KeyOrder.{key→le, le→key}
use Rattle.arith.specs.F64.{◌≼◌}
use Rattle.arith.proofs.Laws.Bounded.{Bounded}
use Rattle.walk.specs.bands.Band.{half_width, span_at}
use Rattle.walk.specs.declared.bands.shapes.RadialBand.{RadialBand}
use Rattle.walk.proofs.bands.Limit.{InLimit}
use Rattle.walk.specs.pieces.Pieces.{piece_box, whole_width}
use Rattle.walk.specs.declared.pieces.shapes.Piece.{Piece}
use Rattle.walk.specs.Walk.{Walk, walk_all}
use Rattle.walk.proofs.Cover.Covers.{Coverable, covers}
use Rattle.arith.proofs.Laws.OperationErrors.{half}
use Rattle.truth.proofs.Walk.HalfWidths.{BandSized, half_bounded, half_least, Scaled}
use Rattle.truth.proofs.Walk.SpanErrors.{Half, hi_bounded, lo_bounded}
use Rattle.truth.proofs.Walk.Margin.{PieceWithin}
use Rattle.truth.proofs.Walk.Place.{from, place_held, to, whole_within}
use Rattle.truth.proofs.Walk.Inside.{InCylinder, near}
use Rattle.truth.proofs.Walk.Boxed.{Around, around, Holds, nearest, nearest_bounded, r0_bounded, r1_bounded}
use Rattle.truth.proofs.Walk.Seen.{seen_within}
use Rattle.walk.specs.Cover.{Covered}

module _ (e m : ℕ) (S : Scaled e m) (s : List Float) (b : RadialBand) (tol : Float) (cap k : ℕ) (O : Coverable b tol cap)
    (B : BandSized e b)
    (g : ℕ) (G : 30 * half binary64 ≤ g * g) {n X Y Z : ℕ} (C : InCylinder b n X Y Z) where
  abbrev u : ℕ
  u = 2 ^ e

  abbrev L : InLimit b
  L = O.band

  abbrev w : Walk
  w = walk_all s b tol cap k

  number_at : {j : ℕ} {x : Float} → Bounded binary64 j x → T (number binary64 x)
  number_at {x = x} X = number_of binary64 x X.sure

  abbrev z : Float
  z = nearest e m S B L g G C

  Z' : Bounded binary64 (prec binary64 + suc e) z
  Z' = nearest_bounded e m S B L g G C

  P : Half e m S B (half_width b z)
  P = record { bounded = half_bounded e m S B Z'; least = half_least e m S B Z' }

  -- a measured box that holds z's span
  pub holds : (p : Piece) → PieceWithin e p → T ((piece_box b p).z0 ≼ z) → T (z ≼ (piece_box b p).z1)
      → T ((piece_box b p).r0 ≼ (span_at b (half_width b z)).lo)
      → T ((span_at b (half_width b z)).hi ≼ (piece_box b p).r1) → Holds e m S B L g G C p
  holds p W h i j l = record {
    within = W;
    z_from = le→key binary64 p.z0 z (number_at W.z0) (number_at Z') (unfold piece_box in h);
    z_to = le→key binary64 z p.z1 (number_at Z') (number_at W.z1) (unfold piece_box in i);
    r_from = le→key binary64 (piece_box b p).r0 (span_at b (half_width b z)).lo (number_at (r0_bounded e m S B W))
        (number_at (lo_bounded e m S B P)) j;
    r_to = le→key binary64 (span_at b (half_width b z)).hi (piece_box b p).r1 (number_at (hi_bounded e m S B P))
        (number_at (r1_bounded e m S B W)) l;
  }

  -- the cover at the nearest f64
  pub covered_at : w.cut ≡ false → Covered s b tol w z
  covered_at c =
      let P' = whole_within e m S B in
      (covers s b tol cap k O).uncut c z (place_held e m S B n Z C.some (near e m S B g G C))
      (key→le binary64 (whole_width b).z0 z (number_at P'.z0) (number_at Z') (from e m S B n Z C.some (near e m S B g G C)))
      (key→le binary64 z (whole_width b).z1 (number_at Z') (number_at P'.z1) (to e m S B n Z C.some (near e m S B g G C)))

  pub held_at : (c : w.cut ≡ false) → Holds e m S B L g G C (covered_at c).piece
  held_at c = let v = covered_at c in
      holds v.piece (seen_within e m S s b tol B cap k v.piece v.measured) v.from v.to v.inner v.outer

  pub around_at : (c : w.cut ≡ false) → Around e ((g + 2) * u + 2 * u) n X Y Z (piece_box b (covered_at c).piece)
  around_at c = around e m S B L g G C (held_at c)
