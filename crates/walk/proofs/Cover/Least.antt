-- The least box distance that the walk has seen is that of one of the measured boxes, and no greater than that of any.
use Prim.Native.Nat.{ℕ, zero, suc, ◌≤◌, zero-le, suc-le-suc, min as minℕ}
use mathlib.Core.Path.{◌≡◌, refl, sym, ap, ◌∙◌, subst}
use mathlib.Core.Logic.{inl, inr, ◌⊎◌}
use mathlib.Core.Bool.{Bool, true, cond}
use mathlib.Core.List.Memᴰ
use mathlib.Core.List.{List, [], ◌∷◌, Memᴰ}
use native.Mathlib.Omega.{arith}
use lib.ListN.{length}
use lib.Dec.{T}
use lib.Ieee.{Float, binary64}
use Rattle.arith.specs.F64.{◌≼◌, ∞}
use Rattle.arith.specs.Num.{min}
use Rattle.arith.proofs.roots.Rounding.KeyOrder.{key→le}
use Rattle.arith.proofs.Laws.Order.{min_infinity, min_key}
use Rattle.section.specs.declared.profile.shapes.CollisionHit.{CollisionHit}
use Rattle.walk.specs.pieces.Pieces.{piece_box, box_hit}
use Rattle.walk.specs.declared.pieces.shapes.Piece.{Piece}
use Rattle.walk.specs.Walk.{Walk, start, waiting, measured, walk, reported}
use Rattle.walk.specs.Cover.{Least}
use Rattle.walk.specs.declared.bands.shapes.RadialBand.{RadialBand}
use Rattle.arith.proofs.Laws.Sizes.{K, Number, min_keeps}
use Rattle.section.proofs.profile.Numbers.{infinite}
use Rattle.section.proofs.profile.Steps.{pick}
use Rattle.section.proofs.Numbers.{box_number}

module _ (s : List Float) (b : RadialBand) where
  least_of : List Piece → Float
  least_of [] = ∞
  least_of (p ∷ ps) = min (least_of ps) (box_hit s b p).distance

  least_number : (l : List Piece) → Number (least_of l)
  unfolding least_of
  least_number [] = infinite
  least_number (p ∷ l) = min_keeps Number (least_number l) (box_number s (piece_box b p))

  -- no greater than any
  least_low : (l : List Piece) (p : Piece) → Memᴰ p l → K (least_of l) ≤ K (box_hit s b p).distance
  unfolding least_of
  least_low [] p m = elim m [ ]
  least_low (q ∷ l) p m = go (Memᴰ.cases_cons m) (least_low l p)
    where
      k : K (least_of (q ∷ l)) ≡ minℕ (K (least_of l)) (K (box_hit s b q).distance)
      k = min_key binary64 (least_of l) (box_hit s b q).distance (least_number l) (box_number s (piece_box b q))

      go : (p ≡ q) ⊎ Memᴰ p l → (Memᴰ p l → K (least_of l) ≤ K (box_hit s b p).distance)
          → K (least_of (q ∷ l)) ≤ K (box_hit s b p).distance
      go (inl e) h = rw (k, e) (omega arith)
      go (inr r) h = rw k (omega (arith, h r))

  -- one of them
  record One (x : Float) (l : List Piece) : Type 0 where
    piece : Piece
    seen : Memᴰ piece l
    equal : x ≡ (box_hit s b piece).distance

  one : (l : List Piece) → 1 ≤ length l → One (least_of l) l
  unfolding least_of
  one [] h = let c : ⊥ = omega arith in absurd c
  one (p ∷ []) h = record { piece = p; seen = Memᴰ.head refl; equal = min_infinity (box_hit s b p).distance }
  one (p ∷ (q ∷ l)) h =
      let o = one (q ∷ l) (suc-le-suc zero-le) in
      pick (λ (x : Float). One x (p ∷ (q ∷ l))) (least_of (q ∷ l) ≼ (box_hit s b p).distance)
      (λ h. record { piece = o.piece; seen = Memᴰ.tail o.seen; equal = o.equal })
      (λ h. record { piece = p; seen = Memᴰ.head refl; equal = refl })

  module _ (tol : Float) where
    -- what the walk keeps is the least of what it has measured
    keeps_least : (n : ℕ) (ps : List Piece) (w : Walk) → w.least ≡ least_of w.seen
        → (walk s b tol n ps w).least ≡ least_of (walk s b tol n ps w).seen
    unfolding walk least_of
    keeps_least zero [] w h = h
    keeps_least zero (p ∷ ps) w h = h
    keeps_least (suc n) [] w h = h
    keeps_least (suc n) (p ∷ ps) w h =
        keeps_least n (waiting s b tol p ps w.best) (measured s b tol p ps w)
        (ap (λ (x : Float). min x (box_hit s b p).distance) h)

    pub least : (n : ℕ) (ps : List Piece) (best : CollisionHit) → (walk s b tol n ps (start best)).cut ≡ true
        → 1 ≤ length (walk s b tol n ps (start best)).seen → Least s b tol (walk s b tol n ps (start best))
    unfolding least_of
    least n ps best e l =
        record {
          piece = o.piece;
          measured = o.seen;
          equal = is ∙ o.equal;
          below = λ p m. subst (λ (x : Float). T (x ≼ (box_hit s b p).distance)) (sym is)
              (key→le binary64 (least_of w.seen) (box_hit s b p).distance (least_number w.seen)
              (box_number s (piece_box b p)) (least_low w.seen p m));
        }
      where
        w : Walk
        w = walk s b tol n ps (start best)

        is : reported w ≡ least_of w.seen
        is = ap (λ (c : Bool). cond c w.least w.best.distance) e ∙ keeps_least n ps (start best) refl

        o : One (least_of w.seen) w.seen
        o = one w.seen l
