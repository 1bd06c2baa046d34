-- Every place of a piece that waits ends in a measured piece that is settled, unless the walk is cut: what is measured
-- stays so, a half holds each place of what is halved, and the best distance does not rise.
use Prim.Native.Nat.{ℕ, zero, suc, ◌≤◌}
use mathlib.Core.Path.{◌≡◌, refl}
use mathlib.Core.Logic.{inl, inr, ◌⊎◌}
use mathlib.Core.Bool.{Bool, true, false, true≢false}
use mathlib.Core.List.{List, [], ◌∷◌, Memᴰ}
use native.Mathlib.Nat.{le_refl, le_trans, le_of_lt}
use lib.ListN.{length}
use lib.Ieee.{Float}
use Rattle.arith.specs.F64.{◌⊖◌}
use Rattle.arith.proofs.roots.Numbers.{decide}
use Rattle.walk.specs.bands.Band.{mean}
use Rattle.walk.specs.pieces.Pieces.{variation, box_hit}
use Rattle.walk.specs.declared.pieces.shapes.Piece.{Piece}
use Rattle.walk.specs.Walk.{Walk, halved, marked, waiting, measured, walk}
use Rattle.walk.specs.declared.bands.shapes.RadialBand.{RadialBand}
use Rattle.arith.proofs.Laws.Sizes.{K, Number}
use Rattle.walk.proofs.bands.Limit.{InLimit}
use Rattle.walk.proofs.Demand.Pieces.{Sound}
use Rattle.walk.proofs.Cover.Depth.{Tolerance}
use Rattle.walk.proofs.Cover.Turns.{Settles, settles_down, Ready, TurnOf, turn_of, next}

module _ (s : List Float) (b : RadialBand) (tol : Float) (B : InLimit b) (t : Tolerance tol) where
  -- what each turn keeps, the walk keeps
  keeps : (P : Walk → Type 0) → ((w : Walk) → P w → P (marked w))
      → ((p : Piece) (ps : List Piece) (w : Walk) → TurnOf s b tol B t p w.best → P w → P (measured s b tol p ps w))
      → (n : ℕ) (ps : List Piece) (w : Walk) → Ready ps → Number w.best.distance → P w → P (walk s b tol n ps w)
  unfolding walk
  keeps P mark step zero [] w r nb h = h
  keeps P mark step zero (p ∷ ps) w r nb h = mark w h
  keeps P mark step (suc n) [] w r nb h = h
  keeps P mark step (suc n) (p ∷ ps) w r nb h =
      let T' = turn_of s b tol B t (length ps) p w.best r.0 nb in
      keeps P mark step n (waiting s b tol p ps w.best) (measured s b tol p ps w)
      (next s b tol B t p ps w.best r nb).ready T'.number (step p ps w T' h)

  -- the best distance is a number of key at most k
  abbrev Best : ℕ → Walk → Type 0
  Best k w = Number w.best.distance × (K w.best.distance ≤ k)

  pub best_keeps : (k n : ℕ) (ps : List Piece) (w : Walk) → Ready ps → Best k w → Best k (walk s b tol n ps w)
  best_keeps k n ps w r h =
      keeps (Best k) (λ w h. h) (λ p ps w T' h. (T'.number, le_trans T'.lower h.1)) n ps w r h.0 h

  -- ---- the cover
  pub record Found (z : Float) (w : Walk) : Type 0 where
    pub piece : Piece
    pub seen : Memᴰ piece w.seen
    pub sound : Sound piece
    pub from : K piece.z0 ≤ K z
    pub to : K z ≤ K piece.z1
    pub settles :
        Settles tol (box_hit s b piece).distance (variation b piece) (piece.z1 ⊖ piece.z0) (K w.best.distance)

  abbrev Inside : Float → Piece → Type 0
  Inside z p = (K p.z0 ≤ K z) × (K z ≤ K p.z1)

  abbrev pub Waits : Float → List Piece → Type 0
  Waits z [] = ⊥
  Waits z (p ∷ ps) = Inside z p ⊎ Waits z ps

  pub found : (z : Float) (n : ℕ) (ps : List Piece) (w : Walk) → Ready ps → Number w.best.distance → Waits z ps
      → (walk s b tol n ps w).cut ≡ false → Found z (walk s b tol n ps w)
  unfolding walk
  found z zero [] w r nb h e = absurd h
  found z zero (p ∷ ps) w r nb h e = absurd (true≢false e)
  found z (suc n) [] w r nb h e = absurd h
  found z (suc n) (p ∷ ps) w r nb h e =
      go (found z n rest now ready T'.number) (halved tol (box_hit s b p) (variation b p) w.best p) refl h
    where
      rest : List Piece
      rest = waiting s b tol p ps w.best

      now : Walk
      now = measured s b tol p ps w

      ready : Ready rest
      ready = (next s b tol B t p ps w.best r nb).ready

      T' : TurnOf s b tol B t p w.best
      T' = turn_of s b tol B t (length ps) p w.best r.0 nb

      seen : Memᴰ p (walk s b tol n rest now).seen
      seen =
          keeps (λ w. Memᴰ p w.seen) (λ w h. h) (λ p ps w T' h. Memᴰ.tail h) n rest now ready T'.number
          (Memᴰ.head refl)

      k : ℕ
      k = K now.best.distance

      lower : K (walk s b tol n rest now).best.distance ≤ k
      lower = (best_keeps k n rest now ready (T'.number, le_refl k)).1

      go : (Waits z rest → (walk s b tol n rest now).cut ≡ false → Found z (walk s b tol n rest now))
          → (x : Bool) → halved tol (box_hit s b p) (variation b p) w.best p ≡ x → Inside z p ⊎ Waits z ps
          → Found z (walk s b tol n rest now)
      go rec true q (inl l) = elim (decide (K (mean p.z0 p.z1)) (K z)) [
        | inl g ↦ rec (rw q (inl (g, l.1))) e
        | inr g ↦ rec (rw q (inr (inl (l.0, le_of_lt g)))) e
      ]
      go rec true q (inr l) = rec (rw q (inr (inr l))) e
      go rec false q (inr l) = rec (rw q l) e
      go rec false q (inl l) =
          record {
            piece = p;
            seen = seen;
            sound = r.0.sound;
            from = l.0;
            to = l.1;
            settles = settles_down tol (box_hit s b p).distance (variation b p) (p.z1 ⊖ p.z0) k _ lower
                (T'.settled q);
          }
