-- How many boxes the walk measures, when it is cut, and how many pieces wait: at most one more than the halvings that
-- the deepest has behind it.
use Prim.Native.Nat.{ℕ, zero, suc, ◌+◌, ◌≤◌}
use mathlib.Core.Path.{◌≡◌, refl}
use mathlib.Core.Logic.{inl, inr, ◌⊎◌}
use mathlib.Core.Bool.{false}
use mathlib.Core.List.{List, [], ◌∷◌}
use native.Mathlib.Omega.{arith}
use lib.ListN.{length}
use lib.Ieee.{Float}
use Rattle.walk.specs.declared.pieces.shapes.Piece.{Piece}
use Rattle.walk.specs.Walk.{Walk, waiting, measured, walk, left}
use Rattle.walk.specs.Cover.{waits}
use Rattle.walk.specs.declared.bands.shapes.RadialBand.{RadialBand}
use Rattle.arith.proofs.Laws.Sizes.{Number}
use Rattle.walk.proofs.bands.Limit.{InLimit}
use Rattle.walk.proofs.Cover.Depth.{Tolerance}
use Rattle.walk.proofs.Cover.Turns.{Ready, turn_of, next}

module _ (s : List Float) (b : RadialBand) (tol : Float) where
  -- at most n boxes more, and none fewer
  pub boxes : (n : ℕ) (ps : List Piece) (w : Walk)
      → (length w.seen ≤ length (walk s b tol n ps w).seen)
      × (length (walk s b tol n ps w).seen ≤ n + length w.seen)
  unfolding walk
  boxes zero [] w = (omega arith, omega arith)
  boxes zero (p ∷ ps) w = (omega arith, omega arith)
  boxes (suc n) [] w = (omega arith, omega arith)
  boxes (suc n) (p ∷ ps) w =
      let rest = boxes n (waiting s b tol p ps w.best) (measured s b tol p ps w) in
      (omega (arith, rest.0), omega (arith, rest.1))

  -- cut exactly when a piece still waits
  pub due : (n : ℕ) (ps : List Piece) (w : Walk) → w.cut ≡ false
      → (walk s b tol n ps w).cut ≡ waits (left s b tol n ps w.best)
  unfolding walk left
  due zero [] w e = e
  due zero (p ∷ ps) w e = refl
  due (suc n) [] w e = e
  due (suc n) (p ∷ ps) w e = due n (waiting s b tol p ps w.best) (measured s b tol p ps w) refl

  -- at most 53 pieces wait
  pub few : InLimit b → Tolerance tol → (n : ℕ) (ps : List Piece) (w : Walk) → Ready ps → Number w.best.distance
      → length ps ≤ 53 → w.most ≤ 53 → (walk s b tol n ps w).most ≤ 53
  unfolding walk
  few B t zero [] w r nb l h = h
  few B t zero (p ∷ ps) w r nb l h = h
  few B t (suc n) [] w r nb l h = h
  few B t (suc n) (p ∷ ps) w r nb l h =
      let rest = waiting s b tol p ps w.best in
      let N = next s b tol B t p ps w.best r nb in
      let m : length rest ≤ 53 = within (length rest) (length ps) N.few l in
      few B t n rest (measured s b tol p ps w) N.ready
      (turn_of s b tol B t (length ps) p w.best r.0 nb).number m (omega arith)
    where
      within : (a c : ℕ) → (a ≤ c) ⊎ (a ≤ 53) → suc c ≤ 53 → a ≤ 53
      within a c (inl h) l = omega arith
      within a c (inr h) l = h
