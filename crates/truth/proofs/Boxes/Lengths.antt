-- WHAT IS ASKED of a scale, of a side's length, and of an edge and a side: their coordinates, and Ericson's dot products of them.
use Prim.Native.Nat.{◌*◌, ◌+◌, ◌-◌, ◌<◌, ◌^◌, suc, ℕ, ◌≤◌}
use mathlib.Core.Path.{◌≡◌}
use lib.Ieee.{binary64, Float, prec}
use Rattle.arith.specs.F64.{◌⊖◌, ◌⊗◌, e_18, e_24}
use Rattle.arith.proofs.Laws.Bounded.{Bounded}
use Rattle.arith.proofs.Laws.Sizes.{Finite, K, M}
use Rattle.arith.specs.Whole.{apart}
use Rattle.truth.proofs.Boxes.Chain.{Small}
use Rattle.truth.proofs.Boxes.Floats.{H}
use Rattle.truth.proofs.Boxes.Floats.{U}
use Rattle.truth.proofs.Boxes.Signed.{Sum}

-- ---- what the theorem needs of e and of the side's length h
pub record Slim (e h : ℕ) : Type 0 where
  pub most : prec binary64 + e ≤ 1097
  pub range : 2 ^ (prec binary64 + suc e) ≤ M
  pub hypots : 2 ^ (prec binary64 + suc (suc (suc (suc e)))) ≤ M
  pub little : 2 * ((K e_24 - M) * U) + 4 * U ≤ 403 * (2 ^ e * 2 ^ e)
  pub small : Small U (2 ^ e) H h
  pub some : 0 < h

-- and of a side that is not so short that 1e-18 counts, or 1e-24
pub record Coarse (e h : ℕ) : Type 0 where
  pub slim : Slim e h
  pub tiny : (K e_18 - M) * (U * (U * U)) ≤ 500 * (H * 2 ^ e * 2 ^ e * (h * h))
  pub long : 2 * ((K e_24 - M) * U) ≤ h * h

-- what is known of a scale: e, and the length from which a side is not thin
pub record Scale (e H₀ : ℕ) : Type 0 where
  pub slim : Slim e (2 ^ 600)
  pub coarse : (h : ℕ) → H₀ ≤ h → Coarse e h

-- a coordinate
abbrev pub Coordinate : ℕ → Float → Type 0
Coordinate e = Bounded binary64 (prec binary64 + e)

-- the edge from a to b and the side from q to q', of which x is along the side and y across it
pub record Side (e : ℕ) (ax bx ay by qx q'x qy q'y : Float) : Type 0 where
  pub a_along : Coordinate e ax
  pub b_along : Coordinate e bx
  pub a_across : Coordinate e ay
  pub b_across : Coordinate e by
  pub q_along : Coordinate e qx
  pub q'_along : Coordinate e q'x
  pub q_across : Coordinate e qy
  pub q'_across : Coordinate e q'y
  pub level : K q'y ≡ K qy
  pub slim : Slim e (apart (K q'x) (K qx))

-- z is rounded from x x' + y y'
pub record Dotted (z x x' y y' : Float) : Type 0 where
  pub finite : Finite 50 z
  pub sum : Sum M U H (K z) (K (x ⊗ x')) (K (y ⊗ y'))

-- Ericson's five dot products
pub record Dots (ax bx ay by qx q'x qy q'y a b c e f : Float) : Type 0 where
  pub a_dots : Dotted a (bx ⊖ ax) (bx ⊖ ax) (by ⊖ ay) (by ⊖ ay)
  pub b_dots : Dotted b (bx ⊖ ax) (q'x ⊖ qx) (by ⊖ ay) (q'y ⊖ qy)
  pub c_dots : Dotted c (bx ⊖ ax) (ax ⊖ qx) (by ⊖ ay) (ay ⊖ qy)
  pub e_dots : Dotted e (q'x ⊖ qx) (q'x ⊖ qx) (q'y ⊖ qy) (q'y ⊖ qy)
  pub f_dots : Dotted f (q'x ⊖ qx) (ax ⊖ qx) (q'y ⊖ qy) (ay ⊖ qy)
