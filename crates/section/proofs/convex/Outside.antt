-- A point outside a convex body has no distance below 0, so that it lowers nothing that is at most 0; and what is lowered stays
-- at most 0. By the signs alone.
use Prim.Native.Nat.{ℕ, zero, suc, ◌+◌, ◌*◌}
use native.Mathlib.Nat.{zero-mul}
use native.Mathlib.Omega.{arith}
use borrow.Author.Tests.{lt-ltb}
use mathlib.Core.Bool.{Bool, true, false, not, cond, ◌&&◌, ◌||◌}
use mathlib.Core.List.{List}
use mathlib.Core.Path.{◌≡◌, refl, subst}
use lib.Dec.{T, eqb, ltb}
use lib.Ieee.{Float, down, eq, fin, inf, le, lt, nan, of_bits, up}
use Rattle.arith.specs.F64.{◌≺◌, ◌≼◌, 𝟘, e_12}
use Rattle.arith.specs.Num.{is_finite}
use Rattle.arith.proofs.Laws.Upright.{not_below, over_upright}
use Rattle.section.specs.declared.profile.shapes.Vertex.{Vertex}
use Rattle.section.specs.convex.Convex.{point_in_convex, convex_near, signed_distance_convex}

module _ (b : Float) (low : (b ≼ 𝟘) ≡ true) where
  -- 0 where it is not finite, 0, or d where it is over 1e-12
  kept_convex : (d : Float) (t u : Bool) → is_finite d ≡ t → (d ≼ e_12) ≡ u → (cond (not t || u) 𝟘 d ≺ b) ≡ false
  unfolding of_bits
  kept_convex d true true f g = not_below 𝟘 b tt low
  kept_convex d true false f g = not_below d b (over_upright d f g) low
  kept_convex d false u f g = not_below 𝟘 b tt low

  pub convex_outside : (c : List Float) (p : Vertex) → point_in_convex c p ≡ false → (signed_distance_convex c p ≺ b) ≡ false
  unfolding signed_distance_convex
  convex_outside c p e = rw e (kept_convex (convex_near c p) _ _ refl refl)

-- what is below a value that is at most 0 is at most 0
pub zero_low : (𝟘 ≼ 𝟘) ≡ true
unfolding of_bits le lt eq
zero_low = refl

at_most_0 : (a b : ℕ) → b ≡ 0 → (ltb 0 (a + b) || (eqb a b && eqb a 0)) ≡ true
at_most_0 zero b e = rw e
at_most_0 (suc a) b e = rw (lt-ltb 0 (suc a + b) (omega arith))

pub below_low : (x b : Float) → (b ≼ 𝟘) ≡ true → T (x ≺ b) → (x ≼ 𝟘) ≡ true
unfolding of_bits le lt eq
below_low nan b low h = absurd h
below_low (inf true) b low h = refl
below_low (inf false) b low h = absurd (subst (λ (t : Bool). T t) (not_below (inf false) b tt low) h)
below_low (fin false m e) b low h = absurd (subst (λ (t : Bool). T t) (not_below (fin false m e) b tt low) h)
below_low (fin true m e) b low h = at_most_0 (m * up e * 1) (0 * down e) (zero-mul (down e))
