-- A leg lies within its hypotenuse, on both sides of zero: by the order of the keys.
use Rattle.std.proofs.Common.{ℕ, ◌+◌, ◌≤◌, Bool, true, false, T, arith}
use lib.Ieee.{Float, Format}
use Rattle.arith.proofs.Laws.Hypot.{hypot_ge, hypot_ge_right, hypot_number, unsigned, unsigned_key, unsigned_number}
use Rattle.arith.proofs.roots.Rounding.Key.{key, key_is, magnitude, magnitude_le, mid, negative, number, side}
use Rattle.arith.proofs.roots.Rounding.KeyOrder.{le→key}
use Rattle.arith.specs.roots.Roots.{hypot}

-- |x| ≤ h
pub record Leg (f : Format) (x h : Float) : Type 0 where
  pub most : key f x ≤ key f h
  pub least : mid f + mid f ≤ key f x + key f h

module _ (f : Format) (x y : Float) (p : T (number f x)) (q : T (number f y)) where
  leg : (z : Float) → T (number f z) → key f (unsigned z) ≤ key f (hypot f x y) → Leg f z (hypot f x y)
  leg z w h = record { most = rw (key_is f z) s.0; least = rw (key_is f z) s.1 }
    where
      within : (M : ℕ) (s : Bool) (t k : ℕ) → t ≤ M → M + t ≤ k → (side M s t ≤ k) × (M + M ≤ side M s t + k)
      within M false t k a b = omega arith
      within M true t k a b = omega arith

      s : (side (mid f) (negative z) (magnitude f z) ≤ key f (hypot f x y))
          × (mid f + mid f ≤ side (mid f) (negative z) (magnitude f z) + key f (hypot f x y))
      s = within (mid f) (negative z) (magnitude f z) (key f (hypot f x y)) (magnitude_le f z w) (rw (unsigned_key f z w) at h)

  pub first_leg : Leg f x (hypot f x y)
  first_leg =
      leg x p (le→key f (unsigned x) (hypot f x y) (unsigned_number f x p) (hypot_number f x y p q) (hypot_ge f x y p q))

  pub second_leg : Leg f y (hypot f x y)
  second_leg =
      leg y q (le→key f (unsigned y) (hypot f x y) (unsigned_number f y q) (hypot_number f x y p q) (hypot_ge_right f x y p q))
