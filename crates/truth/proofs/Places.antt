-- The places of specs/Exact are the keys of the roundings; and a smaller distance exceeds by no more.
use Prim.Native.Nat.{◌*◌, ◌-◌, ◌≤◌, ℕ}
use mathlib.Core.Bool.{false, true}
use mathlib.Core.Path.{◌≡◌, refl}
use native.Mathlib.Nat.{le_trans, mul-le-mul, mul-le-mul_left}
use native.Mathlib.Omega.{arith}
use lib.Ieee.{fin, Float, inf, nan}
use Rattle.arith.proofs.Laws.Sizes.{K, M}
use Rattle.arith.proofs.roots.Rounding.Key.{key, magnitude, mid, unit}
use Rattle.arith.specs.Whole.{apart}
use Rattle.truth.specs.Exact.{NotOver, origin, place, size, units}

pub origin_is : origin ≡ M
unfolding origin mid
origin_is = refl

pub place_is : (x : Float) → place x ≡ K x
unfolding place key magnitude unit origin mid
place_is nan = refl
place_is (inf false) = refl
place_is (inf true) = refl
place_is (fin false m e) = refl
place_is (fin true m e) = refl

-- of what is not negative
pub size_is : (x : Float) → M ≤ K x → size x ≡ K x - M
unfolding size
size_is x h = rw (place_is x, origin_is) (go (K x) M h)
  where
    go : (k m : ℕ) → m ≤ k → apart k m ≡ k - m
    go k m h = unfold apart in omega arith

-- as a distance
pub units_is : (x : Float) → units x ≡ K x - M
units_is x = rw (place_is x, origin_is) refl

-- a smaller distance, or a larger error
pub not_over_less : (ε δ w v n : ℕ) → v - δ ≤ w - ε → {d : ℕ} → NotOver ε w n d → NotOver δ v n d
not_over_less ε δ w v n h k = let l : n * (v - δ) ≤ n * (w - ε) = mul-le-mul_left n h in le_trans (mul-le-mul l l) k
