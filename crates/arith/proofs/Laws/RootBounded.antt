-- Roots in the calculus of bounds: a root of at most (2 ^ k) squared is at most 2 ^ k.
use Rattle.std.proofs.Common.{ℕ, zero, suc, ◌+◌, ◌*◌, ◌^◌, ◌<◌, ◌≤◌, sym, subst, le_trans, le_of_suc-le-suc, add-le-add, mul-le-mul_right, mul-le-mul, one-mul, arith, pow_mono, pow-add}
use native.Mathlib.Nat.{two-pow-succ}
use lib.Ieee.{Float, Format, low}
use Rattle.arith.proofs.Laws.Bounded.{Bounded, bounded_of_within, one_lt, overflow}
use Rattle.arith.proofs.Laws.HypotKey.{root_not_negative, sqrt_is}
use Rattle.arith.proofs.Laws.RootKey.{root_le, root_number}
use Rattle.arith.proofs.roots.Rounding.Key.{key, mid, unit}
use Rattle.arith.proofs.roots.Rounding.Product.{positive_part}
use Rattle.arith.specs.roots.Roots.{root, sqrt}

-- a root: N at most (2 ^ k) squared
pub root_bounded : (f : Format) (k N : ℕ) → k < overflow f → N ≤ 2 ^ k * 2 ^ k → Bounded f k (root f N)
root_bounded f k N K h =
    let l = root_not_negative f N in
    let u = root_le f N 1 k (one_lt f) (rw (one-mul (2 ^ k)) h) in
    bounded_of_within f k (root f N) (root_number f N) K (record { lower = omega arith; upper = u })

-- the squares of two numbers below 2 ^ k make at most the square of 2 ^ k
pub squares_le : (a b i j k : ℕ) → a ≤ 2 ^ i → b ≤ 2 ^ j → i < k → j < k → a * a + b * b ≤ 2 ^ k * 2 ^ k
squares_le a b i j zero h l m n = let c : ⊥ = omega arith in absurd c
squares_le a b i j (suc k) h l m n =
    let x : a ≤ 2 ^ k = le_trans h (pow_mono (le_of_suc-le-suc m)) in
    let y : b ≤ 2 ^ k = le_trans l (pow_mono (le_of_suc-le-suc n)) in
    le_trans (add-le-add (mul-le-mul x x) (mul-le-mul y y)) (rw (two-pow-succ k) (omega arith))

pub sqrt_bounded : (f : Format) (i k : ℕ) (x : Float) → k < overflow f → i + low f ≤ k + k → Bounded f i x
    → mid f < key f x → Bounded f k (sqrt f x)
sqrt_bounded f i k x K a X h =
    subst (λ (z : Float). Bounded f k z) (sym (sqrt_is f x X.sure h))
    (root_bounded f k (positive_part f x * unit f) K (le_trans (mul-le-mul_right (unit f)
    (let c : positive_part f x ≤ 2 ^ i = omega arith in c)) (quot a)))
  where
    quot : i + low f ≤ k + k → 2 ^ i * unit f ≤ 2 ^ k * 2 ^ k
    quot a = unfold unit in rw (← pow-add 2 i (low f), ← pow-add 2 k k) (pow_mono a)
