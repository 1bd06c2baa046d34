-- From a seed other than 0 the state never becomes 0. Each of a step's three xors gives 0 only where a number equals its own
-- shift, and that number is 0.
use Prim.Native.Nat.{ℕ, zero, suc, ◌+◌, ◌-◌, ◌*◌, ◌/◌, ◌%◌, ◌^◌, ◌<◌}
use native.Mathlib.Nat.{mod-lt, pow-suc}
use native.Mathlib.Omega.{arith}
use mathlib.Core.Path.{◌≡◌, refl, ap, subst}
use lib.Bits.{bit_xor, xor_add_and, and_le_l, and_le_r, xor_lt}
use lib.Pow.{pow_pos}
use Rattle.loads.specs.Xorshift.{shifted_left, shifted_right, xorshift, state_after}

xor_zero : (a b : ℕ) → bit_xor a b ≡ 0 → a ≡ b
xor_zero a b e = omega (arith, e, xor_add_and a b, and_le_l a b, and_le_r a b)

-- ---- what equals its own shift is 0
-- Of any width w: an x that is its own even multiple up to multiples of 2 ^ w is even, and so is its half, w times over.
own_multiple : (w x q J : ℕ) → x < 2 ^ w → x * (2 * J) ≡ q * 2 ^ w + x → x ≡ 0
own_multiple zero x q J h e = omega arith
own_multiple (suc w) x q J h e =
    let y = x * J - q * 2 ^ w in
    let width = pow-suc 2 w in
    let wide : x * (2 * J) ≡ q * (2 ^ w * 2) + x = subst (λ (p : ℕ). x * (2 * J) ≡ q * p + x) width e in
    let half : x ≡ 2 * y = omega (arith, wide) in
    let rest : y * (2 * J) ≡ q * 2 ^ w + y = omega (arith, wide, ap (λ (z : ℕ). z * J) half) in
    let none : y ≡ 0 = own_multiple w y q J (omega (arith, width, half)) rest in
    omega (arith, half, none)

left_thirteen : (x : ℕ) → x < 2 ^ 64 → x ≡ x * 2 ^ 13 % 2 ^ 64 → x ≡ 0
left_thirteen x h e = own_multiple 64 x (x * 2 ^ 13 / 2 ^ 64) (2 ^ 12) h (omega (arith, e))

left_seventeen : (x : ℕ) → x < 2 ^ 64 → x ≡ x * 2 ^ 17 % 2 ^ 64 → x ≡ 0
left_seventeen x h e = own_multiple 64 x (x * 2 ^ 17 / 2 ^ 64) (2 ^ 16) h (omega (arith, e))

right_seven : (x : ℕ) → x ≡ x / 2 ^ 7 → x ≡ 0
right_seven x e = omega arith

-- ---- the three numbers of a step are u64
left_small : (k x : ℕ) → x < 2 ^ 64 → bit_xor x (shifted_left k x) < 2 ^ 64
left_small k x h = xor_lt 64 x (shifted_left k x) h (mod-lt (x * 2 ^ k) (pow_pos 64))

right_small : (x : ℕ) → x < 2 ^ 64 → bit_xor x (shifted_right 7 x) < 2 ^ 64
right_small x h = xor_lt 64 x (shifted_right 7 x) h (omega arith)

pub step_small : (x : ℕ) → x < 2 ^ 64 → xorshift x < 2 ^ 64
unfolding xorshift
step_small x h =
    let a = bit_xor x (shifted_left 13 x) in
    let b = bit_xor a (shifted_right 7 a) in
    left_small 17 b (right_small a (left_small 13 x h))

-- a step gives 0 only for 0
pub step_zero : (x : ℕ) → x < 2 ^ 64 → xorshift x ≡ 0 → x ≡ 0
unfolding xorshift
step_zero x h e =
    let a = bit_xor x (shifted_left 13 x) in
    let b = bit_xor a (shifted_right 7 a) in
    let small = left_small 13 x h in
    let third : b ≡ 0 = left_seventeen b (right_small a small) (xor_zero b (shifted_left 17 b) e) in
    let second : a ≡ 0 = right_seven a (xor_zero a (shifted_right 7 a) third) in
    left_thirteen x h (xor_zero x (shifted_left 13 x) second)

module _ (seed : ℕ) (small : seed < 2 ^ 64) where
  pub state_small : (i : ℕ) → state_after seed i < 2 ^ 64
  unfolding state_after
  state_small zero = small
  state_small (suc i) = step_small (state_after seed i) (state_small i)

  pub state_nonzero : (seed ≡ 0 → ⊥) → (i : ℕ) → state_after seed i ≡ 0 → ⊥
  unfolding state_after
  state_nonzero h zero e = h e
  state_nonzero h (suc i) e = state_nonzero h i (step_zero (state_after seed i) (state_small i) e)

-- Marsaglia's generator from seed 1, by computation
pub first_states :
    (state_after 1 1 ≡ 0x40822041) × (state_after 1 2 ≡ 0x100041060c011441) × (state_after 1 3 ≡ 0x9b1e842f6e862629)
unfolding state_after xorshift
first_states = (refl, refl, refl)
