-- Marsaglia's 64-bit xorshift with the shifts 13, 7 and 17 (Xorshift RNGs, Journal of Statistical Software 8, 2003). The state is
-- a u64.
use Rattle.std.specs.Prelude.{ℕ, zero, suc, ◌*◌, ◌/◌, ◌%◌, ◌^◌}
use Rattle.std.specs.Int.Bits.{bit_xor}

-- a u64 shifted left, its high bits dropped
abbrev pub shifted_left : ℕ → ℕ → ℕ
shifted_left k x = x * 2 ^ k % 2 ^ 64

abbrev pub shifted_right : ℕ → ℕ → ℕ
shifted_right k x = x / 2 ^ k

-- one step: xored with itself shifted left 13, then right 7, then left 17
unfoldable pub xorshift : ℕ → ℕ
xorshift x =
    let a = bit_xor x (shifted_left 13 x) in
    let b = bit_xor a (shifted_right 7 a) in
    bit_xor b (shifted_left 17 b)

-- the state after i steps
unfoldable pub state_after : ℕ → ℕ → ℕ
state_after state zero = state
state_after state (suc i) = xorshift (state_after state i)
