-- What is printed of an f64.
use Rattle.std.specs.Prelude.{ℕ, cond, Float}
use Rattle.std.specs.Float.{binary64}
use Rattle.std.specs.Float.Ieee.{eq, of_bits, to_bits}

-- the pattern of its bits: 7ff8000000000000 for a NaN, and 0 for both zeros
abbrev pub printed : Float → ℕ
printed x = cond (eq x (of_bits binary64 0)) 0 (to_bits binary64 x)
