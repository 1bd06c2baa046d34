-- Every decimal constant of document 01 is the f64 nearest its decimal, and roots at the edges of the formats, by computation.
--
use Rattle.std.proofs.Common.{◌≡◌, ℕ, ◌^◌, true, false, [], ◌∷◌, map, refl}
use lib.Ieee.{Float, nan, inf, binary32, binary64, of_bits, round}
use Rattle.arith.specs.F64.{e_8, e_9, e_12, e_15, e_18, e_24, limit}
use Rattle.arith.specs.roots.Roots.{sqrt, hypot}

-- 1e-8 is the rounded fraction 1 / 10 ^ 8, and so on
pub nearest_decimals :
    map (λ k. round binary64 false 1 (10 ^ k)) (8 ∷ 9 ∷ 12 ∷ 15 ∷ 18 ∷ 24 ∷ [])
    ≡ e_8 ∷ e_9 ∷ e_12 ∷ e_15 ∷ e_18 ∷ e_24 ∷ []
unfolding round of_bits
nearest_decimals = refl

pub nearest_limit : round binary64 false 1048576 1 ≡ limit
unfolding round of_bits
nearest_limit = refl

abbrev d : ℕ → Float
d = of_bits binary64

abbrev s : ℕ → Float
s = of_bits binary32

-- what the definitions of the roots give where a slip is likely; the right-hand sides are IEEE 754's
pub edges :
    hypot binary64 (d 0x4008000000000000) (d 0xc010000000000000)  -- 3, -4
    ∷ hypot binary64 (d 0x3fe0000000000000) (d 0x3fd3333333333333)  -- 0.5, 0.3
    ∷ hypot binary64 (d 0x7fefffffffffffff) (d 0x7fefffffffffffff)  -- past the range
    ∷ hypot binary64 (d 0x7fefffffffffffff) (d 0x7e40000000000000)  -- nearer to the largest than to 2 ^ 1024
    ∷ hypot binary64 (d 1) (d 1)  -- 1.41 smallest values: 1
    ∷ hypot binary64 (d 1) (d 2)  -- 2.23: 2
    ∷ hypot binary64 (d 0x8000000000000000) (d 0x8000000000000000)  -- zeros
    ∷ hypot binary64 (inf true) nan
    ∷ hypot binary64 nan (d 0)
    ∷ sqrt binary64 (d 0x4000000000000000)  -- 2
    ∷ sqrt binary64 (d 1)  -- 2 ^ -1074: 2 ^ -537
    ∷ sqrt binary64 (d 0x8000000000000000)  -- -0
    ∷ sqrt binary64 (d 0xbff0000000000000)  -- -1
    ∷ sqrt binary64 (inf true)
    ∷ sqrt binary32 (s 0x40000000)  -- 2
    ∷ hypot binary32 (s 0x7f7fffff) (s 0x7f7fffff)
    ∷ []
    ≡ d 0x4014000000000000
    ∷ d 0x3fe2a8b73e294fb5
    ∷ inf false
    ∷ d 0x7fefffffffffffff
    ∷ d 1
    ∷ d 2
    ∷ d 0
    ∷ inf false
    ∷ nan
    ∷ d 0x3ff6a09e667f3bcd
    ∷ d 0x1e60000000000000
    ∷ d 0x8000000000000000
    ∷ nan
    ∷ nan
    ∷ s 0x3fb504f3
    ∷ inf false
    ∷ []
unfolding sqrt hypot of_bits
edges = refl
