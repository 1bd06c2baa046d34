-- What the functions behind the roots promise each other of whole numbers and bits.
use Rattle.std.specs.Prelude.{◌≡◌, ℕ, ◌+◌, ◌-◌, ◌*◌, ◌/◌, ◌%◌, ◌^◌, ◌<◌, ◌≤◌, Bool, true, false, from_bits}
use Rattle.std.specs.Float.{binary64}
use Rattle.arith.specs.roots.Roots.{root, sqrt}
use Rattle.arith.specs.declared.roots.wide.Parts.{Parts}
use Rattle.arith.specs.declared.roots.wide.Wide.{Wide}

abbrev pub sq : ℕ → ℕ
sq x = x * x

-- ---- numbers in two limbs
abbrev pub whole : Wide → ℕ
whole z = z.hi * 2 ^ 56 + z.lo

-- ---- numbers in three parts
abbrev pub total : Parts → ℕ
total z = z.h * 2 ^ 56 + z.m * 2 ^ 29 + z.l

-- z is the number v, in parts of at most 52, 54 and 56 bits
pub record PartsOf (v : ℕ) (z : Parts) : Type 0 where
  pub value : total z ≡ v
  pub h_small : z.h < 2 ^ 52
  pub m_small : z.m < 2 ^ 54
  pub l_small : z.l < 2 ^ 56

-- z is v or v - 1
pub record AboutParts (v : ℕ) (z : Parts) : Type 0 where
  pub least : total z ≤ v
  pub most : v ≤ total z + 1

-- ---- candidates
-- 53 bits, the highest set
pub record Significand (m : ℕ) : Type 0 where
  pub least : 2 ^ 52 ≤ m
  pub most : m < 2 ^ 53

-- half the root of every number from z up to, and not with, z + 1 is nearer to j than to any other whole number:
-- (2j - 1)^2 < z and z < (2j + 1)^2
pub record NearestHalf (z j : ℕ) : Type 0 where
  pub over : 4 * (j * j) + 1 < z + 4 * j
  pub under : z < 4 * (j * j) + 4 * j + 1

-- j is one of k - 1, k and k + 1, and nearest to half the root of every number from z up to, and not with, z + 2
pub record NearestOfThree (z k j : ℕ) : Type 0 where
  pub least : k ≤ j + 1
  pub most : j ≤ k + 1
  pub nearest : NearestHalf z j
  pub nearest_next : NearestHalf (z + 1) j

-- Candidates are counted: k stands for k up to 2^53, and from there for every other number. m is twice the middle of k and the
-- next one. The root of z, or of a bit more than z where t is not 0, lies above m, or at it with k odd; and the contrary.
pub record RoundsUpAt (z t k m : ℕ) : Type 0 where
  pub reached : m * m < z + 1
  pub passed : t + k % 2 ≡ 0 → m * m < z

pub record RoundsDownAt (z t k m : ℕ) : Type 0 where
  pub reached : z < m * m + 1
  pub passed : 0 < t + k % 2 → z < m * m

pub record RoundsUp (z t k : ℕ) : Type 0 where
  pub low : k < 2 ^ 53 → RoundsUpAt z t k (2 * k + 1)
  pub high : 2 ^ 53 ≤ k → RoundsUpAt z t k (4 * k + 2 - 2 ^ 54)

pub record RoundsDown (z t k : ℕ) : Type 0 where
  pub low : k < 2 ^ 53 → RoundsDownAt z t k (2 * k + 1)
  pub high : 2 ^ 53 ≤ k → RoundsDownAt z t k (4 * k + 2 - 2 ^ 54)

-- r tells which of the two holds
pub record Tells (Up Down : Type 0) (r : Bool) : Type 0 where
  pub up : r ≡ true → Up
  pub down : r ≡ false → Down

-- the root rounds to a candidate above lo and up to hi
pub record Between (z t lo hi : ℕ) : Type 0 where
  pub less : lo < hi
  pub up : RoundsUp z t lo
  pub down : RoundsDown z t hi

-- and this one is r
pub record Rounded (z t lo hi r : ℕ) : Type 0 where
  pub above : lo < r
  pub most : r ≤ hi
  pub up : RoundsUp z t (r - 1)
  pub down : RoundsDown z t r

-- ---- the square root
-- m * 2 ^ (e - 1024) smallest values
pub record Normalized (m e : ℕ) : Type 0 where
  pub digits : Significand m
  pub exponent_least : 2 ≤ e
  pub exponent_most : e < 4092

-- the pattern of a subnormal value
pub record Subnormal (b : ℕ) : Type 0 where
  pub positive : 0 < b
  pub small : b < 2 ^ 52

-- the radicand: m, or 2 m at an odd exponent
pub record Radicand (m e z : ℕ) : Type 0 where
  pub even : e % 2 ≡ 0 → z ≡ m
  pub odd : e % 2 ≡ 1 → z ≡ 2 * m
  pub least : 2 ^ 52 ≤ z
  pub most : z + 2 ≤ 2 ^ 54

pub record SqrtIs (m e r : ℕ) : Type 0 where
  pub fine : r < 2047 * 2 ^ 52
  pub is : root binary64 (m * 2 ^ (e + 50)) ≡ from_bits binary64 r

pub record SqrtOf (b r : ℕ) : Type 0 where
  pub fine : r < 2047 * 2 ^ 52
  pub is : sqrt binary64 (from_bits binary64 b) ≡ from_bits binary64 r

-- ---- the hypotenuse
-- a pattern with no sign is exponent_of * 2 ^ 52 + significand_of, and stands for significand_of * 2 ^ exponent_of smallest values
abbrev pub exponent_of : ℕ → ℕ
exponent_of p = p / 2 ^ 52 - 1

abbrev pub significand_of : ℕ → ℕ
significand_of p = p - (p / 2 ^ 52 - 1) * 2 ^ 52

unfoldable pub ticks_of : ℕ → ℕ
ticks_of p = significand_of p * 2 ^ exponent_of p

-- two patterns from `least` on, in order, the larger one below the exponent `end`
pub record Operands (least end big small : ℕ) : Type 0 where
  pub at_least : least ≤ small
  pub ordered : small ≤ big
  pub fine : big < end * 2 ^ 52

-- r is the pattern of the hypotenuse of p and q
pub record HypotIs (p q r : ℕ) : Type 0 where
  pub fine : r ≤ 2047 * 2 ^ 52
  pub is : root binary64 (sq (ticks_of p) + sq (ticks_of q)) ≡ from_bits binary64 r

-- and p and q are finite
pub record FiniteHypotIs (p q r : ℕ) : Type 0 where
  pub p_fine : p < 2047 * 2 ^ 52
  pub q_fine : q < 2047 * 2 ^ 52
  pub hypot_is : HypotIs p q r

-- t tells whether the square of 2 m leaves a rest by 4 ^ d
pub record Sticky (m d : ℕ) (t : Bool) : Type 0 where
  pub exact : t ≡ false → sq (2 * m) % 2 ^ (2 * d) ≡ 0
  pub more : t ≡ true → 0 < sq (2 * m) % 2 ^ (2 * d)

-- m, or 2 m where the root is not in the binade above
pub record Scaled (m top r : ℕ) : Type 0 where
  pub one : top ≡ 1 → r ≡ m
  pub two : top ≡ 0 → r ≡ 2 * m
  pub small : r < 2 ^ 54
