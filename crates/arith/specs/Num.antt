-- Least, greatest, clamp, magnitude and finiteness, as document 01 has them.
use Rattle.std.specs.Prelude.{Bool, true, false, cond, Float}
use Rattle.std.specs.Float.{nan, inf, fin}
use Rattle.std.specs.Float.Ieee.{neg}
use Rattle.arith.specs.F64.{◌≺◌, ◌≼◌, 𝟘}

-- max(a, b) is a if a ≥ b, else b
abbrev pub max : Float → Float → Float
max a b = cond (b ≼ a) a b

-- min(a, b) is a if a ≤ b, else b
abbrev pub min : Float → Float → Float
min a b = cond (a ≼ b) a b

-- a value that lies between the two ends is kept, ends included
abbrev pub clamp : Float → Float → Float → Float
clamp x lo hi = cond (x ≺ lo) lo (cond (hi ≺ x) hi x)

-- |x|
abbrev pub abs : Float → Float
abs x = cond (x ≺ 𝟘) (neg x) x

-- neither a NaN nor an infinity
unfoldable pub is_finite : Float → Bool
is_finite nan = false
is_finite (inf s) = false
is_finite (fin s m e) = true
