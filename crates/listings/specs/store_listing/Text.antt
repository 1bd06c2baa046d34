-- Text as bytes: words, decimal numbers, and the bits of an f64 as 16 lower-case hexadecimal digits.
use Rattle.std.specs.Prelude.{ℕ, zero, suc, ◌+◌, ◌/◌, ◌%◌, cond, List, [], ◌∷◌, ◌++◌, ltb, Float}
use Prim.Native.Char.{code}
use Prim.Native.String as string
use Prim.Native.String.{String}
use Rattle.std.specs.Float.{binary64}
use Rattle.std.specs.Float.Ieee.{eq, to_bits}
use Rattle.arith.specs.F64.{𝟘}

-- the characters' codes; every text here is ASCII
unfoldable pub text : String → List ℕ
text string.[] = []
text (string.◌∷◌ c s) = code c ∷ text s

-- `0` to `9`, then `a` to `f`
abbrev pub digit : ℕ → ℕ
digit d = cond (ltb d 10) (48 + d) (87 + d)

-- n in decimal, with at most most + 1 digits
unfoldable pub decimal_at_most : ℕ → ℕ → List ℕ
decimal_at_most zero n = digit n ∷ []
decimal_at_most (suc most) n = cond (ltb n 10) (digit n ∷ []) (decimal_at_most most (n / 10) ++ (digit (n % 10) ∷ []))

-- n has at most n + 1 digits
unfoldable pub decimal : ℕ → List ℕ
decimal n = decimal_at_most n n

-- the last k hexadecimal digits of n
unfoldable pub hex : ℕ → ℕ → List ℕ
hex zero n = []
hex (suc k) n = hex k (n / 16) ++ (digit (n % 16) ∷ [])

-- the bits of x, a zero always as +0
unfoldable pub bits : Float → List ℕ
bits x = hex 16 (to_bits binary64 (cond (eq x 𝟘) 𝟘 x))
