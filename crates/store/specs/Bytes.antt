-- Numbers in a list of bytes, little-endian: a u32, and an f64 by its bits, every NaN pattern being NaN; and a number's bytes.
use Rattle.std.specs.Prelude.{ℕ, zero, suc, ◌+◌, ◌*◌, ◌/◌, ◌%◌, List, [], ◌∷◌, get_or, Float}
use Rattle.std.specs.Float.{binary64}
use Rattle.std.specs.Float.Ieee.{of_bits}

-- the number in the n bytes from place i on, the lowest byte first
unfoldable pub little_endian : ℕ → List ℕ → ℕ → ℕ
little_endian zero b i = 0
little_endian (suc n) b i = get_or b i 0 + 256 * little_endian n b (i + 1)

abbrev pub u32_at : List ℕ → ℕ → ℕ
u32_at b i = little_endian 4 b i

abbrev pub f64_at : List ℕ → ℕ → Float
f64_at b i = of_bits binary64 (little_endian 8 b i)

-- the n low bytes of x, the lowest first
unfoldable pub low_bytes : ℕ → ℕ → List ℕ
low_bytes zero x = []
low_bytes (suc n) x = x % 256 ∷ low_bytes n (x / 256)
