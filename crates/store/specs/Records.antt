-- The records of a store: 40 bytes each, next (u32), kind (u32), four f64.
use Rattle.std.specs.Prelude.{ℕ, ◌+◌, ◌*◌, ◌/◌, List, ◌++◌, length, Float}
use Rattle.store.specs.Bytes.{u32_at, f64_at, low_bytes}

-- how many records there are
abbrev pub records : List ℕ → ℕ
records b = length b / 40

unfoldable pub next : List ℕ → ℕ → ℕ
next b k = u32_at b (k * 40)

unfoldable pub kind : List ℕ → ℕ → ℕ
kind b k = u32_at b (k * 40 + 4)

-- the four f64 of record k, i = 0 to 3
unfoldable pub number : List ℕ → ℕ → ℕ → Float
number b k i = f64_at b (k * 40 + 8 + i * 8)

-- the bytes of a record that leads to m, of kind t, with the bits a, b, c, d of its four f64
unfoldable pub record_bytes : ℕ → ℕ → ℕ → ℕ → ℕ → ℕ → List ℕ
record_bytes m t a b c d = low_bytes 4 m ++ low_bytes 4 t ++ low_bytes 8 a ++ low_bytes 8 b ++ low_bytes 8 c ++ low_bytes 8 d
