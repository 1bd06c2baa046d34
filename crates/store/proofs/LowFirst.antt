-- The bytes of a number, the lowest first, as the library reads and writes them.
use Prim.Native.Nat.{ℕ, ◌+◌, ◌*◌, ◌<◌}
use native.Mathlib.Omega.{arith}
use mathlib.Core.List.{List, [], ◌∷◌}
use mathlib.Core.Path.{◌≡◌, refl, ap₂}
use lib.ListN.{get_or}
use Rattle.std.specs.Int.{w32, w64, to_le_bytes, from_le_bytes}
use Rattle.store.specs.Bytes.{little_endian, u32_at, low_bytes}
use Rattle.store.specs.edits.Written.{next_bytes}

pub four_read :
    (b : List ℕ) (i : ℕ)
    → from_le_bytes w32 (get_or b i 0 ∷ get_or b (i + 1) 0 ∷ get_or b (i + 2) 0 ∷ get_or b (i + 3) 0 ∷ []) ≡ u32_at b i
unfolding little_endian
four_read b i =
    let second : i + 1 + 1 ≡ i + 2 = omega arith in
    let third : i + 2 + 1 ≡ i + 3 = omega arith in
    rw (second, third) (omega arith)

-- four bytes, and four behind them
pub eight_read : (b : List ℕ) (i : ℕ) → u32_at b i + 4294967296 * u32_at b (i + 4) ≡ little_endian 8 b i
unfolding little_endian
eight_read b i =
    let behind : i + 4 ≡ i + 1 + 1 + 1 + 1 = omega arith in
    rw behind (omega arith)

also : {x y : ℕ} {xs ys : List ℕ} → x ≡ y → xs ≡ ys → ◌≡◌ {A = List ℕ} (x ∷ xs) (y ∷ ys)
also first rest = ap₂ (λ (z : ℕ) (zs : List ℕ). z ∷ zs) first rest

pub four_written : (n : ℕ) → to_le_bytes w32 n ≡ low_bytes 4 n
unfolding low_bytes
four_written n = also refl (also refl (also (omega arith) (also (omega arith) refl)))

pub eight_written : (n : ℕ) → to_le_bytes w64 n ≡ low_bytes 8 n
unfolding low_bytes
eight_written n =
    also refl (also refl (also (omega arith) (also (omega arith) (also (omega arith) (also (omega arith)
    (also (omega arith) (also (omega arith) refl)))))))

pub link_written : (m : ℕ) → m < 512 → to_le_bytes w32 m ≡ next_bytes m
link_written m h = also refl (also (omega arith) (also (omega arith) (also (omega arith) refl)))
