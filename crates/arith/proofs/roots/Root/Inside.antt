-- A number strictly between the squares of two neighbouring midpoints has the candidate between them as its root.
use Rattle.std.proofs.Common.{◌≡◌, ℕ, ◌+◌, ◌-◌, ◌*◌, ◌<◌, ◌≤◌, sym, le_trans, le_of_eq, lt_of_lt_of_le, lt_of_le_of_lt, le_of_lt, mul-le-mul_right, mul-lt-mul_of_pos_right, mul-pos, arith}
use native.Mathlib.Nat.{mul-mul-mul_comm}
use Rattle.arith.proofs.roots.Root.Candidate.{NearestTo}
use Rattle.arith.proofs.roots.Squares.{lt_not_eq}
use Rattle.arith.specs.roots.Steps.{NearestHalf, sq}

-- (2 j + 1)^2 < z < (2 j + 3)^2, in steps of u: 4 n lies between z and z + 1
pub near_inside : (n z j u : ℕ) → 0 < u → sq (2 * j + 1) < z → z < sq (2 * j + 3) → z * sq u ≤ 4 * n
    → 4 * n < (z + 1) * sq u → NearestTo n j u
near_inside n z j u U a b lo hi =
    let s : 0 < sq u = mul-pos U U in
    let x : sq ((2 * j + 1) * u) < 4 * n = lt_of_le_of_lt (le_of_eq (mul-mul-mul_comm (2 * j + 1) u (2 * j + 1) u))
    (lt_of_lt_of_le (mul-lt-mul_of_pos_right a s) lo) in
    let y : 4 * n < sq ((2 * j + 3) * u) = lt_of_lt_of_le hi (le_trans
    (mul-le-mul_right (sq u) (let w : z + 1 ≤ sq (2 * j + 3) = omega arith in w))
    (le_of_eq (sym (mul-mul-mul_comm (2 * j + 3) u (2 * j + 3) u)))) in
    record {
      over = le_of_lt x;
      under = le_of_lt y;
      over_even = lt_not_eq (sq ((2 * j + 1) * u)) (4 * n) x;
      under_even =
          lt_not_eq (4 * n) (sq ((2 * j + 3) * u)) y;
    }

pub inside_lo : (z j : ℕ) → NearestHalf z (j + 1) → sq (2 * j + 1) < z
inside_lo z j h = let o = h.over in omega arith

pub inside_hi : (z j : ℕ) → NearestHalf z (j + 1) → z < sq (2 * j + 3)
inside_hi z j h = let o = h.under in omega arith

pub pred : (r : ℕ) → 0 < r → (r - 1) + 1 ≡ r
pred r h = omega arith
