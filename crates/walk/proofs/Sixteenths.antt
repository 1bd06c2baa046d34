-- i · 0.0625 and i / 16 are the same f64, for each i from 0 to 16: the law of reciprocals at 16.
use Prim.Native.Nat.{ℕ, ◌≤◌}
use mathlib.Core.Path.{◌≡◌, subst}
use lib.IntN.{pos}
use lib.Ieee.{binary64, of_int}
use Rattle.arith.specs.F64.{◌⊗◌}
use Rattle.arith.proofs.Laws.Reciprocal.{mul_sixteenth, sixteenth}
use Rattle.walk.specs.Walk.{fraction}

pub sixteenths : (i : ℕ) → i ≤ 16 → of_int binary64 (pos i) ⊗ sixteenth ≡ fraction i 16
sixteenths i h = mul_sixteenth (of_int binary64 (pos i))

-- at n = 16 intervals
pub at_sixteen : (i n : ℕ) → i ≤ n → n ≡ 16 → of_int binary64 (pos i) ⊗ sixteenth ≡ fraction i n
at_sixteen i n h e = rw e (sixteenths i (subst (λ (n : ℕ). i ≤ n) e h))
