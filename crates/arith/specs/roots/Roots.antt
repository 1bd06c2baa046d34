-- Square root and hypot over any format, as document 01 has them: over whole multiples of the format's smallest value (2 ^ -1074 in
-- binary64), by comparing squares; special operands as IEEE 754's squareRoot and hypot. That the result is the nearest of all values
-- of the format, ties to even, is shown in arith, proofs/Laws/NearestRoot.
use Rattle.std.specs.Prelude.{ℕ, zero, suc, ◌+◌, ◌-◌, ◌*◌, ◌/◌, ◌^◌, true, false, cond, nat_le, Float}
use Prim.Native.Nat.{compare}
use Rattle.std.specs.Float.{nan, inf, fin, Format}
use Rattle.std.specs.Float.Ieee.{prec, low, up, down, size, nearest, units}

-- h and d binary digits more, highest first, each 1 where the square of what it makes, in steps of u, is still at most n.
-- From h = 0 it is the greatest number of d digits with (h * u) ^ 2 at most n.
unfoldable pub root_digits : ℕ → ℕ → ℕ → ℕ → ℕ
root_digits zero u n h = h
root_digits (suc d) u n h = root_digits d u n (cond (nat_le (((h + 2 ^ d) * u) ^ 2) n) (h + 2 ^ d) h)

-- The value of the format nearest the root of n, counted in smallest values (n in their squares); ties to even.
-- Of the root's digits, half as many as n's, the format keeps prec and drops k. The root lies above, at or below the
-- middle between h and h + 1 steps as 4 n compares with the square of 2 h + 1 steps.
unfoldable pub root : Format → ℕ → Float
unfolding size root_digits units
root f n =
    let k = suc (size n) / 2 - prec f in
    let h = root_digits (prec f) (2 ^ k) n 0 in
    units f false (nearest h (compare (4 * n) (((2 * h + 1) * 2 ^ k) ^ 2))) k

-- |m * 2 ^ e| in the format's smallest values
abbrev pub ticks : Format → Float → ℕ
ticks f nan = 0
ticks f (inf s) = 0
ticks f (fin s m e) = m * up e * 2 ^ low f / down e

-- IEEE 754's squareRoot: the root of -0 is -0, and of anything else below 0 there is none
unfoldable pub sqrt : Format → Float → Float
unfolding root
sqrt f nan = nan
sqrt f (inf false) = inf false
sqrt f (inf true) = nan
sqrt f (fin false m e) = root f (ticks f (fin false m e) * 2 ^ low f)
sqrt f (fin true zero e) = fin true zero e
sqrt f (fin true (suc m) e) = nan

-- IEEE 754's hypot: an infinity wins over a NaN
unfoldable pub hypot : Format → Float → Float → Float
unfolding root
hypot f nan nan = nan
hypot f nan (inf t) = inf false
hypot f nan (fin t n d) = nan
hypot f (inf s) y = inf false
hypot f (fin s m e) nan = nan
hypot f (fin s m e) (inf t) = inf false
hypot f (fin s m e) (fin t n d) = root f (ticks f (fin s m e) ^ 2 + ticks f (fin t n d) ^ 2)
