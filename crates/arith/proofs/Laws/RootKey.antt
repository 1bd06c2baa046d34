-- The rounded root: its key, monotone, bounded by the numbers whose squares bound it. It is one rounding of the sticky root.
use Rattle.std.proofs.Common.{◌≡◌, ℕ, ◌+◌, ◌*◌, ◌^◌, ◌<◌, ◌≤◌, false, not, T, sym, ap, ◌∙◌, subst, le_trans, le_of_eq, zero-lt-suc, mul_assoc, mul_comm, mul-le-mul_left, mul-pos, zero-add, arith}
use native.Mathlib.Nat.{min-eq_right}
use lib.Ieee.{fits, Float, Format, is_nan, prec}
use lib.Ieee.Fits.{and_l}
use Rattle.arith.proofs.Laws.Bounds.{round_key_within}
use Rattle.arith.proofs.Laws.Exact.{round_key_fix}
use Rattle.arith.proofs.roots.Root.Rounds.{root_round}
use Rattle.arith.proofs.roots.Root.Sticky.{double_square, sticky_root, sticky_root_ge, sticky_root_le, sticky_root_mono}
use Rattle.arith.proofs.roots.Rounding.Key.{key, mid, number, unit, unit_pos}
use Rattle.arith.proofs.roots.Rounding.RoundKey.{round_number, round_round_key, round_key, round_key_mono}
use Rattle.arith.specs.roots.Roots.{root}

pub root_key : (f : Format) (N : ℕ) → key f (root f N) ≡ round_key f (sticky_root N) 0 4
root_key f N = ap (λ (x : Float). key f x) (root_round f N) ∙ round_round_key f false (sticky_root N) (4 * unit f)
    (sticky_root N) 4 (sticky_root N) 0 (mul-pos (zero-lt-suc 3) (unit_pos f)) (zero-lt-suc 3)
    (mul_assoc (sticky_root N) (unit f) 4 ∙ ap (λ (z : ℕ). sticky_root N * z) (mul_comm (unit f) 4))
    (sym (zero-add (sticky_root N)))

pub root_number : (f : Format) (N : ℕ) → T (number f (root f N))
root_number f N = subst (λ (x : Float). T (number f x)) (sym (root_round f N))
    (round_number f false (sticky_root N) (4 * unit f))

pub root_mono : (f : Format) (N N' : ℕ) → N ≤ N' → key f (root f N) ≤ key f (root f N')
root_mono f N N' h = rw (root_key f N, root_key f N') (round_key_mono f (sticky_root N) 0 4 (sticky_root N') 0 4
    (zero-lt-suc 3) (zero-lt-suc 3) (let k = sticky_root_mono N N' h in omega arith))

-- BOUNDS by a number w of the format: w ≤ root N if w * w ≤ N, and root N ≤ w if N ≤ w * w
pub root_le : (f : Format) (N q j : ℕ) → q < 2 ^ prec f → N ≤ q * 2 ^ j * (q * 2 ^ j)
    → key f (root f N) ≤ mid f + q * 2 ^ j
root_le f N q j Q h = rw (root_key f N) (round_key_within f (sticky_root N) 0 4 q j (zero-lt-suc 3) Q
    (let k = sticky_root_le N (2 * (q * 2 ^ j)) (rw (double_square (q * 2 ^ j)) (mul-le-mul_left 4 h)) in omega arith)
    (omega arith)).1

pub root_ge : (f : Format) (N q j : ℕ) → q < 2 ^ prec f → q * 2 ^ j ≤ mid f → q * 2 ^ j * (q * 2 ^ j) ≤ N
    → mid f + q * 2 ^ j ≤ key f (root f N)
root_ge f N q j Q l h =
    rw (root_key f N)
    (le_trans (le_of_eq (sym (round_key_fix f false q j (q * 2 ^ j * 4) 0 4 (zero-lt-suc 3) Q
    (sym (zero-add (q * 2 ^ j * 4))) ∙ ap (λ (z : ℕ). mid f + z) (min-eq_right l))))
    (round_key_mono f (q * 2 ^ j * 4) 0 4 (sticky_root N) 0 4 (zero-lt-suc 3) (zero-lt-suc 3)
    (let k = sticky_root_ge N (2 * (q * 2 ^ j)) (rw (double_square (q * 2 ^ j)) (mul-le-mul_left 4 h)) in omega
    arith)))

-- whatever the values, the result is of the format
pub root_fits : (f : Format) (n : ℕ) → T (fits f (root f n))
root_fits f n = and_l (fits f (root f n)) (not (is_nan (root f n))) (root_number f n)
