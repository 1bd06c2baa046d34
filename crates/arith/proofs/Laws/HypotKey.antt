-- hypot and sqrt of finite numbers as roots of whole numbers, by keys; no root is negative.
use Rattle.std.proofs.Common.{◌≡◌, ℕ, ◌+◌, ◌-◌, ◌*◌, ◌<◌, ◌≤◌, Bool, true, false, T, sym, le_of_eq, lt_of_lt_of_le, zero-lt-suc, zero-add, not-le_of_lt, arith}
use lib.Ieee.{fin, Float, Format, inf, nan}
use Rattle.arith.proofs.Laws.Hypot.{hypot_root, sqrt_root}
use Rattle.arith.proofs.Laws.Monotone.{key_size}
use Rattle.arith.proofs.Laws.RootKey.{root_key}
use Rattle.arith.proofs.roots.Root.Sticky.{sticky_root}
use Rattle.arith.proofs.roots.Rounding.Key.{finite_of, finite_number, key, key_is, magnitude, magnitude_le, mid}
use Rattle.arith.proofs.roots.Rounding.Key.{negative, number_of, side, unit}
use Rattle.arith.proofs.roots.Rounding.Product.{positive_part, positive_part_is}
use Rattle.arith.proofs.roots.Rounding.RoundKey.{round_key_side}
use Rattle.arith.specs.roots.Roots.{hypot, root, sqrt}

pub key_size_magnitude : (f : Format) (x : Float) → T (finite_number f x) → key_size f x ≡ magnitude f x
unfolding key_size
key_size_magnitude f x p = rw (key_is f x) (go (negative x) (magnitude_le f x (number_of f x p)))
  where
    go : (s : Bool) → magnitude f x ≤ mid f
        → side (mid f) s (magnitude f x) - mid f + (mid f - side (mid f) s (magnitude f x)) ≡ magnitude f x
    go false h = omega arith
    go true h = omega arith

pub hypot_is : (f : Format) (x y : Float) → T (finite_number f x) → T (finite_number f y)
    → hypot f x y ≡ root f (key_size f x * key_size f x + key_size f y * key_size f y)
hypot_is f x y p q = rw (key_size_magnitude f x p, key_size_magnitude f y q)
    (hypot_root f x y (finite_of f x p) (finite_of f y q))

pub sqrt_is : (f : Format) (x : Float) → T (finite_number f x) → mid f < key f x
    → sqrt f x ≡ root f (positive_part f x * unit f)
sqrt_is f nan p h = absurd (finite_of f nan p)
sqrt_is f (inf s) p h = absurd (finite_of f (inf s) p)
sqrt_is f (fin true m e) p h = absurd (not-le_of_lt (lt_of_lt_of_le h (le_of_eq (key_is f (fin true m e))))
    (down (mid f) (magnitude f (fin true m e))))
  where
    down : (M t : ℕ) → M - t ≤ M
    down M t = omega arith
sqrt_is f (fin false m e) p h =
    let x = fin false m e in
    let a : positive_part f x ≡ magnitude f x = positive_part_is f x p in
    rw a (sqrt_root f m e)

pub root_not_negative : (f : Format) (N : ℕ) → mid f ≤ key f (root f N)
root_not_negative f N = rw (
  root_key f N,
  round_key_side f false (sticky_root N) (sticky_root N) 0 4 (zero-lt-suc 3)
      (sym (zero-add (sticky_root N))),
) (omega arith)
