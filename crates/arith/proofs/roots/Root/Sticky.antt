-- The sticky root of N: 4 times the root, exact where twice the root is whole, and otherwise odd and between. Comparing it with an even
-- number compares the root itself, so it can be rounded in place of the root.
use Rattle.std.proofs.Common.{◌≡◌, ℕ, ◌+◌, ◌*◌, ◌^◌, ◌<◌, ◌≤◌, Bool, true, false, cond, T, eqb, sym, ap, ◌∙◌, subst, inl, inr, zero-le, le_trans, le_of_eq, le_refl, lt_of_lt_of_le, lt_of_le_of_lt, le_of_lt, mul-le-mul_right, mul-le-mul, le_antisymm, eq-or-lt_of_le, mul-le-mul_left, mul-lt-mul_of_pos_right, one-mul, zero-add, mul-one, not-le_of_lt, arith, eqb→eq, pow_pos}
use native.Mathlib.Nat.{mul-mul-mul_comm}
use lib.Dec.{eqb_refl}
use lib.Ieee.Digits.{size-lt}
use Rattle.arith.proofs.roots.Numbers.{decide}
use Rattle.arith.proofs.roots.Root.Digits.{DigitsWithin, root_digits_lem}
use Rattle.arith.proofs.roots.Squares.{square}
use Rattle.arith.specs.roots.Roots.{root_digits}

-- s is the whole part of N's root
pub record WholeRoot (s N : ℕ) : Type 0 where
  pub least : s * s ≤ N
  pub most : N < (s + 1) * (s + 1)

unfoldable pub whole_root : ℕ → ℕ
whole_root N = root_digits (lib.Ieee.size N) 1 N 0

pub whole_root_is : (N : ℕ) → WholeRoot (whole_root N) N
unfolding whole_root
whole_root_is N =
    let z = lib.Ieee.size N in
    let h = root_digits z 1 N 0 in
    let P : 2 ^ z ≤ 2 ^ z * 2 ^ z = le_trans (le_of_eq (sym (one-mul (2 ^ z))))
    (mul-le-mul_right (2 ^ z) (pow_pos z)) in
    let w : DigitsWithin 1 N h 1 = root_digits_lem z 1 N 0 (
      zero-le,
      rw (
        square ((0 + 2 ^ z) * 1),
        mul-one (0 + 2 ^ z),
        zero-add (2 ^ z),
      ) (lt_of_lt_of_le (size-lt N) P),
    ) in
    let e : (h * 1) ^ 2 ≡ h * h = square (h * 1) ∙ ap (λ (x : ℕ). x * x) (mul-one h) in
    let d : ((h + 1) * 1) ^ 2 ≡ (h + 1) * (h + 1) = square ((h + 1) * 1) ∙ ap (λ (x : ℕ). x * x) (mul-one (h + 1)) in
    record { least = le_trans (le_of_eq (sym e)) w.0; most = lt_of_lt_of_le w.1 (le_of_eq d) }

pub double_square : (r : ℕ) → 2 * r * (2 * r) ≡ 4 * (r * r)
double_square r = mul-mul-mul_comm 2 r 2 r

-- squares order as their roots do
pub square_lt : (a b : ℕ) → a * a < b * b → a < b
square_lt a b h = elim (decide b a) [ inl l ↦ absurd (not-le_of_lt h (mul-le-mul l l)) | inr l ↦ l ]

square_le : (a b : ℕ) → a * a ≤ b * b → a ≤ b
square_le a b h = elim (decide a b) [
  | inl l ↦ l
  | inr l ↦ absurd (not-le_of_lt
      (lt_of_le_of_lt (mul-le-mul_left b (le_of_lt l)) (mul-lt-mul_of_pos_right l (lt_of_le_of_lt zero-le l))) h)
]

-- ---- the sticky_root of N's root: 2 s where s = root (4 N) is exact, 2 s + 1 where it is more
unfoldable pub sticky_root : ℕ → ℕ
unfolding whole_root
sticky_root N = 2 * whole_root (4 * N) + cond (eqb (whole_root (4 * N) * whole_root (4 * N)) (4 * N)) 0 1

-- what the sticky_root says: it is to 2 m as the root is to m / 2
pub sticky_root_ge : (N m : ℕ) → m * m ≤ 4 * N → 2 * m ≤ sticky_root N
unfolding sticky_root
sticky_root_ge N m h =
    let r = whole_root_is (4 * N) in
    let s = whole_root (4 * N) in
    let l : m < s + 1 = square_lt m (s + 1) (lt_of_le_of_lt h r.most) in
    omega arith

pub sticky_root_le : (N m : ℕ) → 4 * N ≤ m * m → sticky_root N ≤ 2 * m
unfolding sticky_root
sticky_root_le N m h = go (eqb (s * s) (4 * N)) (eqb→eq (s * s) (4 * N))
    (λ (e : s * s ≡ 4 * N). subst (λ (z : ℕ). T (eqb (s * s) z)) e (eqb_refl (s * s)))
  where
    s : ℕ
    s = whole_root (4 * N)

    r : WholeRoot s (4 * N)
    r = whole_root_is (4 * N)

    l : s ≤ m
    l = square_le s m (le_trans r.least h)

    go : (b : Bool) → (T b → s * s ≡ 4 * N) → (s * s ≡ 4 * N → T b) → 2 * s + cond b 0 1 ≤ 2 * m
    go true x y = omega (arith, l)
    go false x y = elim (eq-or-lt_of_le l) [
      | inl e ↦ absurd (y (le_antisymm r.least
          (subst (λ (z : ℕ). 4 * N ≤ z * z) (sym e) h)))
      | inr k ↦ omega arith
    ]

-- and back
at_most_one : (b : Bool) → cond b 0 1 ≤ 1
at_most_one true = zero-le
at_most_one false = le_refl 1

pub ge_sticky_root : (N m : ℕ) → 2 * m ≤ sticky_root N → m * m ≤ 4 * N
unfolding sticky_root
ge_sticky_root N m h =
    let s = whole_root (4 * N) in
    let l : m ≤ s = omega (arith, at_most_one (eqb (s * s) (4 * N))) in
    le_trans (mul-le-mul l l) (whole_root_is (4 * N)).least

pub le_sticky_root : (N m : ℕ) → sticky_root N ≤ 2 * m → 4 * N ≤ m * m
unfolding sticky_root
le_sticky_root N m h = go (eqb (s * s) (4 * N)) (eqb→eq (s * s) (4 * N)) h
  where
    s : ℕ
    s = whole_root (4 * N)

    go : (b : Bool) → (T b → s * s ≡ 4 * N) → 2 * s + cond b 0 1 ≤ 2 * m → 4 * N ≤ m * m
    go true x k = let l : s ≤ m = omega arith in le_trans (le_of_eq (sym (x tt))) (mul-le-mul l l)
    go false x k = let l : s + 1 ≤ m = omega arith in le_trans (le_of_lt (whole_root_is (4 * N)).most) (mul-le-mul l l)

pub sticky_root_mono : (N N' : ℕ) → N ≤ N' → sticky_root N ≤ sticky_root N'
unfolding sticky_root
sticky_root_mono N N' h = go (eqb (s' * s') (4 * N')) (eqb→eq (s' * s') (4 * N'))
  where
    s : ℕ
    s = whole_root (4 * N)

    s' : ℕ
    s' = whole_root (4 * N')

    l : s < s' + 1
    l = square_lt s (s' + 1) (lt_of_le_of_lt (le_trans (whole_root_is (4 * N)).least (mul-le-mul_left 4 h))
        (whole_root_is (4 * N')).most)

    go : (b : Bool) → (T b → s' * s' ≡ 4 * N') → sticky_root N ≤ 2 * s' + cond b 0 1
    go true x = le_trans (sticky_root_le N s' (le_trans (mul-le-mul_left 4 h) (le_of_eq (sym (x tt))))) (omega arith)
    go false x = omega (arith, l, at_most_one (eqb (s * s) (4 * N)))
