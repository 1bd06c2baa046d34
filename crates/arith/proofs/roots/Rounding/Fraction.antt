-- A fraction n / c rounded to p binary digits, as a whole number: the core of every rounding. It is monotone, keeps what has p digits,
-- and errs by at most half a unit in the last place. Nothing here is about floats.
use Rattle.std.proofs.Common.{◌≡◌, ℕ, zero, suc, ◌+◌, ◌-◌, ◌*◌, ◌/◌, ◌%◌, ◌^◌, ◌<◌, ◌≤◌, sym, ap, ◌∙◌, subst, inl, inr, zero-le, le_trans, le_of_eq, lt_of_le_of_lt, lt_irrefl, mul-le-mul_right, mod-lt, mul_assoc, suc-mul, mul_comm, div-lt_iff_lt-mul, add-mul, le_antisymm, eq-or-lt_of_le, mul-lt-mul_of_pos_right, mul-pos, div-add-mod', le-div_iff_mul-le, mul-div_cancel, arith, pow_pos, pow_mono, pow-add, shl_lt}
use Prim.Native.Nat.{compare, Ordering}
use native.Mathlib.Nat.{div-div-eq-div-mul}
use native.Mathlib.Nat.{mul-mod_left}
use lib.Ieee.{nearest, size}
use lib.Ieee.Digits.{size-le, size-lt, size_reaches}
use lib.Ieee.Fits.{kept-lt, nearest-le}
use lib.Ieee.Nearest.{closest, closest_mono, div_mono, nearest-ge}
use lib.Ieee.Order.{drop, kept}
use Rattle.arith.proofs.roots.Numbers.{Compared, compared}

unfoldable pub rounded : ℕ → ℕ → ℕ → ℕ
rounded p n c = kept p n c * 2 ^ drop p n c

size_mono : {a b : ℕ} → a ≤ b → size a ≤ size b
size_mono {a} {b} h = size-le a (size b) (lt_of_le_of_lt h (size-lt b))

pub kept_le : (p n c : ℕ) → kept p n c ≤ 2 ^ p
kept_le p n c =
    let k = drop p n c in
    let u = c * 2 ^ k in
    le_trans (nearest-le (n / u) (compare (n % u * 2) u)) (subst (λ (x : ℕ). x < 2 ^ p) (div-div-eq-div-mul n c (2 ^ k))
    (kept-lt p (n / c)))

pub all_in_use : (z p : ℕ) → 0 < p → 0 < z - p → p - 1 + (z - p) < z
all_in_use z p P h = omega arith

pub kept_ge : (p n c : ℕ) → 0 < p → 0 < drop p n c → 2 ^ (p - 1) ≤ kept p n c
kept_ge p n c P K =
    let k = drop p n c in
    let u = c * 2 ^ k in
    let w = n / c in
    let a : 2 ^ (p - 1) * 2 ^ k ≤ w = le_trans (le_of_eq (sym (pow-add 2 (p - 1) k)))
    (size_reaches w (p - 1 + k) (all_in_use (size w) p P K)) in
    le_trans (subst (λ (x : ℕ). 2 ^ (p - 1) ≤ x) (div-div-eq-div-mul n c (2 ^ k)) ((le-div_iff_mul-le (pow_pos k)).1 a))
    (nearest-ge (n / u) (compare (n % u * 2) u))

same_drop : (k a b c d : ℕ) → 0 < b → 0 < d → a * d ≤ c * b
    → closest a (b * 2 ^ k) * 2 ^ k ≤ closest c (d * 2 ^ k) * 2 ^ k
same_drop k a b c d B D h =
    mul-le-mul_right (2 ^ k)
    (closest_mono a (b * 2 ^ k) c (d * 2 ^ k) (mul-pos B (pow_pos k)) (mul-pos D (pow_pos k))
    (le_trans (le_of_eq (sym (mul_assoc a d (2 ^ k)))) (le_trans (mul-le-mul_right (2 ^ k) h)
    (le_of_eq (mul_assoc c b (2 ^ k))))))

fewer : (x y p : ℕ) → x ≤ y → x - p ≤ y - p
fewer x y p h = omega arith

pub room : (p j k : ℕ) → 0 < p → j < k → p + j ≤ p - 1 + k
room p j k P h = omega arith

-- monotone
pub rounded_mono : (p a b c d : ℕ) → 0 < p → 0 < b → 0 < d → a * d ≤ c * b → rounded p a b ≤ rounded p c d
unfolding rounded
rounded_mono p a b c d P B D h =
    let j = drop p a b in
    let k = drop p c d in
    elim (eq-or-lt_of_le (fewer (size (a / b)) (size (c / d)) p (size_mono (div_mono a b c d B D h)))) [
      | inl e ↦ subst (λ (x : ℕ). closest a (b * 2 ^ x) * 2 ^ x ≤ kept p c d * 2 ^ k) (sym e)
          (same_drop k a b c d B D h)
      | inr l ↦
          le_trans (mul-le-mul_right (2 ^ j) (kept_le p a b))
          (le_trans (le_of_eq (sym (pow-add 2 p j)))
          (le_trans (pow_mono (room p j k P l))
          (le_trans (le_of_eq (pow-add 2 (p - 1) k)) (mul-le-mul_right (2 ^ k)
          (kept_ge p c d P (lt_of_le_of_lt zero-le l))))))
    ]

pub rounded_same : (p a b c d : ℕ) → 0 < p → 0 < b → 0 < d → a * d ≡ c * b → rounded p a b ≡ rounded p c d
rounded_same p a b c d P B D e = le_antisymm (rounded_mono p a b c d P B D (le_of_eq e))
    (rounded_mono p c d a b P D B (le_of_eq (sym e)))

-- fixed points: q * 2 ^ j with at most p digits in q
above_zero : (u : ℕ) → 0 < u → compare 0 u ≡ Ordering.lt
above_zero zero h = absurd (lt_irrefl 0 h)
above_zero (suc u) h = Prim.Native.Nat.compare.zero-suc u

closest_exact : (r u : ℕ) → 0 < u → closest (r * u) u ≡ r
closest_exact r u h = rw (mul-div_cancel r h, mul-mod_left r u, above_zero u h)

spare : (z p l : ℕ) → z ≤ p + l → z - p ≤ l
spare z p l h = omega arith

pub drop_le : (p n c d : ℕ) → 0 < c → n < 2 ^ (p + d) * c → drop p n c ≤ d
drop_le p n c d C h = spare (size (n / c)) p d (size-le (n / c) (p + d) ((div-lt_iff_lt-mul C).1 h))

back : (j k : ℕ) → k ≤ j → j - k + k ≡ j
back j k h = omega arith

fix_at : (q j c k : ℕ) → 0 < c → k ≤ j → closest (q * 2 ^ j * c) (c * 2 ^ k) * 2 ^ k ≡ q * 2 ^ j
fix_at q j c k C K =
    let r = q * 2 ^ (j - k) in
    let e : r * 2 ^ k ≡ q * 2 ^ j = mul_assoc q (2 ^ (j - k)) (2 ^ k) ∙ ap (λ (x : ℕ). q * x)
    (sym (pow-add 2 (j - k) k) ∙ ap (λ (x : ℕ). 2 ^ x) (back j k K)) in
    let d : q * 2 ^ j * c ≡ r * (c * 2 ^ k) = ap (λ (x : ℕ). x * c) (sym e) ∙ mul_assoc r (2 ^ k) c ∙ ap
    (λ (x : ℕ). r * x) (mul_comm (2 ^ k) c) in
    ap (λ (x : ℕ). closest x (c * 2 ^ k) * 2 ^ k) d ∙ ap (λ (x : ℕ). x * 2 ^ k)
    (closest_exact r (c * 2 ^ k) (mul-pos C (pow_pos k))) ∙ e

pub rounded_fix : (p q j c : ℕ) → 0 < c → q < 2 ^ p → rounded p (q * 2 ^ j * c) c ≡ q * 2 ^ j
unfolding rounded
rounded_fix p q j c C Q = fix_at q j c (drop p (q * 2 ^ j * c) c) C
    (drop_le p (q * 2 ^ j * c) c j C (mul-lt-mul_of_pos_right (shl_lt p j Q) C))

-- bounds by a representable number
pub rounded_le : (p n c q j : ℕ) → 0 < p → 0 < c → q < 2 ^ p → n ≤ q * 2 ^ j * c → rounded p n c ≤ q * 2 ^ j
rounded_le p n c q j P C Q h = subst (λ (x : ℕ). rounded p n c ≤ x) (rounded_fix p q j c C Q)
    (rounded_mono p n c (q * 2 ^ j * c) c P C C (mul-le-mul_right c h))

pub rounded_ge : (p n c q j : ℕ) → 0 < p → 0 < c → q < 2 ^ p → q * 2 ^ j * c ≤ n → q * 2 ^ j ≤ rounded p n c
rounded_ge p n c q j P C Q h = subst (λ (x : ℕ). x ≤ rounded p n c) (rounded_fix p q j c C Q)
    (rounded_mono p (q * 2 ^ j * c) c n c P C C (mul-le-mul_right c h))

pub rounded_zero : (p c : ℕ) → 0 < p → 0 < c → rounded p 0 c ≡ 0
rounded_zero p c P C = omega (arith, rounded_le p 0 c 0 0 P C (pow_pos p) zero-le)

-- x is within u / 2 of n
abbrev pub WithinHalf : ℕ → ℕ → ℕ → Type 0
WithinHalf x n u = (2 * x ≤ 2 * n + u) × (2 * n ≤ 2 * x + u)

bit : (q : ℕ) → q % 2 ≤ 1
bit q = omega arith

within_half : (q r u : ℕ) (o : Ordering) → Compared o (r * 2) u → r < u → WithinHalf (nearest q o * u) (q * u + r) u
within_half q r u Ordering.lt c l = omega arith
within_half q r u Ordering.eq c l = let b : q % 2 * u ≤ 1 * u = mul-le-mul_right u (bit q) in rw add-mul (omega arith)
within_half q r u Ordering.gt c l = rw (suc-mul q u) (omega arith)

within_wider : (x n u v : ℕ) → WithinHalf x n u → u ≤ v → WithinHalf x n v
within_wider x n u v h l = omega arith

pub closest_within_half : (n u : ℕ) → 0 < u → WithinHalf (closest n u * u) n u
closest_within_half n u U = subst (λ (x : ℕ). WithinHalf (closest n u * u) x u) (div-add-mod' n u)
    (within_half (n / u) (n % u) u (compare (n % u * 2) u) (compared (n % u * 2) u) (mod-lt n U))

pub rounded_near : (p n c d : ℕ) → 0 < c → n < 2 ^ (p + d) * c → WithinHalf (rounded p n c * c) n (2 ^ d * c)
unfolding rounded
rounded_near p n c d C h =
    let k = drop p n c in
    let K : c * 2 ^ k ≤ 2 ^ d * c = le_trans (le_of_eq (mul_comm c (2 ^ k)))
    (mul-le-mul_right c (pow_mono (drop_le p n c d C h))) in
    within_wider (kept p n c * 2 ^ k * c) n (c * 2 ^ k) (2 ^ d * c)
    (subst (λ (x : ℕ). WithinHalf x n (c * 2 ^ k)) (ap (λ (x : ℕ). kept p n c * x) (mul_comm c (2 ^ k)) ∙ sym
    (mul_assoc (kept p n c) (2 ^ k) c)) (closest_within_half n (c * 2 ^ k) (mul-pos C (pow_pos k)))) K
