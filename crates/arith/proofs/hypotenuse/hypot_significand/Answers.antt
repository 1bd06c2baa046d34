-- `arith::hypotenuse::hypot_significand`. The root lies between the larger operand and its double, so that the bisection's two ends round as it asks.
use Rattle.std.proofs.Common.{◌≡◌, ℕ, ◌+◌, ◌-◌, ◌*◌, ◌/◌, ◌^◌, ◌<◌, ◌≤◌, sym, ap, ◌∙◌, subst, le_trans, le_of_eq, le_of_lt, mul-le-mul, mul-le-mul_left, arith, pow-add, rules}
use native.Mathlib.Nat.{div-le_of_le-mul}
use Rattle.std.specs.Int.{from_bool}
use Rattle.arith.specs.roots.Steps.{whole, RoundsDownAt, RoundsUp, RoundsDown}
use Rattle.arith.proofs.hypotenuse.hypot_significand.Goals as goal

up_at : (z t n : ℕ) → n < 2 ^ 53 → 4 * ((n + 1) * (n + 1)) ≤ z → RoundsUp z t n
up_at z t n l h = record {
  low = λ g. record { reached = omega arith; passed = λ e. omega arith };
  high = λ g. absurd (omega arith);
}

first : (z t m : ℕ) → 0 < m → m < 2 ^ 53 → 4 * (m * m) ≤ z → RoundsUp z t (m - 1)
first z t m p l h = let f : (m - 1) + 1 ≡ m = omega arith in up_at z t (m - 1) (omega arith)
    (subst (λ (x : ℕ). 4 * (x * x) ≤ z) (sym f) h)

high_mid : (m : ℕ) → 2 ^ 53 ≤ m + 2 ^ 52 → 4 * m + 2 ≡ 4 * (m + 2 ^ 52) + 2 - 2 ^ 54
high_mid m g = omega arith

last_high : (z t k m : ℕ) → z ≤ 8 * (m * m) → RoundsDownAt z t k (4 * m + 2)
last_high z t k m h = record { reached = omega arith; passed = λ e. omega arith }

-- with a name for 2 ^ 52: `omega` stops at numbers of more than 38 digits
low_square : (P z m : ℕ) → m < P → z ≤ 8 * (m * m) → z < (2 * (m + P) + 1) * (2 * (m + P) + 1)
low_square P z m l h = let s = mul-le-mul_left m (le_of_lt l) in omega arith

under : {z q : ℕ} → z < q → z < q + 1
under h = omega arith

last_low : (z t k m : ℕ) → m < 2 ^ 52 → z ≤ 8 * (m * m) → RoundsDownAt z t k (2 * (m + 2 ^ 52) + 1)
last_low z t k m l h =
    let s = low_square (2 ^ 52) z m l h in
    record { reached = under s; passed = λ e. s }

last : (z t m : ℕ) → m < 2 ^ 53 → z ≤ 8 * (m * m) → RoundsDown z t (m + 2 ^ 52)
last z t m l h = record {
  low = λ g. last_low z t (m + 2 ^ 52) m (omega arith) h;
  high = λ g. subst
      (λ (x : ℕ). RoundsDownAt z t (m + 2 ^ 52) x) (high_mid m g) (last_high z t (m + 2 ^ 52) m h);
}

twice : (d : ℕ) → 2 * d ≡ d + d
twice d = omega arith

regroup : (a p : ℕ) → (2 * (a * p)) * (2 * (a * p)) ≡ (p * p) * ((2 * a) * (2 * a))
regroup a p = omega arith

quotient : (a b d : ℕ) → b ≤ a * 2 ^ d → (2 * b) * (2 * b) / 2 ^ (2 * d) ≤ (2 * a) * (2 * a)
quotient a b d h =
    let g : 2 * b ≤ 2 * (a * 2 ^ d) = omega arith in
    div-le_of_le-mul (2 ^ (2 * d))
    (le_trans (mul-le-mul g g) (le_of_eq (regroup a (2 ^ d) ∙ ap (λ (x : ℕ). x * ((2 * a) * (2 * a)))
    (sym (ap (λ (n : ℕ). 2 ^ n) (twice d) ∙ pow-add 2 d d)))))

pub bisect-requires : goal.bisect-requires
bisect-requires c =
    let q = quotient c.args.mb c.args.ms c.args.d (omega arith) in
    let e = c.sum_of_squares-z.ensures in
    let u = first (whole c.sum_of_squares-z.result) (from_bool c.args.t) c.args.mb (omega arith)
    (omega arith) (omega arith) in
    let v = last (whole c.sum_of_squares-z.result) (from_bool c.args.t) c.args.mb (omega arith)
    (omega arith) in
    search rules
