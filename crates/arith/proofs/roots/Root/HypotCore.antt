-- What the integer core finds of two significands is the bits of the hypotenuse.
use Rattle.std.proofs.Common.{◌≡◌, ℕ, zero, suc, ◌+◌, ◌-◌, ◌*◌, ◌/◌, ◌%◌, ◌^◌, ◌<◌, ◌≤◌, min, max, Bool, true, false, lt_irrefl, sym, refl, ap, ◌∙◌, subst, inl, inr, zero-le, le_trans, le_of_eq, le_refl, lt_of_lt_of_le, lt_of_le_of_lt, le_of_lt, mul-le-mul_right, zero-lt-suc, div-lt_iff_lt-mul, mul-le-mul, add_comm, mul-le-mul_left, mul-lt-mul_of_pos_right, mul-pos, mul-one, arith, pow_pos, pow_mono}
use Rattle.std.proofs.Math.Nat.{max-eq_left, max-eq_right, min-eq_left, min-eq_right}
use Rattle.std.specs.Int.{from_bool}
use lib.Ieee.{binary64, inf, of_bits}
use Rattle.arith.proofs.roots.Numbers.{decide}
use Rattle.arith.proofs.roots.Root.Bracket.{Bracket, bracket, found, four_hyp, four_hyp_top, hyp, root_near, RootIs}
use Rattle.arith.proofs.roots.Root.Bracket.{square_hyp, square_hyp_top}
use Rattle.arith.proofs.roots.Root.Inside.{inside_hi, inside_lo, near_inside, pred}
use Rattle.arith.specs.roots.Steps.{exponent_of, HypotIs, NearestHalf, Operands, Rounded, Scaled, significand_of}
use Rattle.arith.specs.roots.Steps.{sq, Sticky, ticks_of}
use Rattle.arith.specs.roots.Roots.{root}

pub ticks_of_is : (p : ℕ) → ticks_of p ≡ significand_of p * 2 ^ exponent_of p
unfolding ticks_of
ticks_of_is p = refl

pub whole : (p : ℕ) → p ≡ exponent_of p * 2 ^ 52 + significand_of p
whole p = omega arith

pub short : (p : ℕ) → significand_of p < 2 ^ 53
short p = omega arith

pub normal : (p : ℕ) → 0 < exponent_of p → 2 ^ 52 ≤ significand_of p
normal p h = omega arith

some : (p : ℕ) → 0 < p → 0 < significand_of p
some p h = omega arith

pub swap : (p q r : ℕ) → HypotIs p q r → HypotIs q p r
swap p q r h = record {
  fine = h.fine;
  is = ap (λ (x : ℕ). root binary64 x)
      (add_comm (sq (ticks_of q)) (sq (ticks_of p))) ∙ h.is;
}

pub infinity : of_bits binary64 (2047 * 2 ^ 52) ≡ inf false
unfolding of_bits
infinity = refl

within : (p q r : ℕ) → RootIs (sq (ticks_of p) + sq (ticks_of q)) r → r < 2047 * 2 ^ 52 → HypotIs p q r
within p q r h l = record { fine = le_of_lt l; is = h.in_range l }

over : (p q r : ℕ) → RootIs (sq (ticks_of p) + sq (ticks_of q)) r → 2047 * 2 ^ 52 ≤ r → HypotIs p q (2047 * 2 ^ 52)
over p q r h l = record { fine = le_refl (2047 * 2 ^ 52); is = h.beyond l ∙ sym infinity }

pub capped : (p q r : ℕ) → RootIs (sq (ticks_of p) + sq (ticks_of q)) r → HypotIs p q (min r (2047 * 2 ^ 52))
capped p q r h = elim (decide (2047 * 2 ^ 52) r) [
  | inl l ↦ subst (λ (x : ℕ). HypotIs p q x) (sym (min-eq_right l)) (over p q r h l)
  | inr l ↦ subst (λ (x : ℕ). HypotIs p q x) (sym (min-eq_left (le_of_lt l))) (within p q r h l)
]

at_zero : root binary64 (sq (ticks_of 0) + sq (ticks_of 0)) ≡ of_bits binary64 0
unfolding ticks_of root of_bits
at_zero = refl

pub nothing : (p q : ℕ) → p ≡ 0 → q ≤ p → HypotIs p q 0
nothing p q e l = let f : q ≡ 0 = omega arith in record {
  fine = zero-le;
  is = ap
      (λ (x : ℕ). root binary64 (sq (ticks_of x) + sq (ticks_of q))) e ∙ ap
      (λ (x : ℕ). root binary64 (sq (ticks_of 0) + sq (ticks_of x))) f ∙ at_zero;
}

-- ---- p is d binades above q
module _ (p q d : ℕ) (gap : exponent_of p ≡ d + exponent_of q) where
  abbrev pub n : ℕ
  n = sq (ticks_of p) + sq (ticks_of q)

  n_is : n ≡ hyp (significand_of p) (significand_of q) d (exponent_of q)
  n_is = ap (λ (x : ℕ). sq x + sq (ticks_of q)) (ticks_of_is p ∙ ap (λ (x : ℕ). significand_of p * 2 ^ x) gap) ∙ ap
      (λ (x : ℕ). sq (significand_of p * 2 ^ (d + exponent_of q)) + sq x) (ticks_of_is q)

  n_four : 4 * n ≡ (sq (2 * significand_of p) * 2 ^ (2 * d) + sq (2 * significand_of q)) * sq (2 ^ exponent_of q)
  n_four = ap (λ (x : ℕ). 4 * x) n_is ∙ four_hyp (significand_of p) (significand_of q) d (exponent_of q)

  n_four_top : 4 * n ≡ (sq (significand_of p) * 2 ^ (2 * d) + sq (significand_of q)) * (4 * sq (2 ^ exponent_of q))
  n_four_top = ap (λ (x : ℕ). 4 * x) n_is ∙ four_hyp_top (significand_of p) (significand_of q) d (exponent_of q)

  big : sq (significand_of p * 2 ^ exponent_of p) ≤ n
  big = le_trans (le_of_eq (ap sq (sym (ticks_of_is p)))) (go (sq (ticks_of p)) (sq (ticks_of q)))
    where
      go : (a b : ℕ) → a ≤ a + b
      go a b = omega arith

  at : (t : ℕ) → (t ≡ 0 → sq (2 * significand_of q) % 2 ^ (2 * d) ≡ 0)
      → (0 < t → 0 < sq (2 * significand_of q) % 2 ^ (2 * d))
      → Bracket n (sq (2 * significand_of p) + sq (2 * significand_of q) / 2 ^ (2 * d)) t (2 ^ exponent_of p)
  at t x y = bracket n (2 * significand_of p) (2 * significand_of q) (2 ^ (2 * d)) (sq (2 ^ exponent_of q))
      (2 ^ exponent_of p) (pow_pos (2 * d)) (mul-pos (pow_pos (exponent_of q)) (pow_pos (exponent_of q))) n_four
      (ap (λ (x : ℕ). sq (2 ^ x)) gap ∙ square_hyp d (exponent_of q)) t x y

  told : (t : Bool) → Sticky (significand_of q) d t
      → Bracket n (sq (2 * significand_of p) + sq (2 * significand_of q) / 2 ^ (2 * d)) (from_bool t) (2 ^ exponent_of p)
  told true s = at 1 (λ e. absurd (omega arith)) (λ l. s.more refl)
  told false s = at 0 (λ e. s.exact refl) (λ l. absurd (lt_irrefl 0 l))

  pub search_law : (t : Bool) (r : ℕ) → 0 < p → Sticky (significand_of q) d t
      → Rounded (sq (2 * significand_of p) + sq (2 * significand_of q) / 2 ^ (2 * d)) (from_bool t) (significand_of p - 1)
      (significand_of p + 2 ^ 52) r
      → RootIs (sq (ticks_of p) + sq (ticks_of q)) (exponent_of p * 2 ^ 52 + r)
  search_law t r h s = found n (sq (2 * significand_of p) + sq (2 * significand_of q) / 2 ^ (2 * d)) (from_bool t)
      (exponent_of p) (significand_of p) (told t s) (some p h) (short p) (normal p) big r

  -- z and a bit, with (2 r - 1)^2 < z < (2 r + 1)^2: r steps
  inside : (z t E r : ℕ) → Bracket n z t (2 ^ E) → NearestHalf z r → 2 ^ 52 ≤ r → r ≤ 2 ^ 53
      → (0 < E → sq (2 ^ 52 * 2 ^ E) ≤ n) → RootIs n (E * 2 ^ 52 + r)
  inside z t E r b i l h lo =
      let e : r - 1 + 1 ≡ r = pred r (omega arith) in
      let i' = subst (λ (x : ℕ). NearestHalf z x) (sym e) i in
      subst (λ (x : ℕ). RootIs n (E * 2 ^ 52 + x)) e
      (root_near n (r - 1) E (omega arith) (λ x. omega arith) lo
      (near_inside n z (r - 1) (2 ^ E) (pow_pos E) (inside_lo z (r - 1) i') (inside_hi z (r - 1) i') b.low
      b.high))

  -- d of 27 or more: p itself
  small : 27 ≤ d → sq (2 * significand_of q) / 2 ^ (2 * d) < 2 ^ 54
  small h =
      (div-lt_iff_lt-mul (pow_pos (2 * d))).1
      (lt_of_lt_of_le (squares (2 * significand_of q) (let x = short q in let y : 2 * significand_of q < 2 ^ 54 = omega
      arith in y)) (mul-le-mul_left (2 ^ 54) (pow_mono {i = 54} {j = 2 * d} (omega arith))))
    where
      squares : (a : ℕ) → a < 2 ^ 54 → sq a < 2 ^ 54 * 2 ^ 54
      squares a l = lt_of_le_of_lt (mul-le-mul_left a (le_of_lt l)) (mul-lt-mul_of_pos_right l (pow_pos 54))

  far_inside : (m k : ℕ) → 2 ^ 52 ≤ m → k < 2 ^ 54 → NearestHalf (sq (2 * m) + k) m
  far_inside m k l h = record { over = omega arith; under = omega arith }

  pub far_law : 27 ≤ d → p < 2047 * 2 ^ 52 → HypotIs p q p
  far_law h l =
      let k : 2 ^ 52 ≤ significand_of p = normal p (omega arith) in
      let t = sq (2 * significand_of q) % 2 ^ (2 * d) in
      within p q p
      (subst (λ (x : ℕ). RootIs n x) (sym (whole p))
      (inside (sq (2 * significand_of p) + sq (2 * significand_of q) / 2 ^ (2 * d)) t (exponent_of p) (significand_of p)
      (at t (λ x. x) (λ x. x)) (far_inside (significand_of p) (sq (2 * significand_of q) / 2 ^ (2 * d)) k (small h)) k
      (le_of_lt (short p))
      (λ x. le_trans (mul-le-mul (mul-le-mul_right (2 ^ exponent_of p) k) (mul-le-mul_right (2 ^ exponent_of p) k)) big)))
      l

  -- the root lies above 2^52 steps
  above_least : (z t E r : ℕ) → Bracket n z t (2 ^ E) → NearestHalf z r → 2 ^ 52 < r → sq (2 ^ 52 * 2 ^ E) ≤ n
  above_least z t E r b i l =
      let o = i.over in
      let c : sq (2 * (r - 1) + 1) ≤ z = inside_lo' z r (omega arith) i in
      let k : 2 ^ 106 ≤ sq (2 * (r - 1) + 1) = mul-le-mul {n₁ = 2 ^ 53} {m₁ = 2 ^ 53}
      (let x : 2 ^ 53 ≤ 2 * (r - 1) + 1 = omega arith in x) (let x : 2 ^ 53 ≤ 2 * (r - 1) + 1 = omega arith in x) in
      quarter n (2 ^ E) (le_trans (mul-le-mul_right (sq (2 ^ E)) (le_trans k c)) b.low)
    where
      inside_lo' : (z r : ℕ) → 0 < r → NearestHalf z r → sq (2 * (r - 1) + 1) ≤ z
      inside_lo' z r h i = le_of_lt (inside_lo z (r - 1) (subst (λ (x : ℕ). NearestHalf z x) (sym (pred r h)) i))

      quarter : (n u : ℕ) → 2 ^ 106 * sq u ≤ 4 * n → sq (2 ^ 52 * u) ≤ n
      quarter n u h = le_trans (le_of_eq (native.Mathlib.Nat.mul-mul-mul_comm (2 ^ 52) u (2 ^ 52) u)) (go n (sq u) h)
        where
          go : (n w : ℕ) → 2 ^ 106 * w ≤ 4 * n → 2 ^ 104 * w ≤ n
          go n w h = omega arith

  near_law : (z t E r : ℕ) → Bracket n z t (2 ^ E) → NearestHalf z r → 2 ^ 52 < r → r ≤ 2 ^ 53 → E < 2045
      → HypotIs p q (E * 2 ^ 52 + r)
  near_law z t E r b i l h g = within p q (E * 2 ^ 52 + r) (inside z t E r b i (le_of_lt l) h
      (λ x. above_least z t E r b i l)) (omega arith)

  pub same_binade : (r : ℕ) → NearestHalf (sq (2 * significand_of p) + sq (2 * significand_of q) / 2 ^ (2 * d)) r
      → 2 ^ 52 < r → r ≤ 2 ^ 53 → exponent_of p < 2045 → HypotIs p q (exponent_of p * 2 ^ 52 + r)
  same_binade r i l h g = let t = sq (2 * significand_of q) % 2 ^ (2 * d) in near_law
      (sq (2 * significand_of p) + sq (2 * significand_of q) / 2 ^ (2 * d)) t (exponent_of p) r (at t (λ x. x) (λ x. x)) i
      l h g

  pub next_binade : (r : ℕ) → NearestHalf (sq (significand_of p) + sq (significand_of q) / 2 ^ (2 * d)) r → 2 ^ 52 < r
      → r ≤ 2 ^ 53 → exponent_of p + 1 < 2045 → HypotIs p q ((exponent_of p + 1) * 2 ^ 52 + r)
  next_binade r i l h g =
      let t = sq (significand_of q) % 2 ^ (2 * d) in
      near_law (sq (significand_of p) + sq (significand_of q) / 2 ^ (2 * d)) t (exponent_of p + 1) r
      (bracket n (significand_of p) (significand_of q) (2 ^ (2 * d)) (4 * sq (2 ^ exponent_of q)) (2 ^ (exponent_of p + 1))
      (pow_pos (2 * d)) (mul-pos (zero-lt-suc 3) (mul-pos (pow_pos (exponent_of q)) (pow_pos (exponent_of q))))
      n_four_top (ap (λ (x : ℕ). sq (2 ^ (x + 1))) gap ∙ square_hyp_top d (exponent_of q)) t (λ x. x) (λ x. x))
      i l h g

pub fast_law : (p q d top a b r : ℕ) → exponent_of p ≡ d + exponent_of q → top < 2 → Scaled (significand_of p) top a
    → Scaled (significand_of q) top b → NearestHalf (sq a + sq b / 2 ^ (2 * d)) r → 2 ^ 52 < r → r ≤ 2 ^ 53
    → exponent_of p + 1 < 2045 → HypotIs p q ((exponent_of p + top) * 2 ^ 52 + r)
fast_law p q d top a b r gap t x y i l h g = elim (decide top 0) [
  | inl k ↦
      let z : top ≡ 0 = omega arith in
      subst (λ (w : ℕ). HypotIs p q (w * 2 ^ 52 + r)) (let w : exponent_of p ≡ exponent_of p + top = omega arith in w)
      (same_binade p q d gap r (subst (λ (w : ℕ). NearestHalf (sq w + sq (2 * significand_of q) / 2 ^ (2 * d)) r)
      (x.two z) (subst (λ (w : ℕ). NearestHalf (sq a + sq w / 2 ^ (2 * d)) r) (y.two z) i)) l h (omega arith))
  | inr k ↦
      let z : top ≡ 1 = omega arith in
      subst (λ (w : ℕ). HypotIs p q (w * 2 ^ 52 + r)) (let w : exponent_of p + 1 ≡ exponent_of p + top = omega arith in w)
      (next_binade p q d gap r (subst (λ (w : ℕ). NearestHalf (sq w + sq (significand_of q) / 2 ^ (2 * d)) r) (x.one z)
      (subst (λ (w : ℕ). NearestHalf (sq a + sq w / 2 ^ (2 * d)) r) (y.one z) i)) l h g)
]

-- the smaller one's digits are no more than the larger one's, d binades apart
pub shifted_le : (p q d : ℕ) → exponent_of p ≡ d + exponent_of q → q ≤ p → significand_of q ≤ significand_of p * 2 ^ d
shifted_le p q zero gap h = le_trans (let x : significand_of q ≤ significand_of p = omega arith in x)
    (le_of_eq (sym (mul-one (significand_of p))))
shifted_le p q (suc d) gap h =
    let a : 2 ^ 52 ≤ significand_of p = normal p (omega arith) in
    le_trans (le_of_lt (short q)) (mul-le-mul {n₁ = 2 ^ 52} {m₁ = 2} a (pow_mono {i = 1} {j = suc d} (omega arith)))

-- ---- for the functions, in their own terms
gap_of : (p q : ℕ) → q ≤ p → exponent_of p ≡ exponent_of p - exponent_of q + exponent_of q
gap_of p q h = omega arith

pub any_far : (p q eb es : ℕ) → eb ≡ exponent_of p → es ≡ exponent_of q → Operands 0 2047 p q → 27 ≤ eb - es → HypotIs p q p
any_far p q eb es e f h k = far_law p q (exponent_of p - exponent_of q) (gap_of p q h.ordered) (omega arith) h.fine

pub far_bits : (p q : ℕ) → Operands 0 2047 p q → 27 ≤ exponent_of p - exponent_of q → HypotIs p q p
far_bits p q h k = any_far p q (exponent_of p) (exponent_of q) refl refl h k

abbrev Shift : ℕ → ℕ → ℕ → ℕ → Type 0
Shift p q eb es = q - es * 2 ^ 52 ≤ (p - eb * 2 ^ 52) * 2 ^ (eb - es)

pub any_shift : (p q eb es : ℕ) → eb ≡ exponent_of p → es ≡ exponent_of q → q ≤ p → Shift p q eb es
any_shift p q eb es e f h = subst (λ (x : ℕ). Shift p q x es) (sym e)
    (subst (λ (y : ℕ). Shift p q (exponent_of p) y) (sym f) (shifted_le p q (exponent_of p - exponent_of q) (gap_of p q h)
    h))

abbrev AnyLaw : ℕ → ℕ → Bool → ℕ → ℕ → ℕ → Type 0
AnyLaw p q t r eb es =
    Sticky (q - es * 2 ^ 52) (eb - es) t
    → Rounded (sq (2 * (p - eb * 2 ^ 52)) + sq (2 * (q - es * 2 ^ 52)) / 2 ^ (2 * (eb - es))) (from_bool t) (p - eb * 2 ^ 52 - 1)
    (p - eb * 2 ^ 52 + 2 ^ 52) r
    → RootIs (sq (ticks_of p) + sq (ticks_of q)) (eb * 2 ^ 52 + r)

pub any_law : (p q : ℕ) (t : Bool) (r eb es : ℕ) → eb ≡ exponent_of p → es ≡ exponent_of q → q ≤ p → 0 < p → AnyLaw p q t r eb es
any_law p q t r eb es e f h l =
    subst (λ (x : ℕ). AnyLaw p q t r x es) (sym e)
    (subst (λ (y : ℕ). AnyLaw p q t r (exponent_of p) y) (sym f)
    (search_law p q (exponent_of p - exponent_of q) (gap_of p q h) t r l))

pub fast_bits : (p q top a b r : ℕ) → Operands (2 ^ 52) 2000 p q → top < 2
    → Scaled (p % 2 ^ 52 + 2 ^ 52) top a → Scaled (q % 2 ^ 52 + 2 ^ 52) top b
    → NearestHalf (sq a + sq b / 2 ^ (2 * (p / 2 ^ 52 - q / 2 ^ 52))) r → 2 ^ 52 < r → r ≤ 2 ^ 53
    → HypotIs p q ((p / 2 ^ 52 - 1 + top) * 2 ^ 52 + r)
fast_bits p q top a b r h t x y i m n =
    fast_law p q (p / 2 ^ 52 - q / 2 ^ 52) top a b r (let g : exponent_of p ≡ p / 2 ^ 52 - q / 2 ^ 52 + exponent_of q =
    omega arith in g) t
    (subst (λ (z : ℕ). Scaled z top a) (let g : p % 2 ^ 52 + 2 ^ 52 ≡ significand_of p = omega arith in g) x)
    (subst (λ (z : ℕ). Scaled z top b) (let g : q % 2 ^ 52 + 2 ^ 52 ≡ significand_of q = omega arith in g) y) i m n
    (omega arith)

-- the same with the root's exponent e, s binades below the one above p's
pub fast_binade : (p q s e a b r : ℕ) → Operands (2 ^ 52) 2000 p q → s < 2 → (s + e) % 2 ^ 64 ≡ p / 2 ^ 52 + 1 → e < 2 ^ 63
    → Scaled (p % 2 ^ 52 + 2 ^ 52) (1 - s) a → Scaled (q % 2 ^ 52 + 2 ^ 52) (1 - s) b
    → NearestHalf (sq a + sq b / 2 ^ (2 * (p / 2 ^ 52 - q / 2 ^ 52))) r → 2 ^ 52 < r → r ≤ 2 ^ 53
    → HypotIs p q ((e - 1) * 2 ^ 52 + r)
fast_binade p q s e a b r h t f g x y i m n = subst (λ (z : ℕ). HypotIs p q (z * 2 ^ 52 + r))
    (let w : p / 2 ^ 52 - 1 + (1 - s) ≡ e - 1 = omega (arith, h.at_least, h.ordered) in w)
    (fast_bits p q (1 - s) a b r h (omega arith) x y i m n)

-- ---- the larger and the smaller of two
pub operands : (a b : ℕ) → a < 2047 * 2 ^ 52 → b < 2047 * 2 ^ 52 → Operands 0 2047 (max a b) (min a b)
operands a b i j = elim (decide b a) [
  | inl h ↦
      let u = max-eq_left h in
      let v = min-eq_right h in
      record { at_least = zero-le; ordered = omega arith; fine = omega arith }
  | inr h ↦
      let u = max-eq_right (le_of_lt h) in
      let v = min-eq_left (le_of_lt h) in
      record { at_least = zero-le; ordered = omega arith; fine = omega arith }
]

pub either_way : (a b r : ℕ) → HypotIs (max a b) (min a b) r → HypotIs a b r
either_way a b r h = elim (decide b a) [
  | inl l ↦ subst (λ (z : ℕ). HypotIs z b r) (max-eq_left l) (subst (λ (z : ℕ). HypotIs (max a b) z r) (min-eq_right l) h)
  | inr l ↦ swap b a r
      (subst (λ (z : ℕ). HypotIs z a r) (max-eq_right (le_of_lt l))
      (subst (λ (z : ℕ). HypotIs (max a b) z r) (min-eq_left (le_of_lt l)) h))
]
