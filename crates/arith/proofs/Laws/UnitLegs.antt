-- Two legs times the rounded reciprocal of their norm are not both over 7/8 in magnitude. By the share that a rounding errs by:
-- the norm is over 6/5 of the smaller leg, so its reciprocal makes less than 7/8 of that. Infinite operands are cases apart.
use Rattle.std.proofs.Common.{◌≡◌, ℕ, ◌+◌, ◌-◌, ◌*◌, ◌/◌, ◌^◌, ◌<◌, ◌≤◌, min, Bool, true, false, cond, T, eqb, pos, sym, refl, ap, ◌∙◌, inl, inr, le_trans, le_of_eq, le_refl, le_of_lt, mul-le-mul_right, mod-lt, zero-lt-suc, mul-le-mul, lt_of_mul-lt-mul_right, mul-le-mul_left, mul-zero, div-add-mod', zero-add, zero-mul, not-le_of_lt, arith, pow_mono}
use lib.Ieee.{div, fin, fits, Float, Format, inf, is_nan, le, lt, mul, nan, neg, prec, unlike}
use lib.Ieee.Fits.{and_i, div-fits}
use lib.Ieee.Scale.{finite}
use Rattle.arith.specs.roots.Roots.{hypot, root}
use Rattle.arith.proofs.roots.Numbers.{decide}
use Rattle.arith.proofs.roots.Root.Sticky.{sticky_root, sticky_root_ge}
use Rattle.arith.proofs.roots.Rounding.Fraction.{rounded}
use Rattle.arith.proofs.roots.Rounding.Key.{finite_of, finite_number, key, key_is, magnitude, mid, negative, number, number_of}
use Rattle.arith.proofs.roots.Rounding.Key.{prec_pos, side, unit, unit_pos, value_key}
use Rattle.arith.proofs.roots.Rounding.KeyOrder.{le→key}
use Rattle.arith.proofs.roots.Rounding.Product.{mul_number, negative_part, positive_part}
use Rattle.arith.proofs.roots.Rounding.Quotient.{div_key}
use Rattle.arith.proofs.roots.Rounding.RoundKey.{round_key_side}
use Rattle.arith.proofs.roots.Rounding.Sum.{neg_key}
use Rattle.arith.specs.F64.{𝟘}
use Rattle.arith.specs.Num.{abs}
use Rattle.arith.proofs.Laws.Bounds.{round_key_within}
use Rattle.arith.proofs.Laws.Extended.{neg_number}
use Rattle.arith.proofs.Laws.Hypot.{hypot_comm, hypot_ge, hypot_infinite, hypot_number, infinite, Kind, kind, unsigned}
use Rattle.arith.proofs.Laws.Hypot.{unsigned_key, unsigned_number, usual}
use Rattle.arith.proofs.Laws.HypotKey.{hypot_is}
use Rattle.arith.proofs.Laws.HypotReach.{at_most}
use Rattle.arith.proofs.Laws.HypotSquares.{key_below}
use Rattle.arith.proofs.Laws.Monotone.{key_size, times_key}
use Rattle.arith.proofs.Laws.OrderHeld.{T→true, le_right}
use Rattle.arith.proofs.Laws.RootKey.{root_key}
use Rattle.arith.proofs.Laws.Share.{rounded_least, rounded_most}

-- ---- in ticks: m the smaller leg, s four times the root of the sum of squares, L the norm, R its reciprocal, U is 1, M infinity
module _ (U M m s L R : ℕ) where
  too_much : 128 * M ≤ U * U → L ≤ M → R ≤ M → 5 * m ≤ s + 1 → 128 * s ≤ 516 * L + 256
      → 127 * (R * L) ≤ 128 * (U * U) + 64 * L → 7 * (U * U) < 8 * (m * R) → ⊥
  too_much room l r a b c d =
      let big : 112 < m = lt_of_mul-lt-mul_right M (omega (arith, mul-le-mul_left m r)) in
      let slope : 53 * m ≤ 43 * L = omega arith in
      omega (arith, mul-le-mul_right R slope)

-- the root of two squares of m or more is 5/4 m or more, up to a quarter of a tick
diagonal : (m x y : ℕ) → m ≤ x → m ≤ y → 5 * m ≤ sticky_root (x * x + y * y) + 1
diagonal m x y h k =
    let t = m / 2 in
    let halves = div-add-mod' m 2 in
    let rest = mod-lt m (zero-lt-suc 1) in
    let lo : 2 * t ≤ m = omega arith in
    let more = sticky_root_ge (x * x + y * y) (2 * m + t)
    (omega (arith, mul-le-mul h h, mul-le-mul k k, mul-le-mul_left m lo, mul-le-mul_left t lo)) in
    omega arith

-- ---- one rounding each
module _ (f : Format) (x u : Float) (X : T (finite_number f x)) (W : T (finite_number f u)) (plus : mid f ≤ key f u) where
  -- the magnitude of a product, by a number q * 2 ^ j that bounds the exact one
  product_most : (q j : ℕ) → q < 2 ^ prec f → key_size f x * positive_part f u ≤ q * 2 ^ j * unit f
      → key f (abs (mul f x u)) ≤ mid f + q * 2 ^ j
  unfolding key_size
  product_most q j Q h = go (lt (mul f x u) 𝟘)
    where
      w : (mid f ≤ key f (mul f x u) + q * 2 ^ j) × (key f (mul f x u) ≤ mid f + q * 2 ^ j)
      w =
          let a = positive_part f x * positive_part f u in
          let b = negative_part f x * positive_part f u in
          rw (times_key f x u X W plus) (round_key_within f a b (unit f) q j (unit_pos f) Q (omega arith) (omega arith))

      go : (b : Bool) → key f (cond b (neg (mul f x u)) (mul f x u)) ≤ mid f + q * 2 ^ j
      go true = omega (arith, neg_key f (mul f x u) (mul_number f x u X W), w.0)
      go false = w.1

-- u is 0 or more, and over 1 / l by a small share at most
record AboutReciprocal (f : Format) (l u : Float) : Type 0 where
  pub plus : mid f ≤ key f u
  pub most : positive_part f u ≤ mid f
  pub share : 127 * (positive_part f u * positive_part f l) ≤ 128 * (unit f * unit f) + 64 * positive_part f l

module _ (f : Format) (digits : 64 ≤ 2 ^ (prec f - 1)) where
  -- what is no less than a root as rounded is less than the exact one by a small share at most
  root_share : (N : ℕ) (l : Float) → key f (root f N) ≤ key f l → key f l < mid f + mid f
      → 128 * sticky_root N ≤ 516 * positive_part f l + 256
  root_share N l h k =
      let s = sticky_root N in
      let e = root_key f N ∙ round_key_side f false s s 0 4 (zero-lt-suc 3) (sym (zero-add s)) in
      let r : rounded (prec f) s 4 ≤ positive_part f l = omega arith in
      omega (arith, rounded_least 64 (prec f) s 4 (prec_pos f) digits (zero-lt-suc 3))

  reciprocal_share : (one l : Float) → T (finite_number f one) → T (finite_number f l) → key f one ≡ mid f + unit f
      → mid f < key f l → AboutReciprocal f l (div f one l)
  reciprocal_share one l p q e h =
      let U = unit f in
      let L = positive_part f l in
      let L⁺ : 0 < L = omega arith in
      let a : positive_part f one ≡ U = omega arith in
      let b : negative_part f one ≡ 0 = omega arith in
      let k : key f (div f one l) ≡ mid f + min (mid f) (rounded (prec f) (U * U) L) = div_key f one l p q h
      ∙ rw (a, b, zero-mul U) (round_key_side f false (U * U) (U * U) 0 L L⁺ (sym (zero-add (U * U)))) in
      let r : positive_part f (div f one l) ≤ rounded (prec f) (U * U) L = omega arith in
      record {
        plus = omega arith;
        most = omega arith;
        share = omega (arith, mul-le-mul_right L r, rounded_most 64 (prec f) (U * U) L (prec_pos f) digits L⁺);
      }

inf_reciprocal : (f : Format) (one : Float) (s : Bool) → T (finite one) → key f (div f one (inf s)) ≡ mid f
unfolding div
inf_reciprocal f nan s p = absurd p
inf_reciprocal f (inf t) s p = absurd p
inf_reciprocal f (fin t m e) s p =
    value_key f (fin (unlike t s) 0 (pos 0)) (unlike t s) 0 (refl, zero-mul (unit f)) ∙ none (mid f) (unlike t s)
  where
    none : (M : ℕ) (s : Bool) → side M s 0 ≡ M
    none M false = omega arith
    none M true = omega arith

-- ---- what is no NaN, and what is finite, comes of finite operands
no_nan : (c : Float) → T (le c nan) → ⊥
no_nan c h = unfold is_nan in le_right c nan (T→true (le c nan) h)

neither : (b s : Bool) → T (finite (cond b nan (inf s))) → ⊥
neither true s h = h
neither false s h = h

factors_finite : (f : Format) (x y : Float) → T (finite (mul f x y)) → T (finite x) × T (finite y)
unfolding mul
factors_finite f nan y h = absurd h
factors_finite f (inf s) nan h = absurd h
factors_finite f (inf s) (inf t) h = absurd h
factors_finite f (inf s) (fin t n d) h = absurd (neither (eqb n 0) (unlike s t) h)
factors_finite f (fin s m e) nan h = absurd h
factors_finite f (fin s m e) (inf t) h = absurd (neither (eqb m 0) (unlike s t) h)
factors_finite f (fin s m e) (fin t n d) h = (tt, tt)

inf_times : (f : Format) (one : Float) (s : Bool) → T (finite one) → mul f (inf s) (div f one (inf false)) ≡ nan
unfolding mul div
inf_times f nan s p = absurd p
inf_times f (inf t) s p = absurd p
inf_times f (fin t m e) s p = refl

-- ---- a format of 7 digits or more in which the reciprocal of the greatest number is 128 ticks or more; its 1, and c over 7/8
pub record Fine (f : Format) (one c : Float) : Type 0 where
  pub digits : 64 ≤ 2 ^ (prec f - 1)
  pub room : 128 * mid f ≤ unit f * unit f
  pub one_finite : T (finite_number f one)
  pub one_key : key f one ≡ mid f + unit f
  pub j : ℕ
  pub eighth : unit f ≡ 8 * 2 ^ j
  pub over : mid f + 7 * 2 ^ j < key f c
  pub c_number : T (number f c)

module _ (f : Format) (one c : Float) (F : Fine f one c) where
  one_is : T (finite one)
  one_is = finite_of f one F.one_finite

  seven : 7 < 2 ^ prec f
  seven =
      let less : prec f - 1 ≤ prec f = omega arith in
      omega (arith, F.digits, pow_mono less)

  -- a product not below c is over 7/8 exactly
  exact_over : (x u : Float) → T (finite_number f x) → T (finite_number f u) → mid f ≤ key f u
      → key f c ≤ key f (abs (mul f x u)) → 7 * (unit f * unit f) < 8 * (key_size f x * positive_part f u)
  exact_over x u X W plus h = elim (decide (8 * (key_size f x * positive_part f u)) (7 * (unit f * unit f))) [
    | inl l ↦ absurd (not-le_of_lt F.over (le_trans h (product_most f x u X W plus 7 F.j seven
        (omega (arith, ap (λ (z : ℕ). z * unit f) F.eighth)))))
    | inr l ↦ l
  ]

  -- the length of a vector, and its reciprocal
  module _ (x y z : Float) where
    abbrev pub norm : Float
    norm = hypot f (hypot f x y) z

    abbrev pub reciprocal : Float
    reciprocal = div f one norm

  -- ---- of finite legs
  module _ (x y z : Float) (X : T (finite_number f x)) (Y : T (finite_number f y)) (Z : T (finite_number f z)) where
    abbrev l : Float
    l = norm x y z

    abbrev u : Float
    u = reciprocal x y z

    sum : T (number f (hypot f x y))
    sum = hypot_number f x y (number_of f x X) (number_of f y Y)

    norm_number : T (number f l)
    norm_number = hypot_number f (hypot f x y) z sum (number_of f z Z)

    norm_ge : key f (hypot f x y) ≤ key f l
    norm_ge =
        let h = hypot f x y in
        le_trans (rw (key_is f h) (at_most (mid f) (magnitude f h) (negative h)))
        (le_trans (le_of_eq (sym (unsigned_key f h sum)))
        (le→key f (unsigned h) l (unsigned_number f h sum) norm_number (hypot_ge f h z sum (number_of f z Z))))

    module _ (U : T (finite_number f u)) (hx : key f c ≤ key f (abs (mul f x u))) (hy : key f c ≤ key f (abs (mul f y u))) where
      of_finite : T (finite_number f l) → mid f < key f l → ⊥
      of_finite L plus = elim (decide (key_size f x) (key_size f y)) [
        | inl h ↦ smaller (key_size f x) (le_refl _) h (exact_over x u X U r.plus hx)
        | inr h ↦ smaller (key_size f y) (le_of_lt h) (le_refl _) (exact_over y u Y U r.plus hy)
      ]
        where
          r : AboutReciprocal f l u
          r = reciprocal_share f F.digits one l F.one_finite L F.one_key plus

          smaller : (m : ℕ) → m ≤ key_size f x → m ≤ key_size f y → 7 * (unit f * unit f) < 8 * (m * positive_part f u) → ⊥
          smaller m a b d =
              let below = key_below f l L in
              let root = ap (λ (v : Float). key f v) (sym (hypot_is f x y X Y)) in
              too_much (unit f) (mid f) m _ (positive_part f l) (positive_part f u) F.room (omega arith) r.most
              (diagonal m (key_size f x) (key_size f y) a b)
              (root_share f F.digits _ l (le_trans (le_of_eq root) norm_ge) below) r.share d

      -- the reciprocal of an infinity is 0
      of_infinite : (s : Bool) → l ≡ inf s → ⊥
      of_infinite s e =
          let k : key f u ≡ mid f = ap (λ (v : Float). key f (div f one v)) e ∙ inf_reciprocal f one s one_is in
          let o : positive_part f u ≡ 0 = omega arith in
          let h = rw (o, mul-zero (key_size f x)) at (exact_over x u X U (le_of_eq (sym k)) hx) in
          omega arith

      not_both_finite : (T (number f l) → mid f < key f l) → ⊥
      not_both_finite plus = go (kind f l norm_number)
        where
          go : Kind f l → ⊥
          go (infinite s e) = of_infinite s e
          go (usual p q) = of_finite q (plus norm_number)

  -- ---- of any legs: an infinite one makes the norm infinite, its reciprocal 0, and the product a NaN
  leg_finite : (x y z : Float) → T (le c (abs (mul f x (reciprocal x y z)))) → T (finite x)
  unfolding lt mul
  leg_finite nan y z h = absurd (no_nan c h)
  leg_finite (inf s) y z h = absurd (no_nan c (rw (e, inf_times f one s one_is) at h))
    where
      e : norm (inf s) y z ≡ inf false
      e = rw (hypot_infinite f s y) (hypot_infinite f false z)
  leg_finite (fin s m e) y z h = tt

  abs_number : (v : Float) → T (number f v) → T (number f (abs v))
  abs_number v p = go (lt v 𝟘)
    where
      go : (b : Bool) → T (number f (cond b (neg v) v))
      go true = neg_number f v p
      go false = p

  module _ (x y z : Float) (X : T (fits f x)) (Y : T (fits f y)) (Z : T (fits f z)) where
    pub not_both : (T (number f (norm x y z)) → mid f < key f (norm x y z)) → T (finite (mul f z (reciprocal x y z)))
        → T (le c (abs (mul f x (reciprocal x y z)))) → T (le c (abs (mul f y (reciprocal x y z)))) → ⊥
    not_both plus hz hx hy =
        let u = reciprocal x y z in
        let w = factors_finite f z u hz in
        let U = and_i (fits f u) (finite u) (div-fits f one (norm x y z)) w.1 in
        let P = and_i (fits f x) (finite x) X (leg_finite x y z hx) in
        let Q = and_i (fits f y) (finite y) Y (leg_finite y x z (rw (hypot_comm f x y) at hy)) in
        not_both_finite x y z P Q (and_i (fits f z) (finite z) Z w.0) U (keys x P U hx) (keys y Q U hy) plus
      where
        keys : (v : Float) → T (finite_number f v) → T (finite_number f (reciprocal x y z))
            → T (le c (abs (mul f v (reciprocal x y z)))) → key f c ≤ key f (abs (mul f v (reciprocal x y z)))
        keys v P U h = le→key f c _ F.c_number (abs_number _ (mul_number f v _ P U)) h
