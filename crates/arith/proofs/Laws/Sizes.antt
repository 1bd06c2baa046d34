-- How large f64's operations make what they are given, in powers of 2: instances of the laws over any format at binary64, whose tick
-- is 2 ^ -1074. An argument of type T (..) is `tt` for numerals.
use Rattle.std.proofs.Common.{◌≡◌, ℕ, suc, ◌+◌, ◌^◌, ◌<◌, ◌≤◌, Bool, true, false, cond, T, ltb, leb, refl, zero-le, arith, lit≤, le→leb, ltb→lt, leb→le}
use lib.Ieee.{Float, binary64, fits, neg, of_bits}
use Rattle.arith.specs.F64.{◌⊕◌, ◌⊖◌, ◌⊗◌, ◌≺◌, ◌≼◌, 𝟘, 𝟙, ½, e_8, e_9, e_12, e_18, e_24}
use Rattle.arith.specs.Num.{abs, is_finite, max, min}
use Rattle.arith.specs.roots.Roots.{hypot}
use Rattle.arith.proofs.roots.Rounding.Key.{finite_number, key, magnitude, mid, number, number_of, unit}
use Rattle.arith.proofs.Laws.Bounded.{Bounded, bounded_up, neg_bounded, one_above, overflow}
use Rattle.arith.proofs.Laws.BoundedValue.{BoundedValue, add_value, bounded→value, hypot_value, mul_value, sub_value}
use Rattle.arith.proofs.Laws.BoundedValue.{bounded_value, value→bounded}

-- the key of an f64, and that of zero
abbrev pub K : Float → ℕ
K = key binary64

abbrev pub M : ℕ
M = mid binary64

abbrev pub Number : Float → Type 0
Number x = T (number binary64 x)

-- one of two, whichever
pub cond_keeps : (P : Float → Type 0) (t : Bool) {x y : Float} → P x → P y → P (cond t x y)
cond_keeps P true X Y = X
cond_keeps P false X Y = Y

pub max_keeps : (P : Float → Type 0) {x y : Float} → P x → P y → P (max x y)
max_keeps P {x} {y} = cond_keeps P (y ≼ x)

pub min_keeps : (P : Float → Type 0) {x y : Float} → P x → P y → P (min x y)
min_keeps P {x} {y} = cond_keeps P (x ≼ y)

-- A finite f64, at most 2 ^ n in magnitude; and a given value of that size, of which nothing tells that f64 holds it, as of a lent
-- slice's numbers.
pub record Finite (n : ℕ) (x : Float) : Type 0 where
  pub bounded : Bounded binary64 (n + 1074) x

pub record Given (n : ℕ) (x : Float) : Type 0 where
  pub value : BoundedValue binary64 (n + 1074) x

pub given_ends : {n : ℕ} {x : Float} → Given n x → T (is_finite x)
given_ends {n} X = go X.value
  where
    go : {x : Float} → BoundedValue binary64 (n + 1074) x → T (is_finite x)
    go (bounded_value v) = unfold is_finite in tt

module _ {n : ℕ} {x : Float} (X : Finite n x) where
  pub finite_number_lem : Number x
  finite_number_lem = number_of binary64 x X.bounded.sure

  pub finite_given : Given n x
  finite_given = record { value = bounded→value binary64 (n + 1074) x X.bounded }

  pub finite_ends : T (is_finite x)
  finite_ends = given_ends finite_given

  pub finite_raise : {m : ℕ} → T (leb n m) → Finite m x
  finite_raise {m} t =
      let h = leb→le n m t in
      record { bounded = bounded_up binary64 (n + 1074) (m + 1074) x (omega arith) X.bounded }

  pub neg_finite : Finite n (neg x)
  neg_finite = record { bounded = neg_bounded binary64 (n + 1074) x X.bounded }

pub abs_finite : {n : ℕ} {x : Float} → Finite n x → Finite n (abs x)
abs_finite {n} {x} X = cond_keeps (Finite n) (x ≺ 𝟘) (neg_finite X) X

-- a given value that f64 holds
pub held_finite : {n : ℕ} {x : Float} → Given n x → T (fits binary64 x) → Finite n x
held_finite {n} X h = record { bounded = value→bounded binary64 (n + 1074) h X.value }

-- ---- sums, products and hypotenuses
pub below_overflow : (n : ℕ) → T (ltb n 1024) → n + 1074 < overflow binary64
below_overflow n t = let h = ltb→lt n 1024 t in omega arith

module _ {i j : ℕ} {x y : Float} (X : Given i x) (Y : Given j y) where
  pub add_given : T (ltb (one_above i j) 1024) → Finite (one_above i j) (x ⊕ y)
  add_given t =
      let k = below_overflow (one_above i j) t in
      record { bounded = add_value binary64 _ _ _ k (omega arith) (omega arith) X.value Y.value }

  pub sub_given : T (ltb (one_above i j) 1024) → Finite (one_above i j) (x ⊖ y)
  sub_given t =
      let k = below_overflow (one_above i j) t in
      record { bounded = sub_value binary64 _ _ _ k (omega arith) (omega arith) X.value Y.value }

  pub hypot_given : T (ltb (one_above i j) 1024) → Finite (one_above i j) (hypot binary64 x y)
  hypot_given t =
      let k = below_overflow (one_above i j) t in
      record { bounded = hypot_value binary64 _ _ _ k (omega arith) (omega arith) X.value Y.value }

  pub mul_given : T (ltb (i + j) 1024) → Finite (i + j) (x ⊗ y)
  mul_given t =
      let k = below_overflow (i + j) t in
      record { bounded = mul_value binary64 _ _ _ k (omega arith) X.value Y.value }

module _ {i j : ℕ} {x y : Float} (X : Finite i x) (Y : Finite j y) where
  pub add_finite : T (ltb (one_above i j) 1024) → Finite (one_above i j) (x ⊕ y)
  add_finite = add_given (finite_given X) (finite_given Y)

  pub sub_finite : T (ltb (one_above i j) 1024) → Finite (one_above i j) (x ⊖ y)
  sub_finite = sub_given (finite_given X) (finite_given Y)

  pub hypot_finite : T (ltb (one_above i j) 1024) → Finite (one_above i j) (hypot binary64 x y)
  hypot_finite = hypot_given (finite_given X) (finite_given Y)

  pub mul_finite : T (ltb (i + j) 1024) → Finite (i + j) (x ⊗ y)
  mul_finite = mul_given (finite_given X) (finite_given Y)

-- ---- constants
constant : (c : Float) → T (finite_number binary64 c) → T (leb M (K c + 2 ^ 1074)) → T (leb (K c) (M + 2 ^ 1074))
    → Finite 0 c
constant c f l u = record { bounded = record { sure = f; lower = leb→le _ _ l; upper = leb→le _ _ u } }

pub zero_finite : (n : ℕ) → Finite n 𝟘
unfolding mid key magnitude unit of_bits fits
zero_finite n = let z : Finite 0 𝟘 = constant 𝟘 tt tt tt in finite_raise z (le→leb 0 n zero-le)

pub one_finite : Finite 0 𝟙
unfolding mid key magnitude unit of_bits fits
one_finite = constant 𝟙 tt tt tt

pub e_8_finite : Finite 0 e_8
unfolding mid key magnitude unit of_bits fits
e_8_finite = constant e_8 tt tt tt

pub e_9_finite : Finite 0 e_9
unfolding mid key magnitude unit of_bits fits
e_9_finite = constant e_9 tt tt tt

pub e_12_finite : Finite 0 e_12
unfolding mid key magnitude unit of_bits fits
e_12_finite = constant e_12 tt tt tt

pub e_18_finite : Finite 0 e_18
unfolding mid key magnitude unit of_bits fits
e_18_finite = constant e_18 tt tt tt

pub e_24_finite : Finite 0 e_24
unfolding mid key magnitude unit of_bits fits
e_24_finite = constant e_24 tt tt tt

pub zero_number : Number 𝟘
zero_number = finite_number_lem (zero_finite 0)

pub zero_key : K 𝟘 ≡ M
unfolding mid key magnitude unit of_bits
zero_key = refl

pub e_12_positive : M ≤ K e_12
unfolding mid key magnitude unit of_bits
e_12_positive = lit≤ tt

-- half a number
half_value : BoundedValue binary64 1073 ½
unfolding mid key magnitude unit of_bits fits
half_value = bounded→value binary64 1073 ½ (record { sure = tt; lower = lit≤ tt; upper = lit≤ tt })

pub half_finite : {n : ℕ} {x : Float} → Finite (suc n) x → T (ltb n 1024) → Finite n (x ⊗ ½)
half_finite {n} {x} X t =
    let k = below_overflow n t in
    record { bounded = mul_value binary64 _ _ (n + 1074) k (omega arith) (finite_given X).value half_value }
