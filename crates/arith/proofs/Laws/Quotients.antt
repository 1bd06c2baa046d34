-- Quotients by what a test keeps away from 0, and the part of a segment from 0 to 1, by the keys of 01's constants.
use Rattle.std.proofs.Common.{ℕ, ◌+◌, ◌-◌, ◌^◌, ◌<◌, ◌≤◌, Bool, true, false, cond, not, T, ltb, leb, sym, le_trans, le_of_eq, le_of_lt, arith, lit<, lit≤, leb→le}
use lib.Ieee.{Float, binary64, neg, of_bits}
use Rattle.arith.specs.F64.{◌⊘◌, ◌≺◌, ◌≼◌, 𝟘, 𝟙, e_18, e_24}
use Rattle.arith.specs.Num.{abs}
use Rattle.arith.proofs.roots.Rounding.Key.{key, magnitude, mid, unit}
use Rattle.arith.proofs.roots.Rounding.Sum.{neg_key}
use Rattle.arith.proofs.Laws.Bounded.{between_bounded, Bounded, div_bounded, div_bounded_neg, overflow}
use Rattle.arith.proofs.Laws.SizedOrder.{below_key, not_below_key, not_le_key}
use Rattle.arith.proofs.Laws.Sizes.{Finite, K, M, abs_finite, below_overflow, e_18_finite, e_24_finite, finite_number_lem}
use Rattle.arith.proofs.Laws.Sizes.{one_finite, zero_finite, zero_key}

-- at least 2 ^ -k in magnitude
pub data AwayFrom0 (k : ℕ) (y : Float) : Type 0 where
  above : M + 2 ^ (1074 - k) ≤ K y → AwayFrom0 k y
  below : K y + 2 ^ (1074 - k) ≤ M → AwayFrom0 k y

pub div_finite : {i k m : ℕ} {x y : Float} → Finite i x → Finite m y → AwayFrom0 k y
    → T (leb k 1074) → T (ltb (i + k) 1024) → Finite (i + k) (x ⊘ y)
div_finite {i} {k} {m} {x} {y} X Y A l t = record { bounded = go A }
  where
    r : i + k + 1074 < overflow binary64
    r = below_overflow (i + k) t

    go : AwayFrom0 k y → Bounded binary64 (i + k + 1074) (x ⊘ y)
    go (above h) =
        div_bounded binary64 _ r (i + 1074) (1074 - k) x y X.bounded Y.bounded.sure h
        (omega (arith, leb→le k 1074 l))
    go (below h) =
        div_bounded_neg binary64 _ r (i + 1074) (1074 - k) x y X.bounded Y.bounded.sure h
        (omega (arith, leb→le k 1074 l))

e_18_key : M + 2 ^ 1014 ≤ K e_18
unfolding mid key magnitude unit of_bits
e_18_key = lit≤ tt

e_24_key : M + 2 ^ 994 ≤ K e_24
unfolding mid key magnitude unit of_bits
e_24_key = lit≤ tt

abs_away : (k : ℕ) (c : Float) {n : ℕ} {y : Float} → M + 2 ^ (1074 - k) ≤ K c → Finite n y
    → K c < K (abs y) → AwayFrom0 k y
abs_away k c {n} {y} C Y = go (y ≺ 𝟘)
  where
    go : (b : Bool) → K c < K (cond b (neg y) y) → AwayFrom0 k y
    go true h = below (omega (arith, neg_key binary64 y (finite_number_lem Y)))
    go false h = above (omega arith)

module _ {n : ℕ} {y : Float} (Y : Finite n y) where
  -- over 1e-24
  pub over_e_24 : T (not (y ≼ e_24)) → AwayFrom0 80 y
  over_e_24 h = above (le_trans e_24_key (le_of_lt (not_le_key Y e_24_finite h)))

  -- over 1e-18 in magnitude, by either test
  pub abs_over_e_18 : T (e_18 ≺ abs y) → AwayFrom0 60 y
  abs_over_e_18 h = abs_away 60 e_18 e_18_key Y (below_key e_18_finite (abs_finite Y) h)

  pub abs_not_e_18 : T (not (abs y ≼ e_18)) → AwayFrom0 60 y
  abs_not_e_18 h = abs_away 60 e_18 e_18_key Y (not_le_key (abs_finite Y) e_18_finite h)

-- ---- from 0 to 1, ends included
pub record InUnit (t : Float) : Type 0 where
  pub most : Finite 0 t
  pub least : M ≤ K t

pub zero_in_unit : InUnit 𝟘
zero_in_unit = record { most = zero_finite 0; least = le_of_eq (sym zero_key) }

pub one_in_unit : InUnit 𝟙
unfolding mid key magnitude unit of_bits
one_in_unit = record { most = one_finite; least = lit≤ tt }

module _ {n : ℕ} {t : Float} (X : Finite n t) where
  pub between : {a b : Float} → InUnit a → InUnit b
      → K a ≤ K t → K t ≤ K b → InUnit t
  between {a} {b} A C h k =
      let p = finite_number_lem X in
      let w = between_bounded binary64 1074 a t b p (lit< tt) A.most.bounded C.most.bounded h k in
      record { most = record { bounded = w }; least = le_trans A.least h }

  -- not below 0 and not over 1
  pub inside : T (not (t ≺ 𝟘)) → T (not (𝟙 ≺ t)) → InUnit t
  inside h k =
      between zero_in_unit one_in_unit (not_below_key X (zero_finite 0) h) (not_below_key one_finite X k)
