-- The heights yc - ρ and yc + ρ at a half width ρ: both are NaN or neither is, and they do not lie on wrong sides of 0. By cases,
-- and by keys where ρ is finite.
use Prim.Native.Nat.{◌+◌}
use mathlib.Core.Bool.{Bool, false, not, true, true≢false}
use mathlib.Core.Path.{ap, refl, subst, ◌∙◌, ◌≡◌}
use native.Mathlib.Omega.{arith}
use lib.Dec.{T}
use lib.Ieee.{add, binary64, fin, fits, Float, inf, is_nan, nan, neg, sub}
use lib.Ieee.Fits.{and_i, and_r}
use Rattle.arith.specs.F64.{◌⊕◌, ◌⊖◌, 𝟘}
use Rattle.arith.proofs.roots.Rounding.Key.{finite_of, finite_number, key, key_is, magnitude, mid, negative, number, side}
use Rattle.arith.proofs.roots.Rounding.KeyOrder.{lt→key}
use Rattle.arith.proofs.roots.Rounding.Sum.{add_number, sub_number}
use Rattle.arith.proofs.Laws.Exact.{add_ge, sub_le}
use Rattle.arith.proofs.Laws.OrderHeld.{not_less_minus_inf, not_less_nan}
use Rattle.arith.proofs.Laws.Sizes.{zero_number}
use Rattle.symmetry.proofs.Cylinder.Spans.{Heights, nans, numbers, Ordered}
use Rattle.symmetry.proofs.Walks.{Width}

not_nan : (x : Float) → T (number binary64 x) → T (not (is_nan x))
not_nan x h = and_r (fits binary64 x) (not (is_nan x)) h

known : (y ρ : Float) → T (finite_number binary64 y) → T (fits binary64 ρ) → Heights (y ⊖ ρ) (y ⊕ ρ)
known nan ρ p h = absurd (finite_of binary64 nan p)
known (inf s) ρ p h = absurd (finite_of binary64 (inf s) p)
known (fin s m e) nan p h = unfold sub add neg in nans refl refl
known (fin s m e) (inf t) p h = unfold sub add neg is_nan in numbers tt tt
known (fin s m e) (fin t n d) p h =
    let q : T (finite_number binary64 (fin t n d)) = and_i (fits binary64 (fin t n d)) true h tt in
    numbers (not_nan _ (sub_number binary64 (fin s m e) (fin t n d) p q))
    (not_nan _ (add_number binary64 (fin s m e) (fin t n d) p q))

by_keys : (y ρ : Float) → T (finite_number binary64 y) → T (finite_number binary64 ρ) → negative ρ ≡ false
    → Ordered (y ⊖ ρ) (y ⊕ ρ)
by_keys y ρ p q n h k =
    let e : key binary64 ρ ≡ mid binary64 + magnitude binary64 ρ = key_is binary64 ρ
    ∙ ap (λ (b : Bool). side (mid binary64) b (magnitude binary64 ρ)) n in
    omega (
      arith,
      lt→key binary64 𝟘 (y ⊖ ρ) zero_number (sub_number binary64 y ρ p q) h,
      lt→key binary64 (y ⊕ ρ) 𝟘 (add_number binary64 y ρ p q) zero_number k,
      sub_le binary64 y ρ p q (omega arith),
      add_ge binary64 y ρ p q (omega arith),
    )

in_order_lem : (y ρ : Float) → T (finite_number binary64 y) → T (fits binary64 ρ) → negative ρ ≡ false → Ordered (y ⊖ ρ) (y ⊕ ρ)
in_order_lem nan ρ p h n = absurd (finite_of binary64 nan p)
in_order_lem (inf s) ρ p h n = absurd (finite_of binary64 (inf s) p)
in_order_lem (fin s m e) nan p h n = λ u v. subst T (not_less_nan 𝟘) (unfold sub add neg in u)
in_order_lem (fin s m e) (inf true) p h n = absurd (true≢false n)
in_order_lem (fin s m e) (inf false) p h n = λ u v. subst T (not_less_minus_inf 𝟘) (unfold sub add neg in u)
in_order_lem (fin s m e) (fin t k d) p h n = by_keys (fin s m e) (fin t k d) p (and_i (fits binary64 (fin t k d)) true h tt) n

module _ (y ρ : Float) (p : T (finite_number binary64 y)) (w : Width ρ) where
  pub heights : Heights (y ⊖ ρ) (y ⊕ ρ)
  heights = known y ρ p w.held

  pub ordered_heights : Ordered (y ⊖ ρ) (y ⊕ ρ)
  ordered_heights = in_order_lem y ρ p w.held w.plus
