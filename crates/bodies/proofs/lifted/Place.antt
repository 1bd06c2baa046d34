-- Where a witness is lifted to: each coordinate on the middle's side, and no farther from the axis than the witness's bound.
use Prim.Native.Nat.{◌≤◌, ◌<◌}
use mathlib.Core.Bool.{not}
use mathlib.Core.Path.{refl, sym, subst, ◌∙◌}
use native.Mathlib.Nat.{le_of_eq, le_trans, not-le_of_lt}
use native.Mathlib.Omega.{arith}
use lib.Arith.{lt_of_le-ne}
use lib.Dec.{T, T_not, eqb→eq}
use lib.Ieee.{Float, binary64, eq, fits}
use lib.Ieee.Fits.{eq→eqb}
use Rattle.arith.specs.F64.{◌⊗◌, ◌⊘◌, ◌≺◌, 𝟘}
use Rattle.arith.specs.Num.{max}
use Rattle.arith.specs.roots.Roots.{hypot}
use Rattle.arith.proofs.roots.Rounding.KeyOrder.{eq_key, le→key, lt→key}
use Rattle.arith.proofs.Laws.Leg.{Leg, first_leg, second_leg}
use Rattle.arith.proofs.Laws.SizedOrder.{hypot_not_negative, key_le, max_finite_key, zero_le_key}
use Rattle.arith.proofs.Laws.Sizes.{Finite, K, M, below_overflow, finite_given, finite_number_lem, held_finite, hypot_finite}
use Rattle.arith.proofs.Laws.Sizes.{max_keeps, mul_finite, zero_finite, zero_key, zero_number}
use Rattle.arith.proofs.Laws.Towards.{product_above, product_below, quotient_above, quotient_below, towards_bounded}
use Rattle.section.proofs.profile.Steps.{pick}
use Rattle.section.specs.declared.profile.shapes.Witness.{Witness}
use Rattle.section.proofs.Demand.AtMost.{at_most_given}
use Rattle.section.proofs.Demand.Bounds.{finite_at_most}
use Rattle.bodies.specs.lifted.Placed.{Near, Placed, SameSide}
use Rattle.bodies.specs.lifted.Rule.{lift}

-- ---- one coordinate, h > 0
module _ {radius x h : Float} (R : Finite 25 radius) (r : M ≤ K radius) (X : Finite 20 x) (H : Finite 21 h)
    (above : M < K h) where
  product : Finite 45 (radius ⊗ x)
  product = mul_finite R X tt

  coordinate : Leg binary64 x h → Finite 25 (radius ⊗ x ⊘ h)
  coordinate l =
      record {
        bounded =
            towards_bounded binary64 25 radius x h R.bounded r X.bounded.sure H.bounded.sure above l
            product.bounded.sure (below_overflow 25 tt);
      }

  coordinate_side : Leg binary64 x h → SameSide x (radius ⊗ x ⊘ h)
  coordinate_side l =
      record {
        not_below = λ g.
            zero_le_key (coordinate l)
            (quotient_above binary64 (radius ⊗ x) h product.bounded.sure H.bounded.sure above
            (product_above binary64 radius x R.bounded.sure X.bounded.sure r
            (le_trans (le_of_eq (sym zero_key)) (le→key binary64 𝟘 x zero_number (finite_number_lem X) g))));
        not_above = λ g.
            key_le (coordinate l) (zero_finite 0)
            (le_trans (quotient_below binary64 (radius ⊗ x) h product.bounded.sure H.bounded.sure above
            (product_below binary64 radius x R.bounded.sure X.bounded.sure r
            (le_trans (le→key binary64 x 𝟘 (finite_number_lem X) zero_number g) (le_of_eq zero_key)))) (le_of_eq (sym zero_key)));
      }

-- ---- the whole, of numbers that f64 holds
module _ (x y : Float) (w : Witness) (fx : T (fits binary64 x)) (fy : T (fits binary64 y)) (fr : T (fits binary64 w.r))
    (N : Near x y w) where
  X : Finite 20 x
  X = held_finite (at_most_given N.middle_x) fx

  Y : Finite 20 y
  Y = held_finite (at_most_given N.middle_y) fy

  given : Finite 25 w.r
  given = held_finite (at_most_given N.witness_r) fr

  radius : Finite 25 (max w.r 𝟘)
  radius = max_keeps (Finite 25) given (zero_finite 25)

  radius_not_below : M ≤ K (max w.r 𝟘)
  radius_not_below = rw (max_finite_key given (zero_finite 0), zero_key) (omega arith)

  H : Finite 21 (hypot binary64 x y)
  H = hypot_finite X Y tt

  off_axis_lem : T (not (eq (hypot binary64 x y) 𝟘)) → M < K (hypot binary64 x y)
  off_axis_lem n =
      lt_of_le-ne (hypot_not_negative (finite_given X) (finite_given Y))
      (λ e. T_not (eq (hypot binary64 x y) 𝟘) n
      (subst T (sym (eq_key binary64 (hypot binary64 x y) 𝟘 (finite_number_lem H) zero_number)) (eq→eqb (sym e ∙ sym zero_key))))

  on_axis : T (eq (hypot binary64 x y) 𝟘) → T (𝟘 ≺ hypot binary64 x y) → ⊥
  on_axis e l =
      let k = eqb→eq _ _ (subst T (eq_key binary64 (hypot binary64 x y) 𝟘 (finite_number_lem H) zero_number) e) in
      not-le_of_lt (lt→key binary64 𝟘 (hypot binary64 x y) zero_number (finite_number_lem H) l) (le_of_eq k)

  pub lift_placed : Placed x y w (lift x y w)
  unfolding lift
  lift_placed =
      pick (Placed x y w) (eq (hypot binary64 x y) 𝟘)
      (λ e. record {
        x_most = finite_at_most radius;
        y_most = finite_at_most (zero_finite 25);
        z_most = N.witness_z;
        same_z = refl;
        x_side = λ l. absurd (on_axis e l);
        y_side = λ l. absurd (on_axis e l);
        on_axis = λ i. refl;
      })
      (λ n. let above = off_axis_lem n in
      let a = first_leg binary64 x y (finite_number_lem X) (finite_number_lem Y) in
      let b = second_leg binary64 x y (finite_number_lem X) (finite_number_lem Y) in
      record {
        x_most = finite_at_most (coordinate radius radius_not_below X H above a);
        y_most = finite_at_most (coordinate radius radius_not_below Y H above b);
        z_most = N.witness_z;
        same_z = refl;
        x_side = λ l. coordinate_side radius radius_not_below X H above a;
        y_side = λ l. coordinate_side radius radius_not_below Y H above b;
        on_axis = λ e. absurd (T_not (eq (hypot binary64 x y) 𝟘) n e);
      })
