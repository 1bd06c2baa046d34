-- Sums whose first operand may be infinite, negation of numbers, x - x, and +infinity beside a finite value: by cases, and by keys
-- where both are finite.
use Rattle.std.proofs.Common.{◌≡◌, ℕ, ◌≤◌, Bool, false, not, T, ℤ, sym, refl, ◌∙◌, le_refl, add-zero, arith, pow_pos}
use lib.Ieee.{Float, nan, inf, fin, Format, fits, is_nan, add, eq, le, lt, sub, neg, prec}
use lib.Ieee.Fits.{and_i, add-fits, neg-fits}
use lib.Ieee.Scale.{finite}
use Rattle.arith.specs.Num.{is_finite}
use Rattle.arith.proofs.roots.Rounding.Key.{key, mid, number, finite_number, finite_of}
use Rattle.arith.proofs.roots.Rounding.Sum.{add_number, sub_key}
use Rattle.arith.proofs.Laws.Exact.{add_ge, round_key_fix}
use Rattle.arith.proofs.Laws.OrderHeld.{held_number, number_held}

module _ (f : Format) where
  finite_number_lem : (x : Float) → T (number f x) → T (finite x) → T (finite_number f x)
  finite_number_lem x p q = and_i (fits f x) (finite x) (number_held f x p) q

  -- ---- x + c for a finite c: a number, and for c ≥ 0 no less than x
  pub sum_number : (x c : Float) → T (number f x) → T (finite_number f c) → T (number f (add f x c))
  sum_number nan c p q = absurd (unfold fits is_nan in p)
  sum_number (inf s) nan p q = absurd (finite_of f nan q)
  sum_number (inf s) (inf t) p q = absurd (finite_of f (inf t) q)
  sum_number (inf s) (fin t n d) p q =
      held_number f (add f (inf s) (fin t n d)) (add-fits f (inf s) (fin t n d)) (unfold add is_nan in tt)
  sum_number (fin s m e) c p q = add_number f (fin s m e) c (finite_number_lem (fin s m e) p tt) q

  pub sum_ge : (x c : Float) → T (number f x) → T (finite_number f c) → mid f ≤ key f c → key f x ≤ key f (add f x c)
  sum_ge nan c p q h = absurd (unfold fits is_nan in p)
  sum_ge (inf s) nan p q h = absurd (finite_of f nan q)
  sum_ge (inf s) (inf t) p q h = absurd (finite_of f (inf t) q)
  sum_ge (inf s) (fin t n d) p q h = unfold add in le_refl (key f (inf s))
  sum_ge (fin s m e) c p q h = add_ge f (fin s m e) c (finite_number_lem (fin s m e) p tt) q h

  pub neg_number : (x : Float) → T (number f x) → T (number f (neg x))
  neg_number nan p = absurd (unfold fits is_nan in p)
  neg_number (inf s) p = held_number f (neg (inf s)) (neg-fits f (inf s) (number_held f (inf s) p)) (unfold neg is_nan in tt)
  neg_number (fin s m e) p =
      held_number f (neg (fin s m e)) (neg-fits f (fin s m e) (number_held f (fin s m e) p)) (unfold neg is_nan in tt)

  -- ---- differences
  pub sub_self : (x : Float) → T (finite_number f x) → key f (sub f x x) ≡ mid f
  sub_self x p =
      sub_key f x x p p
      ∙ round_key_fix f false 0 0 (key f x) (key f x) 1 (pow_pos 0) (pow_pos (prec f)) (sym (add-zero (key f x)))
      ∙ omega arith

-- ---- +infinity beside a finite value, whether a format holds that or not
pub finite_case : (P : Float → Type 0) → ((s : Bool) (m : ℕ) (e : ℤ) → P (fin s m e)) → (x : Float) → T (is_finite x) → P x
unfolding is_finite
finite_case P h nan f = absurd f
finite_case P h (inf s) f = absurd f
finite_case P h (fin s m e) f = h s m e

module _ (x : Float) (h : T (is_finite x)) where
  pub finite_not_nan : T (not (is_nan x))
  unfolding is_nan
  finite_not_nan = finite_case (λ (x : Float). T (not (is_nan x))) (λ s m e. tt) x h

  pub below_infinity : T (lt x (inf false))
  unfolding lt
  below_infinity = finite_case (λ (x : Float). T (lt x (inf false))) (λ s m e. tt) x h

  pub infinity_not_le : T (le (inf false) x) → ⊥
  unfolding le lt eq
  infinity_not_le = finite_case (λ (x : Float). T (le (inf false) x) → ⊥) (λ s m e g. g) x h

  pub infinity_plus : (f : Format) → add f (inf false) x ≡ inf false
  unfolding add
  infinity_plus f = finite_case (λ (x : Float). add f (inf false) x ≡ inf false) (λ s m e. refl) x h

  pub infinity_less : (f : Format) → sub f (inf false) x ≡ inf false
  unfolding sub add neg
  infinity_less f = finite_case (λ (x : Float). sub f (inf false) x ≡ inf false) (λ s m e. refl) x h
