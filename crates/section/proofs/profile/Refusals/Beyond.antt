-- What is beyond the limit is what number 4 or number 5 turns down, of one number and of a list.
use mathlib.Core.Bool.{Bool, true, false, true≢false, not, ◌||◌, cond}
use mathlib.Core.List.{List, [], ◌∷◌, ◌++◌}
use mathlib.Core.Path.{◌≡◌, refl, sym, ◌∙◌}
use lib.Ieee.{Float, nan, inf, fin, neg, lt, le, eq, of_bits}
use lib.IntN.{pos}
use Rattle.arith.specs.F64.{◌≺◌, ◌≼◌, 𝟘, limit}
use Rattle.arith.specs.Num.{is_finite}
use Rattle.arith.proofs.Laws.Order.{finite_lt_is_not_le}
use Rattle.section.specs.profile.Refusals.{any_below_axis, any_of, axis_tests, not_finite, number_tests, over_limit, refusal}
use Rattle.section.specs.profile.Steps.{NumbersFine, beyond_limit}
use Rattle.section.proofs.profile.Refusals.AnyOf.{none_of_three}

beyond_is : (x : Float) → beyond_limit x ≡ (not_finite x || over_limit x)
unfolding lt le eq neg is_finite of_bits
beyond_is nan = refl
beyond_is (inf true) = refl
beyond_is (inf false) = refl
beyond_is (fin s m e) = go (fin s m e ≺ 𝟘)
  where
    go : (b : Bool) → not (cond b (neg (fin s m e)) (fin s m e) ≼ limit) ≡ (limit ≺ cond b (neg (fin s m e)) (fin s m e))
    go true = sym (finite_lt_is_not_le false (not s) 1 m (pos 20) e)
    go false = sym (finite_lt_is_not_le false s 1 m (pos 20) e)

exchange : (a b c d : Bool) → ((a || b) || (c || d)) ≡ ((a || c) || (b || d))
exchange true b c d = refl
exchange false true true d = refl
exchange false true false d = refl
exchange false false c d = refl

any_beyond : (l : List Float) → any_of beyond_limit l ≡ (any_of not_finite l || any_of over_limit l)
unfolding any_of
any_beyond [] = refl
any_beyond (x ∷ l) =
    rw (beyond_is x, any_beyond l) (exchange (not_finite x) (over_limit x) (any_of not_finite l) (any_of over_limit l))

-- nothing is beyond the limit, or something is and all numbers are finite
pub none_beyond : (l : List Float) → any_of beyond_limit l ≡ false
    → (any_of not_finite l ≡ false) × (any_of over_limit l ≡ false)
none_beyond l e = go (any_of not_finite l) (sym (any_beyond l) ∙ e)
  where
    go : (a : Bool) → (a || any_of over_limit l) ≡ false → (a ≡ false) × (any_of over_limit l ≡ false)
    go true h = absurd (true≢false h)
    go false h = (refl, h)

pub some_over : (l : List Float) → any_of beyond_limit l ≡ true → any_of not_finite l ≡ false → any_of over_limit l ≡ true
some_over l e h = rw (any_beyond l, h) at e

-- nothing is, of a section, a body's numbers and more that are fine, in either order
module _ {s numbers extra : List Float} (fine : NumbersFine s numbers extra) where
  pub none_within : any_of beyond_limit (s ++ (numbers ++ extra)) ≡ false
  none_within = none_of_three beyond_limit s numbers extra fine.section.within fine.numbers_within fine.extra_within

  pub none_within_second : any_of beyond_limit (numbers ++ (s ++ extra)) ≡ false
  none_within_second =
      none_of_three beyond_limit numbers s extra fine.numbers_within fine.section.within fine.extra_within

-- so that neither 4 nor 5 applies; nor does 6 where no radius is below -1e-9
pub none_refused : (given : List Float) → any_of beyond_limit given ≡ false → 0 ≡ refusal (number_tests given)
unfolding refusal
none_refused given e = let none = none_beyond given e in rw (none.0, none.1)

pub none_below : (s : List Float) → any_below_axis s ≡ false → refusal (axis_tests s) ≡ 0
unfolding refusal
none_below s e = rw e
