-- What f64's operations make of numbers `AtMost n`: arith's calculus of sizes. 01's limit is 2 ^ 20; a cylinder's boxes reach 2 ^ 23,
-- differences 2 ^ 24, witnesses 2 ^ 25, distances 2 ^ 27. An argument of type T (..) is `tt` for numerals.
use Prim.Native.Nat.{ℕ}
use lib.Dec.{T, ltb}
use lib.Ieee.{Float, binary64}
use Rattle.arith.specs.F64.{◌⊕◌, ◌⊖◌}
use Rattle.arith.specs.roots.Roots.{hypot}
use Rattle.arith.proofs.Laws.Bounded.{one_above}
use Rattle.arith.proofs.Laws.Sizes.{Finite, finite_given, add_given, sub_given, hypot_given}
use Rattle.section.specs.Demand.{AtMost}
use Rattle.section.proofs.Demand.AtMost.{at_most_given, value_at_most}

pub finite_at_most : {n : ℕ} {x : Float} → Finite n x → AtMost n x
finite_at_most {n} X = value_at_most n (finite_given X).value

module _ {i j : ℕ} {x y : Float} (X : AtMost i x) (Y : AtMost j y) where
  pub add_at_most : T (ltb (one_above i j) 1024) → Finite (one_above i j) (x ⊕ y)
  add_at_most = add_given (at_most_given X) (at_most_given Y)

  pub sub_at_most : T (ltb (one_above i j) 1024) → Finite (one_above i j) (x ⊖ y)
  sub_at_most = sub_given (at_most_given X) (at_most_given Y)

  pub hypot_at_most : T (ltb (one_above i j) 1024) → Finite (one_above i j) (hypot binary64 x y)
  hypot_at_most = hypot_given (at_most_given X) (at_most_given Y)
