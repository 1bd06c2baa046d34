-- What a query does not turn down is within the limits: its numbers are at most 2 ^ 20, and each list has a vertex.
use mathlib.Core.Bool.{Bool, true, false, not}
use mathlib.Core.List.{List, [], ◌∷◌, ◌++◌}
use mathlib.Core.Path.{◌≡◌}
use native.Mathlib.Omega.{arith}
use lib.Dec.{T, nltb→le}
use lib.Ieee.{Float, nan}
use Rattle.arith.specs.Num.{is_finite}
use Rattle.section.specs.profile.Refusals.{Test, refusal, axis_tests, beside_tests}
use Rattle.section.specs.profile.Vertices.{count}
use Rattle.section.proofs.profile.Each.{All, all_at, all_first, all_map, all_rest, cons, nil}
use Rattle.section.specs.profile.Steps.{numbered}
use Rattle.section.proofs.profile.Refusals.Ordered.{Passes}
use Rattle.section.proofs.profile.Refusals.Passed.{NumberTaken, ShapeTaken, Taken, taken}
use Rattle.section.specs.Demand.{AtMost}
use Rattle.section.proofs.Demand.Hits.{VerticesAtMost}
use Rattle.section.proofs.Demand.AtMost.{limit_at_most, at_most_raise}

pub taken_at_most : (x : Float) → NumberTaken x → AtMost 20 x
taken_at_most x X = limit_at_most x (not_not (is_finite x) X.finite) X.small
  where
    not_not : (b : Bool) → T (not (not b)) → T b
    not_not true h = tt
    not_not false h = h

pub taken_vertices : {s : List Float} → ShapeTaken 3 256 s → All NumberTaken s → VerticesAtMost 23 s
taken_vertices {s} h A =
    let l = nltb→le (count s) 3 h.long in
    record {
      some = omega arith;
      few = nltb→le 256 (count s) h.short;
      each = λ k w. at_most_raise (taken_at_most _ (all_at A nan k w)) tt;
    }

-- of one section beside a body with these numbers, whatever else is given
pub record SectionTaken (s numbers : List Float) (own : List Test) : Type 0 where
  pub section : VerticesAtMost 23 s
  pub body : All (AtMost 20) numbers
  pub own_passes : All Passes own

pub section_taken : (s numbers extra : List Float) (settings own : List Test) → T (numbered (settings ++ (axis_tests s ++ own)))
    → refusal (beside_tests s numbers extra settings own) ≡ 0 → SectionTaken s numbers own
section_taken s numbers extra settings own h e = go t.shapes (all_rest settings (axis_tests s ++ own) t.rest_passes)
  where
    t : Taken 3 256 (s ∷ []) (s ++ (numbers ++ extra)) (settings ++ (axis_tests s ++ own))
    t = taken 3 256 (s ∷ []) (s ++ (numbers ++ extra)) (settings ++ (axis_tests s ++ own)) h e

    go : All (ShapeTaken 3 256) (s ∷ []) → All Passes (axis_tests s ++ own) → SectionTaken s numbers own
    go (cons k nil) (cons below rest) =
        record {
          section = taken_vertices k (all_first s (numbers ++ extra) t.numbers);
          body = all_map taken_at_most (all_first numbers extra (all_rest s (numbers ++ extra) t.numbers));
          own_passes = rest;
        }
