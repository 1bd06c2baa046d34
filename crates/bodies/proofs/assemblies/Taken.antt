-- What an assembly that is not turned down was given: nothing of any of its bodies is turned down beside the section and the
-- clearance. By the laws of tests in order: what passes before the bodies and in the body alone passes in the body's own call.
use Prim.Native.Nat.{ℕ, zero, suc, ◌≤◌}
use mathlib.Core.List.{List, [], ◌∷◌, ◌++◌, flat_map}
use mathlib.Core.Path.{◌≡◌, refl, sym, ◌∙◌}
use native.Mathlib.Omega.{arith}
use lib.Dec.{T, nltb→le}
use borrow.Author.Tests.{ne_eqb}
use lib.Ieee.{Float}
use lib.ListN.{take}
use Rattle.section.specs.profile.Refusals.{Test, refusal, axis_tests}
use Rattle.section.specs.profile.Steps.{numbered, or_else}
use Rattle.section.proofs.profile.Each.{All, nil, cons, all_map, all_first, all_rest, all_append}
use Rattle.section.proofs.profile.Refusals.Ordered.{Passes, refusal_append}
use Rattle.section.proofs.profile.Refusals.Passed.{Taken, taken, passed}
use Rattle.bodies.specs.Bodies.{alone_tests, body_tests, body_numbers, body_own}
use Rattle.bodies.specs.declared.shapes.Body.{Body}
use Rattle.bodies.proofs.Alone.{own_numbered, alone_taken}
use Rattle.bodies.specs.assemblies.Assemblies.{before_bodies, count_tests, hit_tests}

-- two numbers in turn are 0
none_then_none : (n m : ℕ) → or_else n m ≡ 0 → (n ≡ 0) × (m ≡ 0)
none_then_none zero m e = (refl, e)
none_then_none (suc n) m e = let c : suc n ≡ 0 = rw (ne_eqb (suc n) 0 (λ z. omega arith)) at e in absurd (omega (arith, c))

in_turn : (a b : List Test) → T (numbered a) → refusal (a ++ b) ≡ 0 → (refusal a ≡ 0) × (refusal b ≡ 0)
in_turn a b h e = none_then_none _ _ (sym (refusal_append a b h) ∙ e)

each_alone : (l : List Body) → refusal (flat_map alone_tests l) ≡ 0 → All (λ (b : Body). refusal (alone_tests b) ≡ 0) l
unfolding flat_map
each_alone [] e = nil
each_alone (b ∷ l) e =
    let p = in_turn (alone_tests b) (flat_map alone_tests l) (own_numbered b) e in
    cons p.0 (each_alone l p.1)

module _ (s : List Float) (count : ℕ) (clearance : Float) where
  before_taken : refusal (before_bodies s count clearance) ≡ 0
      → Taken 3 256 (s ∷ []) (s ++ (clearance ∷ [])) (axis_tests s ++ count_tests count)
  before_taken = taken 3 256 (s ∷ []) (s ++ (clearance ∷ [])) (axis_tests s ++ count_tests count) tt

  pub count_taken : refusal (before_bodies s count clearance) ≡ 0 → count ≤ 64
  count_taken e = go (before_taken e).rest_passes
    where
      go : All Passes (axis_tests s ++ count_tests count) → count ≤ 64
      go (cons a (cons c nil)) = nltb→le 64 count c

  -- beside the section and the clearance
  beside : refusal (before_bodies s count clearance) ≡ 0 → (b : Body) → refusal (alone_tests b) ≡ 0
      → refusal (body_tests s b (clearance ∷ []) []) ≡ 0
  beside e b f =
      let t = before_taken e in
      let a = alone_taken b f in
      passed 3 256 (s ∷ []) (s ++ (body_numbers b ++ (clearance ∷ []))) (axis_tests s ++ body_own b)
      (record {
        shapes = t.shapes;
        numbers = all_append (all_first s (clearance ∷ []) t.numbers)
            (all_append a.numbers (all_rest s (clearance ∷ []) t.numbers));
        rest_passes = all_append (all_first (axis_tests s) (count_tests count) t.rest_passes) a.rest_passes;
      })

  pub each_taken : (bodies : List Body) → refusal (hit_tests s bodies count clearance) ≡ 0
      → All (λ (b : Body). refusal (body_tests s b (clearance ∷ []) []) ≡ 0) (take count bodies)
  each_taken bodies e =
      let p = in_turn (before_bodies s count clearance) (flat_map alone_tests (take count bodies)) tt e in
      all_map (beside p.0) (each_alone (take count bodies) p.1)
