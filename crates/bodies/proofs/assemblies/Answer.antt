-- The answer of an assembly, at each place where the call ends: a number before the bodies, a body's number, a verdict. By the
-- laws of tests in order, and by the bodies' own verdicts.
use Prim.Native.Nat.{ℕ}
use mathlib.Core.Bool.{Bool}
use mathlib.Core.List.{List, flat_map}
use mathlib.Core.Path.{◌≡◌, ap, sym, ◌∙◌}
use lib.Ieee.{Float}
use lib.ListN.{take}
use Rattle.section.specs.profile.Refusals.{Test, refusal, any_of}
use Rattle.section.specs.profile.Replies.{value, turned_down, reply}
use Rattle.section.proofs.profile.Replies.{refused}
use Rattle.section.proofs.profile.Refusals.Ordered.{by_first, by_rest, or_else_none}
use Rattle.bodies.specs.Bodies.{alone_tests}
use Rattle.bodies.specs.declared.shapes.Body.{Body}
use Rattle.bodies.specs.assemblies.Assemblies.{before_bodies, hit_tests, hits, any_hit}
use Rattle.bodies.specs.assemblies.Steps.{own_collision}
use Rattle.bodies.proofs.assemblies.Single.{by_own_verdicts}

module _ (s : List Float) (bodies : List Body) (count : ℕ) (clearance : Float) {n : ℕ}
    (e : n ≡ refusal (before_bodies s count clearance)) where
  abbrev own : List Test
  own = flat_map alone_tests (take count bodies)

  -- n is the answer's number
  ended : {m : ℕ} → m ≡ refusal (hit_tests s bodies count clearance) → (m ≡ 0 → ⊥)
      → turned_down m ≡ any_hit s bodies count clearance
  unfolding any_hit
  ended {m} f k = refused m _ k ∙ ap (λ (i : ℕ). reply i (any_of (hits s clearance) (take count bodies))) f

  pub by_before : (n ≡ 0 → ⊥) → turned_down n ≡ any_hit s bodies count clearance
  by_before k = ended (by_first (before_bodies s count clearance) own tt 0 e k ∙ or_else_none _) k

  module _ (z : n ≡ 0) {m : ℕ} (f : m ≡ refusal own) where
    pub by_body : (m ≡ 0 → ⊥) → turned_down m ≡ any_hit s bodies count clearance
    by_body k = ended (by_rest (before_bodies s count clearance) own tt e z f) k

    pub by_verdicts : m ≡ 0 → {b : Bool} → b ≡ any_of (own_collision s clearance) (take count bodies)
        → value b ≡ any_hit s bodies count clearance
    unfolding any_hit
    by_verdicts y {b} g =
        let none = sym (by_rest (before_bodies s count clearance) own tt e z f) ∙ y in
        ap value (g ∙ by_own_verdicts s bodies count clearance none)
        ∙ ap (λ (i : ℕ). reply i (any_of (hits s clearance) (take count bodies))) (sym none)
