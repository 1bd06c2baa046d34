-- What stands behind the count is not looked at; and of more than 64 bodies none is looked at. By the definition, and by 17.
use Prim.Native.Nat.{ℕ, ◌<◌}
use mathlib.Core.List.{List, ◌++◌, flat_map}
use mathlib.Core.Path.{◌≡◌, refl, ap, sym, ◌∙◌}
use native.Mathlib.Omega.{arith}
use lib.Ieee.{Float}
use lib.ListN.{take}
use Rattle.section.specs.profile.Refusals.{refusal, any_of}
use Rattle.section.specs.profile.Replies.{reply}
use Rattle.bodies.specs.Bodies.{alone_tests}
use Rattle.bodies.specs.declared.shapes.Body.{Body}
use Rattle.bodies.specs.assemblies.Assemblies.{before_bodies, hits, any_hit}
use Rattle.bodies.proofs.assemblies.Taken.{count_taken}
use Rattle.bodies.proofs.assemblies.Answer.{by_before}

module _ (s : List Float) (a b : List Body) (count : ℕ) (clearance : Float) where
  pub behind_unseen : take count a ≡ take count b → any_hit s a count clearance ≡ any_hit s b count clearance
  unfolding any_hit
  behind_unseen =
      ap (λ (l : List Body).
      reply (refusal (before_bodies s count clearance ++ flat_map alone_tests l)) (any_of (hits s clearance) l))

  pub too_many_unseen : 64 < count → any_hit s a count clearance ≡ any_hit s b count clearance
  too_many_unseen h = sym (by_before s a count clearance refl many) ∙ by_before s b count clearance refl many
    where
      many : refusal (before_bodies s count clearance) ≡ 0 → ⊥
      many e = omega (arith, count_taken s count clearance e, h)
