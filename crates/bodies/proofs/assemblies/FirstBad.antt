-- The first bad body in the list gives its number, whether or not one before it collides, and whatever stands behind it. By the
-- laws of tests in order, over the bodies before it.
use Prim.Native.Nat.{ℕ}
use mathlib.Core.List.{List, ◌∷◌, ◌++◌, flat_map}
use mathlib.Core.Path.{◌≡◌, refl, ap, sym, ◌∙◌}
use lib.Ieee.{Float}
use lib.ListN.{take}
use Rattle.section.specs.profile.Refusals.{refusal}
use Rattle.section.specs.profile.Replies.{turned_down}
use Rattle.section.proofs.profile.Each.{All, nil, cons}
use Rattle.section.proofs.profile.Refusals.Ordered.{by_first, by_rest, or_else_none}
use Rattle.bodies.specs.Bodies.{alone_tests}
use Rattle.bodies.specs.declared.shapes.Body.{Body}
use Rattle.bodies.specs.assemblies.Assemblies.{before_bodies, any_hit}
use Rattle.bodies.proofs.Alone.{own_numbered}
use Rattle.bodies.proofs.assemblies.Answer.{by_body}

module _ (b : Body) (behind : List Body) {n : ℕ} (e : n ≡ refusal (alone_tests b)) (k : n ≡ 0 → ⊥) where
  first_number : {good : List Body} → All (λ (g : Body). refusal (alone_tests g) ≡ 0) good
      → n ≡ refusal (flat_map alone_tests (good ++ (b ∷ behind)))
  unfolding flat_map
  first_number nil = by_first (alone_tests b) (flat_map alone_tests behind) (own_numbered b) 0 e k ∙ or_else_none _
  first_number (cons {x} {xs} p h) =
      by_rest (alone_tests x) (flat_map alone_tests (xs ++ (b ∷ behind))) (own_numbered x) (sym p) refl (first_number h)

  pub first_bad : (s : List Float) (bodies : List Body) (count : ℕ) (clearance : Float)
      → refusal (before_bodies s count clearance) ≡ 0 → {good : List Body} → take count bodies ≡ good ++ (b ∷ behind)
      → All (λ (g : Body). refusal (alone_tests g) ≡ 0) good → turned_down n ≡ any_hit s bodies count clearance
  first_bad s bodies count clearance z split h =
      by_body s bodies count clearance (sym z) refl
      (first_number h ∙ ap (λ (l : List Body). refusal (flat_map alone_tests l)) (sym split)) k
