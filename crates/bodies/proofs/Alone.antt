-- A body alone: the tests of its numbers, then its own; what it was given where it passes them. By the law of one list of
-- tests after the other.
use Prim.Native.Nat.{ℕ}
use mathlib.Core.List.{List, [], ◌++◌}
use mathlib.Core.Path.{◌≡◌}
use lib.Dec.{T}
use Rattle.section.specs.profile.Refusals.{Test, refusal, any_of}
use Rattle.section.specs.profile.Steps.{numbered, or_else}
use Rattle.section.proofs.profile.Refusals.Ordered.{refusal_append}
use Rattle.section.proofs.profile.Refusals.Passed.{Taken, taken}
use Rattle.bodies.specs.Bodies.{alone_tests, body_numbers, body_own}
use Rattle.bodies.specs.declared.shapes.Body.{Body}
use Rattle.bodies.specs.declared.shapes.Body.TheVariants.{Sphere, Box, Cylinder}

pub then_own : (a b : List Test) → T (numbered a) → {r own : ℕ} → r ≡ or_else (refusal a) own → own ≡ refusal b
    → r ≡ refusal (a ++ b)
then_own a b h e f = rw (e, f, refusal_append a b h)

pub own_numbered : (b : Body) → T (numbered (body_own b))
own_numbered (Sphere b) = tt
own_numbered (Box x) = tt
own_numbered (Cylinder c) = tt

pub alone_numbered : (b : Body) → T (numbered (alone_tests b))
alone_numbered b = own_numbered b

-- a body alone that passes: its numbers, and its own tests
pub alone_taken : (b : Body) → refusal (alone_tests b) ≡ 0 → Taken 3 256 [] (body_numbers b) (body_own b)
unfolding refusal any_of
alone_taken b e = taken 3 256 [] (body_numbers b) (body_own b) (own_numbered b) e
