-- `section::aabb::aabb::runs_through` meets its contract: above a gap no edge is clipped.
use mathlib.Core.Bool.{true}
use mathlib.Core.Path.{◌≡◌, subst, sym}
use lib.Ieee.{Float}
use Rattle.arith.specs.F64.{◌≺◌, 𝟘}
use Rattle.section.proofs.boxes.Unread.{apart}
use Rattle.section.proofs.aabb.aabb.runs_through.Goals as goal

pub returns-then-gap : goal.returns-then-gap
returns-then-gap c = sym (apart _ _ (subst (λ (g : Float). (𝟘 ≺ g) ≡ true) c.requires c.if-gap.true))
