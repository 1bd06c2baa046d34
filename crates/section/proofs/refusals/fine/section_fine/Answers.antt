-- `section::refusals::fine::section_fine` meets its contract: the vertices tried so far are fine.
use native.Mathlib.Omega.{arith}
use mathlib.Core.Path.{refl, sym}
use borrow.Author.Rules.{rules}
use Rattle.arith.proofs.Laws.OrderHeld.{true→T}
use Rattle.section.specs.profile.Refusals.{any_below_axis}
use Rattle.section.specs.profile.Vertices.{any}
use Rattle.section.proofs.profile.Fold.{any_end, any_more}
use Rattle.section.proofs.profile.Refusals.AnyOf.{any_of_pairs_end, any_of_two}
use Rattle.section.proofs.refusals.fine.section_fine.Goals as goal

pub returns-then-s-eq1 : goal.returns-then-s-eq1
returns-then-s-eq1 c = λ t. absurd (true→T t)

pub loop-k-init : goal.loop-k-init
unfolding any
loop-k-init c = (refl, refl)

pub loop-k-preserved : goal.loop-k-preserved
loop-k-preserved c =
    let fine = c.vertex_fine.ensures c.if-not-vertex_fine.false in
    let inv = c.loop-k.invariant in (
      any_of_two _ _ _ inv.0 (search rules) fine.z_within fine.r_within,
      any_more _ _ inv.1 refl fine.over,
    )

pub returns-then-not-vertex_fine : goal.returns-then-not-vertex_fine
returns-then-not-vertex_fine c = λ t. absurd (true→T t)

pub returns : goal.returns
unfolding any_below_axis
returns c = λ t. record {
  within = any_of_pairs_end _ _ _ c.loop-k.invariant.0 c.if-s-eq1.false c.loop-k-test.false;
  over = sym (any_end _ _ c.loop-k.invariant.1 _ (omega arith));
}
