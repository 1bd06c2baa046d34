-- `bodies::assemblies::judging::any_hit` meets its contract.
use Prim.Native.Nat.{◌≤◌}
use mathlib.Core.Path.{refl, sym, ◌∙◌}
use borrow.Author.Rules.{rules}
use lib.ListN.{length}
use lib.Seq.{length-take-le}
use Rattle.section.proofs.profile.Numbered.{above_zero, handed_on}
use Rattle.bodies.proofs.assemblies.Answer.{by_before, by_body, by_verdicts}
use Rattle.bodies.proofs.assemblies.Taken.{count_taken}
use Rattle.bodies.proofs.assemblies.judging.any_hit.Goals as goal

pub returns-in_err-before_bodies : goal.returns-in_err-before_bodies
returns-in_err-before_bodies c =
    rw (handed_on c.from_residual.result c.from_residual.ensures)
    (by_before _ _ _ _ c.in_err-before_bodies.ensures (above_zero _))

pub slice_bounds-bodies-end : goal.slice_bounds-bodies-end
slice_bounds-bodies-end c = let few = count_taken _ _ _ (sym c.in_ok-before_bodies.ensures) in search rules

pub slice_bounds-given-end : goal.slice_bounds-given-end
slice_bounds-given-end c =
    let few = count_taken _ _ _ (sym c.in_ok-before_bodies.ensures) in
    let inside : c.args.count ≤ length c.args.bodies = search rules in
    sym (length-take-le c.args.count c.args.bodies inside)

pub returns-in_err-bodies_refusal : goal.returns-in_err-bodies_refusal
returns-in_err-bodies_refusal c =
    let r = c.from_residual-in_err-bodies_refusal in
    rw (handed_on r.result r.ensures)
    (by_body _ _ _ _ c.in_ok-before_bodies.ensures refl c.in_err-bodies_refusal.ensures (above_zero _))

pub returns : goal.returns
returns c =
    by_verdicts _ _ _ _ c.in_ok-before_bodies.ensures refl c.in_ok-bodies_refusal.ensures refl
    (c.from.ensures ∙ c.any_collision.ensures)
