-- `walk::pieces::waiting::Waiting::push`. Three stores above the first n parts.
use native.Mathlib.Omega.{arith}
use mathlib.Core.Path.{sym}
use lib.ListN.{length-set}
use Rattle.walk.proofs.pieces.Stacked.{room, stacked_push}
use Rattle.walk.proofs.pieces.waiting.Waiting.push.Goals as goal

pub bounds-self-inside-at : goal.bounds-self-inside-at
bounds-self-inside-at c = let h = room _ _ _ (sym c.self.view_is) c.requires in omega arith

pub bounds-self-inside-at-2 : goal.bounds-self-inside-at-2
bounds-self-inside-at-2 c = let h = room _ _ _ (sym c.self.view_is) c.requires in omega arith

pub bounds-self-inside-at-3 : goal.bounds-self-inside-at-3
bounds-self-inside-at-3 c = room _ _ _ (sym c.self.view_is) c.requires

pub invariant_of-self : goal.invariant_of-self
invariant_of-self c =
    let h = room _ _ _ (sym c.self.view_is) c.requires in
    (omega arith, simp length-set c.self.invariant.1, simp length-set c.self.invariant.2)

pub returns : goal.returns
returns c =
    let h = room _ _ _ (sym c.self.view_is) c.requires in
    rw (← c.self.view_is) (stacked_push _ _ _ c.args.p (omega (arith, c.self.invariant.1)) (omega (arith, c.self.invariant.2)))
