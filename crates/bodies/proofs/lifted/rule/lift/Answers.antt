-- `bodies::lifted::rule::lift` meets its contract: the numbers of its own parameters are f64, and so the laws of them hold.
use mathlib.Core.Path.{◌≡◌, sym, subst}
use lib.Ieee.{Float}
use Rattle.arith.specs.declared.vector.Vec3.{Vec3}
use Rattle.section.specs.declared.profile.shapes.Witness.{Witness}
use Rattle.walk.proofs.cylinders.Given.{Fits, is_f64}
use Rattle.bodies.specs.lifted.Placed.{Lifts, Placed}
use Rattle.bodies.specs.lifted.Rule.{lift}
use Rattle.bodies.proofs.lifted.Place.{lift_placed}
use Rattle.bodies.proofs.lifted.rule.lift.Goals as goal

lifts : (x y : Float) (w : Witness) {p : Vec3} → Fits x → Fits y → Fits w.r → p ≡ lift x y w → Lifts x y w p
lifts x y w fx fy fr e =
    record {
      equal = e;
      placed = λ N.
          subst (λ (q : Vec3). Placed x y w q) (sym e) (lift_placed x y w (is_f64 x fx) (is_f64 y fy) (is_f64 w.r fr) N);
    }

pub returns-then-h : goal.returns-then-h
unfolding lift
returns-then-h c =
    let g = c.well_formed in
    lifts _ _ _ g.0.1 g.1.0.1 g.1.1.0.1.1.1.0.1
    (rw (← c.max-radius.ensures, ← c.hypot-h.ensures, c.if-h.true))

pub returns : goal.returns
unfolding lift
returns c =
    let g = c.well_formed in
    lifts _ _ _ g.0.1 g.1.0.1 g.1.1.0.1.1.1.0.1
    (rw (← c.max-radius.ensures, ← c.hypot-h.ensures, c.if-h.false))
