-- `walk::cylinders::refusal::cylinder_refusal` meets its contract: the numbers of its own parameter are f64.
use mathlib.Core.Path.{◌∙◌}
use Rattle.section.specs.profile.Refusals.{given_tests, axis_tests}
use Rattle.section.proofs.profile.Refusals.Ordered.{own_after}
use Rattle.walk.proofs.cylinders.Given.{f64s}
use Rattle.walk.proofs.cylinders.refusal.cylinder_refusal.Goals as goal

pub returns : goal.returns
returns g c =
    let k = c.well_formed.1.0.1.1 in
    let a = k.0.1.1 in
    let b = k.1.0.1.1 in
    record {
      number = λ ts h e.
          rw (← c.requires)
          (own_after (given_tests _ _) ts (axis_tests _) _ tt h tt c.body_refusal.ensures e (c.of-own.ensures ∙ c.own_refusal.ensures));
      f64s = f64s _ a.0.1 a.1.0.1 a.1.1.0.1 b.0.1 b.1.0.1 b.1.1.0.1 k.1.1.0.1;
    }
