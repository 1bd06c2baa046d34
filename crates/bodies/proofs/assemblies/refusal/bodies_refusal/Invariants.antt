-- `bodies::assemblies::refusal::bodies_refusal` meets its contract: what is not yet checked decides for all.
use mathlib.Core.List.{flat_map}
use mathlib.Core.Path.{◌≡◌}
use lib.ListN.{drop}
use Rattle.section.specs.profile.Refusals.{refusal}
use Rattle.bodies.specs.Bodies.{alone_tests}
use Rattle.bodies.proofs.assemblies.refusal.bodies_refusal.Given as goal

abbrev pub invariant-loop-body : goal.invariant-loop-body
invariant-loop-body l =
    refusal (flat_map alone_tests (drop l.body-index l.bodies)) ≡ refusal (flat_map alone_tests l.bodies)
