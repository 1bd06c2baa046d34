-- `walk::samples::sampled` meets its contract: a fold.
use mathlib.Core.Path.{◌≡◌}
use Rattle.arith.specs.F64.{𝟘, ∞}
use Rattle.section.specs.profile.Vertices.{vertex, on, hit, upto}
use Rattle.walk.specs.Walk.{sample_z}
use Rattle.walk.specs.Steps.{sample_at}
use Rattle.walk.proofs.samples.sampled.Given as goal

abbrev pub invariant-loop-i : goal.invariant-loop-i
invariant-loop-i l =
    l.best ≡ upto (λ i best. sample_at l.s l.b (sample_z l.b l.n i) best) (hit ∞ (on 0 (vertex l.b.zc 𝟘))) l.i
