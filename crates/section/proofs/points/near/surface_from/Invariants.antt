-- `section::points::near::surface_from` meets its contract: a fold, from whatever start.
use Rattle.section.specs.profile.Vertices.{vertex}
use Rattle.section.specs.points.Steps.{SurfaceFrom}
use Rattle.section.proofs.points.near.surface_from.Given as goal

abbrev pub invariant-loop-k : goal.invariant-loop-k
invariant-loop-k l = SurfaceFrom l.s (vertex l.z l.r) l.from l.k l.initial.best.hit l.best.hit
