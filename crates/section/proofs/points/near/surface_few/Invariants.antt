-- `section::points::near::surface_few` meets its contract: a fold.
use mathlib.Core.Path.{◌≡◌}
use Rattle.section.specs.profile.Vertices.{upto}
use Rattle.section.specs.points.Points.{surface_step}
use Rattle.section.proofs.points.near.surface_few.Given as goal

abbrev pub invariant-loop-k : goal.invariant-loop-k
invariant-loop-k l = l.best.hit ≡ upto (surface_step l.s l.p) l.initial.best.hit l.k
