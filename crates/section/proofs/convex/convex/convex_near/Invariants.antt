-- `section::convex::convex::convex_near` meets its contract: a fold.
use mathlib.Core.Path.{◌≡◌}
use Rattle.arith.specs.F64.{∞}
use Rattle.arith.specs.Num.{min}
use Rattle.section.specs.profile.Vertices.{edge_at, upto}
use Rattle.section.specs.segments.Segments.{closest}
use Rattle.section.proofs.convex.convex.convex_near.Given as goal

abbrev pub invariant-loop-k : goal.invariant-loop-k
invariant-loop-k l = l.best ≡ upto (λ j best. min best (closest l.p (edge_at l.c j)).distance) ∞ l.k
