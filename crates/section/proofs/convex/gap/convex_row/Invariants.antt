-- `section::convex::gap::convex_row` meets its contract: a fold over the window's edges, and no other is nearer.
use Rattle.section.specs.profile.Vertices.{edge_at}
use Rattle.section.specs.segments.Segments.{segments}
use Rattle.section.specs.ranges.Search.{FoundFrom}
use Rattle.section.proofs.convex.gap.convex_row.Given as goal

abbrev pub invariant-loop-j : goal.invariant-loop-j
invariant-loop-j l =
    FoundFrom (λ k. segments (edge_at l.s k) l.a l.b) l.from l.j l.initial.best l.best
