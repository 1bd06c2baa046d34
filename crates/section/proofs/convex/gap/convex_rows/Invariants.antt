-- `section::convex::gap::convex_rows` meets its contract: a fold, in which the window stays one.
use mathlib.Core.Path.{◌≡◌}
use Rattle.section.specs.profile.Vertices.{upto}
use Rattle.section.specs.convex.Convex.{convex_row}
use Rattle.section.proofs.convex.gap.convex_rows.Given as goal

abbrev pub invariant-loop-i : goal.invariant-loop-i
invariant-loop-i l = l.best ≡ upto (convex_row l.c l.s) l.initial.best l.i
