-- `section::builders::builder::push_points` meets its contract: after k points, run and space are those of what is kept of them.
use mathlib.Core.Path.{◌≡◌}
use Rattle.section.specs.builders.Builder.{kept_points}
use Rattle.section.specs.builders.Steps.{run_of, front_kept}
use Rattle.section.proofs.builders.builder.push_points.Given as goal

abbrev pub invariant-loop-k : goal.invariant-loop-k
invariant-loop-k l =
    (l.run ≡ run_of (kept_points l.points l.k)) × (l.space ≡ front_kept l.limit (kept_points l.points l.k) l.initial.space)
