-- `section::refusals::refusal::any_below_axis` meets its contract.
use mathlib.Core.Bool.{false}
use mathlib.Core.Path.{◌≡◌}
use lib.Ieee.{neg}
use Rattle.arith.specs.F64.{◌≺◌, e_9}
use Rattle.section.specs.profile.Vertices.{vertex_at, any}
use Rattle.section.proofs.refusals.refusal.any_below_axis.Given as goal

abbrev pub invariant-loop-k : goal.invariant-loop-k
invariant-loop-k l = any (λ j. (vertex_at l.l j).r ≺ neg e_9) l.k ≡ false
