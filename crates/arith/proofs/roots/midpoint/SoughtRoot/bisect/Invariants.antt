-- `arith::roots::midpoint::SoughtRoot::bisect`. The invariant: the root lies between lo and hi, which lie within the two ends.
use Rattle.std.proofs.Common.{◌-◌, ◌≤◌}
use Rattle.std.specs.Int.{from_bool}
use Rattle.arith.specs.roots.Steps.{whole, Between}
use Rattle.arith.proofs.roots.midpoint.SoughtRoot.bisect.Given as goal

abbrev pub invariant-loop-lo : goal.invariant-loop-lo
invariant-loop-lo l = (l.lo0 ≤ l.lo) × (l.hi ≤ l.hi0) × Between (whole l.self.z) (from_bool l.self.more) l.lo l.hi

abbrev pub decreases-loop-lo : goal.decreases-loop-lo
decreases-loop-lo l = l.hi - l.lo
