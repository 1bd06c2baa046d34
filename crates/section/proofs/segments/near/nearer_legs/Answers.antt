-- `section::segments::near::nearer_legs` meets its contract: what reaches both legs is not nearer, and what is taken has its own.
use lib.Ieee.{binary64}
use lib.Ieee.Fits.{sub-fits}
use Rattle.arith.proofs.Laws.OrderHeld.{true→T}
use Rattle.section.proofs.segments.Legs.{new_legs, reached}
use Rattle.section.proofs.segments.near.nearer_legs.Goals as goal

pub returns-then-r-best : goal.returns-then-r-best
returns-then-r-best c =
    let u = sub-fits binary64 c.args.p.z c.args.q.z in
    let v = sub-fits binary64 c.args.p.r c.args.q.r in
    rw (c.args.best.legs _ _ u v
    (reached _ _ (true→T c.well_formed.0.1.1.1.0.1) u (rw c.abs-z.ensures at c.if-z-best.true))
    (reached _ _ (true→T c.well_formed.0.1.1.1.1.0.1) v (rw c.abs-r.ensures at c.if-r-best.true)))

pub invariant_of-result : goal.invariant_of-result
invariant_of-result c =
    record {
      legs = rw (
        c.abs-z.ensures,
        c.abs-r.ensures,
      )
          (new_legs _ _ _ _ _ (sub-fits binary64 c.args.p.z c.args.q.z)
          (sub-fits binary64 c.args.p.r c.args.q.r) c.nearer_between-hit.ensures
          c.well_formed.0.1.1.0.1.1.0.1 c.if-hit-known.true);
    }
