-- `section::segments::near::legless` meets its contract: infinite legs tell nothing.
use Rattle.section.proofs.segments.Legs.{no_legs}
use Rattle.section.proofs.segments.near.legless.Goals as goal

pub invariant_of-result : goal.invariant_of-result
invariant_of-result c = record { legs = rw c.infinity-top.ensures (no_legs _) }
