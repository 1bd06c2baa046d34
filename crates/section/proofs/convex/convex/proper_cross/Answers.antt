-- `section::convex::convex::proper_cross` meets its contract.
use Rattle.section.specs.convex.Convex.{proper_cross}
use Rattle.section.proofs.convex.convex.proper_cross.Goals as goal

pub returns-then-across : goal.returns-then-across
unfolding proper_cross
returns-then-across c =
    rw (← c.requires, c.if-across.true, ← c.orient.ensures, ← c.orient-then-across.ensures)

pub returns-else-across : goal.returns-else-across
unfolding proper_cross
returns-else-across c = rw (← c.requires, c.if-across.false)
