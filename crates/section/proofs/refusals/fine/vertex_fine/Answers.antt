-- `section::refusals::fine::vertex_fine` meets its contract.
use Rattle.arith.proofs.Laws.OrderHeld.{true→T}
use Rattle.section.proofs.refusals.fine.vertex_fine.Goals as goal

pub returns-then-r : goal.returns-then-r
returns-then-r c = λ t. absurd (true→T t)

pub returns-then-abs-2 : goal.returns-then-abs-2
returns-then-abs-2 c = λ t. record {
  z_within = rw (← c.abs.ensures, c.if-abs.true);
  r_within = rw (← c.abs-then-abs.ensures, c.if-abs-2.true);
  over = c.if-r.false;
}

pub returns-else-abs-2 : goal.returns-else-abs-2
returns-else-abs-2 c = λ t. absurd (true→T t)

pub returns-else-abs : goal.returns-else-abs
returns-else-abs c = λ t. absurd (true→T t)
