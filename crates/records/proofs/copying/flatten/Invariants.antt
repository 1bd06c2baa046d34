-- `records::copying::flatten`: i vertices have been copied to the array's front.
use Rattle.records.proofs.FrontFilled.{FrontFilled}
use Rattle.records.proofs.copying.flatten.Given as goal

abbrev pub invariant-loop-i : goal.invariant-loop-i
invariant-loop-i l = FrontFilled l.section l.i l.items
