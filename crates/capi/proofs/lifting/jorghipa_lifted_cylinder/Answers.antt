-- `capi::lifting::jorghipa_lifted_cylinder` meets its contract: the answer's case in the lent places; the counts fit by demand 3.
use lib.Dec.{lit≤}
use Rattle.capi.proofs.handing.Fits.{promised_fits}
use Rattle.capi.proofs.handing.Same.{measures, owes}
use Rattle.capi.proofs.lifting.jorghipa_lifted_cylinder.Goals as goal

pub give_lifted_cylinder-requires : goal.give_lifted_cylinder-requires
give_lifted_cylinder-requires c =
    owes (λ h p. promised_fits h.hit (lit≤ tt) p.plain)
    c.lifted_cylinder-answer.ensures

pub returns : goal.returns
returns c =
    measures (rw c.bar.ensures at c.lifted_cylinder-answer.ensures) c.give_lifted_cylinder.ensures
