-- `capi::cylinder::jorghipa_cylinder` meets its contract: the answer's case in the lent places; the counts fit by demand 3.
use native.Mathlib.Omega.{arith}
use Rattle.capi.proofs.handing.Fits.{promised_fits}
use Rattle.capi.proofs.handing.Same.{measures, owes}
use Rattle.capi.proofs.cylinder.jorghipa_cylinder.Goals as goal

pub give_cylinder-requires : goal.give_cylinder-requires
give_cylinder-requires c =
    let x = c.well_formed.1.1.1.1.1.1.1.1.1.0 in
    owes (λ h p. promised_fits h (omega (arith, x)) p) c.query_cylinder-answer.ensures

pub returns : goal.returns
returns c =
    measures (rw c.bar.ensures at c.query_cylinder-answer.ensures) c.give_cylinder.ensures
