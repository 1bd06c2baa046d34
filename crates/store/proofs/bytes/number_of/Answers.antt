-- `store::bytes::number_of` meets its contract.
use mathlib.Core.Path.{ap, ◌∙◌}
use lib.Ieee.{binary64, of_bits}
use Rattle.store.specs.Records.{number}
use Rattle.store.proofs.bytes.number_of.Goals as goal

pub returns : goal.returns
unfolding number
returns c = c.float_of.ensures ∙ ap (of_bits binary64) c.u64_at.ensures
