-- `stores::length_of` meets its contract.
use native.Mathlib.Omega.{arith}
use mathlib.Core.Path.{◌∙◌}
use Rattle.store.specs.Bytes.{little_endian}
use Rattle.stores.proofs.length_of.Goals as goal

pub returns : goal.returns
unfolding little_endian
returns c = c.from_le_bytes.ensures ∙ omega arith
