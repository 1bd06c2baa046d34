-- `store::bytes::float_of` meets its contract.
use mathlib.Core.Path.{sym, ◌∙◌}
use Rattle.arith.proofs.roots.Pattern.Special.{above_inf}
use Rattle.store.proofs.Patterns.{not_nan, zero_by_zero}
use Rattle.store.proofs.bytes.float_of.Goals as goal

pub returns-then-bits-gt9218868437227405312 : goal.returns-then-bits-gt9218868437227405312
returns-then-bits-gt9218868437227405312 c = zero_by_zero ∙ sym (above_inf _ c.if-bits-gt9218868437227405312.true)

pub float_from_bits-result : goal.float_from_bits-result
float_from_bits-result c = not_nan _ c.if-bits-gt9218868437227405312.false
