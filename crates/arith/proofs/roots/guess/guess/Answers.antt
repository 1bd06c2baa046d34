-- `arith::roots::guess::guess` meets its contract.
use Rattle.std.proofs.Common.{◌-◌, arith}
use Rattle.arith.proofs.roots.Pattern.Special.{no_nan}
use Rattle.arith.proofs.roots.guess.guess.Goals as goal

pub float_from_bits-y0 : goal.float_from_bits-y0
float_from_bits-y0 c = no_nan (6910471404284329946 - c.args.half) (omega arith)
