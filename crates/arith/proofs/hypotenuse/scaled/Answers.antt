-- `arith::hypotenuse::scaled`. A shift by 0 or 1.
use Rattle.std.proofs.Common.{ℕ, zero, suc, ◌-◌, ◌*◌, ◌%◌, ◌^◌, ◌<◌, arith}
use Rattle.arith.specs.roots.Steps.{Scaled}
use Rattle.arith.proofs.hypotenuse.scaled.Goals as goal

law : (m s : ℕ) → m < 2 ^ 53 → s < 2 → Scaled m (1 - s) (m * 2 ^ s % 2 ^ 64)
law m zero h l = record { one = λ e. omega arith; two = λ e. omega arith; small = omega arith }
law m (suc zero) h l = record { one = λ e. omega arith; two = λ e. omega arith; small = omega arith }
law m (suc (suc s)) h l = absurd (omega arith)

pub returns : goal.returns
returns c = law c.args.m c.args.s c.requires.0 c.requires.1
