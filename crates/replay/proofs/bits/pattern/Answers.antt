-- `replay::bits::pattern` meets its contract: only a NaN is unlike itself.
use Prim.Native.Nat.{ℕ}
use mathlib.Core.Path.{◌≡◌, refl, subst, sym}
use lib.Ieee.{Float, eq, of_bits, to_bits}
use Rattle.arith.proofs.roots.Pattern.Special.{unlike_itself}
use Rattle.replay.specs.Bits.{printed}
use Rattle.replay.proofs.bits.pattern.Goals as goal

pub returns : goal.returns
unfolding eq of_bits to_bits
returns c =
    let e = unlike_itself c.args.x c.if-x.false in
    subst (λ (x : Float). ◌≡◌ {A = ℕ} 0x7ff8000000000000 (printed x)) (sym e) refl
