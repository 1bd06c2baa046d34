-- `input::read_on`. What a turn reads stands behind what came before; the measure is what may still come.
use Prim.Native.Nat.{◌-◌}
use mathlib.Core.Path.{◌≡◌}
use lib.ListN.{length as size}
use Rattle.input.specs.Input.{ReadsOn}
use Rattle.input.proofs.read_on.Given as goal

abbrev pub invariant-loop-length : goal.invariant-loop-length
invariant-loop-length g l = record {
  read : ReadsOn l.initial.buffer l.from l.buffer l.length (g.R.Read.remaining l.initial.reader) (g.R.Read.remaining l.reader);
  room : size l.buffer ≡ size l.initial.buffer;
}

abbrev pub decreases-loop-length : goal.decreases-loop-length
decreases-loop-length g l = l.most - l.length
