-- `replay::replay` is safe: what is held lies within the buffer, whose length stays.
use Prim.Native.Nat.{◌≤◌}
use mathlib.Core.Path.{◌≡◌}
use lib.ListN.{length}
use Rattle.replay.proofs.replay.Given as goal

abbrev pub invariant-loop : goal.invariant-loop
invariant-loop g l = record {
  ordered : l.start ≤ l.end;
  inside : l.end ≤ length l.buf;
  room : length l.buf ≡ length l.initial.buf;
}
