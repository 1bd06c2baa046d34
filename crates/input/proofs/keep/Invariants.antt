-- `input::keep`. What was kept so far is the front of the piece.
use Prim.Native.Nat.{◌+◌}
use mathlib.Core.Path.{◌≡◌}
use lib.ListN.{length, take}
use Rattle.listings.specs.store_listing.Steps.{Written}
use Rattle.input.proofs.keep.Given as goal

abbrev pub invariant-loop-i : goal.invariant-loop-i
invariant-loop-i l = record {
  room : length l.buffer ≡ length l.initial.buffer;
  kept : Written l.initial.buffer l.from (take l.i l.piece) l.buffer (l.from + l.i);
}
