-- `input::keep`. One byte is kept in a turn.
use lib.ListN.{length-set}
use Rattle.listings.proofs.store_listing.Writing.{word_more}
use Rattle.input.proofs.keep.Goals as goal

pub loop-i-preserved : goal.loop-i-preserved
loop-i-preserved c = record {
  room = rw (c.keep_byte.ensures, length-set) c.loop-i.invariant.room;
  kept = rw c.keep_byte.ensures (word_more _ _ c.loop-i.invariant.kept c.loop-i-test.true);
}
