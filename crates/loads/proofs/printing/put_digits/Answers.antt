-- `loads::printing::put_digits`. One byte has its two digits in a turn.
use mathlib.Core.List.{flat_map}
use mathlib.Core.Path.{refl}
use lib.Seq.{take_all}
use Rattle.listings.proofs.store_listing.Pieces.{line_more}
use Rattle.listings.proofs.store_listing.Writing.{nothing_written}
use Rattle.loads.proofs.Lines.{digits_room}
use borrow.Author.Rules.{rules}
use Rattle.loads.proofs.printing.put_digits.Goals as goal

pub loop-byte-init : goal.loop-byte-init
unfolding flat_map
loop-byte-init c = (refl, nothing_written _ _)

pub put_hex-at-requires : goal.put_hex-at-requires
put_hex-at-requires c = digits_room _ _ c.loop-byte-test.true c.loop-byte.invariant.1 c.requires

pub loop-byte-preserved : goal.loop-byte-preserved
loop-byte-preserved c =
    (search rules, line_more _ _ _ c.loop-byte-test.true c.loop-byte.invariant.1 c.put_hex-at.ensures)

pub returns : goal.returns
returns c = rw (take_all _ _ c.loop-byte-test.false) at c.loop-byte.invariant.1
