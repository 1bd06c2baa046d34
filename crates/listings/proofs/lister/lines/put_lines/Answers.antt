-- `listings::lister::lines::put_lines`. One record has its line in a turn.
use mathlib.Core.List.{flat_map}
use mathlib.Core.Path.{refl}
use lib.Seq.{take_all}
use Rattle.listings.proofs.store_listing.Pieces.{line_room, line_more}
use Rattle.listings.proofs.store_listing.Writing.{nothing_written}
use borrow.Author.Rules.{rules}
use Rattle.listings.proofs.lister.lines.put_lines.Goals as goal

pub loop-k-init : goal.loop-k-init
unfolding flat_map
loop-k-init c = (refl, nothing_written _ _)

pub put_record_line-at-requires : goal.put_record_line-at-requires
put_record_line-at-requires c = line_room _ _ _ c.loop-k-test.true c.loop-k.invariant.1 c.requires

pub loop-k-preserved : goal.loop-k-preserved
loop-k-preserved c =
    (search rules, line_more _ _ _ c.loop-k-test.true c.loop-k.invariant.1 c.put_record_line-at.ensures)

pub returns : goal.returns
returns c = rw (take_all _ _ c.loop-k-test.false) at c.loop-k.invariant.1
