-- `listings::lister::lines::put_record_line` meets its contract.
use Rattle.listings.proofs.store_listing.Writing.{nothing_written}
use Rattle.listings.proofs.lister.lines.put_record_line.Goals as goal

pub returns : goal.returns
returns c = rw (← c.if-is_kind.ensures, ← c.if-is_kind-2.ensures) (nothing_written _ _)
