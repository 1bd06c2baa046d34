-- `listings::lister::lines::put_field`. The bits stand behind the space.
use Rattle.listings.specs.store_listing.Text.{text}
use Rattle.listings.specs.store_listing.Listing.{field_text}
use Rattle.listings.proofs.store_listing.Writing.{then}
use Rattle.listings.proofs.lister.lines.put_field.Goals as goal

pub returns : goal.returns
unfolding field_text text
returns c =
    then c.put_word-a.ensures c.put_bits.ensures
