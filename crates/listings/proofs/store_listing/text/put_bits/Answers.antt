-- `listings::store_listing::text::put_bits` meets its contract.
use Rattle.listings.specs.store_listing.Text.{bits}
use Rattle.listings.proofs.store_listing.text.put_bits.Goals as goal

pub returns : goal.returns
unfolding bits
returns c = rw (← c.bits_of.ensures) c.put_hex.ensures
