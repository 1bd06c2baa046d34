-- `listings::store_listing::text::put_word` meets its contract.
use mathlib.Core.Path.{refl}
use Rattle.listings.proofs.store_listing.text.put_word.Goals as goal

pub returns : goal.returns
returns c = record { text = c.put.ensures.bytes; end = refl }
