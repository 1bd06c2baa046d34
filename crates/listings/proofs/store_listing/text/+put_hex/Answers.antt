-- `listings::store_listing::text::put_hex` meets its contract: all digits but the last, then the last.
use Rattle.listings.proofs.store_listing.Digits.{hex_step, hex_room, hex_none}
use Rattle.listings.proofs.store_listing.Writing.{then}
use Rattle.listings.proofs.store_listing.text.+put_hex.Goals as goal

pub returns-then-k-eq0 : goal.returns-then-k-eq0
returns-then-k-eq0 t c = hex_none _ _ _ _ c.if-k-eq0.true

pub put_byte-requires : goal.put_byte-requires
put_byte-requires t c = hex_room _ _ c.requires c.if-k-eq0.false c.put_hex-last.ensures

pub returns : goal.returns
returns t c = rw (hex_step _ _ c.if-k-eq0.false, ← c.digit.ensures) (then c.put_hex-last.ensures c.put_byte.ensures)
