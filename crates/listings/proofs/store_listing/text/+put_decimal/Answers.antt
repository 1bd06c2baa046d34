-- `listings::store_listing::text::put_decimal` meets its contract: all digits but the last, then the last.
use Rattle.std.proofs.Common.{arith}
use Rattle.listings.proofs.store_listing.Digits.{decimal_one, decimal_step, room_one, room_rest, room_last}
use Rattle.listings.proofs.store_listing.Writing.{then}
use Rattle.listings.proofs.store_listing.text.+put_decimal.Goals as goal

pub put_byte-requires : goal.put_byte-requires
put_byte-requires t c = room_one _ _ c.requires c.if-n-lt10.true

pub returns-then-n-lt10 : goal.returns-then-n-lt10
returns-then-n-lt10 t c = rw (decimal_one _ c.if-n-lt10.true, ← c.digit.ensures) c.put_byte.ensures

pub put_decimal-last-requires : goal.put_decimal-last-requires
put_decimal-last-requires t c = (omega arith, room_rest _ _ c.requires c.if-n-lt10.false)

pub put_byte-requires-2 : goal.put_byte-requires-2
put_byte-requires-2 t c = room_last _ c.requires c.if-n-lt10.false c.put_decimal-last.ensures

pub returns : goal.returns
returns t c =
    rw (decimal_step _ c.if-n-lt10.false, ← c.digit-2.ensures) (then c.put_decimal-last.ensures c.put_byte-2.ensures)
