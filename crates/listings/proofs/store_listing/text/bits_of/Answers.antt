-- `listings::store_listing::text::bits_of` meets its contract.
use mathlib.Core.Path.{sym}
use Rattle.arith.proofs.roots.Pattern.Special.{like_itself}
use Rattle.listings.proofs.store_listing.Digits.{bits_zero, bits_nan}
use Rattle.listings.proofs.store_listing.text.bits_of.Goals as goal

pub returns-then-x : goal.returns-then-x
returns-then-x c = rw c.if-x.true (sym bits_zero)

pub float_to_bits-result : goal.float_to_bits-result
float_to_bits-result c = like_itself _ c.if-x-2.true

pub returns-then-x-2 : goal.returns-then-x-2
returns-then-x-2 c = rw c.if-x.false

pub returns : goal.returns
returns c = rw c.if-x.false (sym (bits_nan _ c.if-x-2.false))
