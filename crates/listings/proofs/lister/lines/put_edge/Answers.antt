-- `listings::lister::lines::put_edge`. The number stands behind the space.
use native.Mathlib.Omega.{arith}
use Rattle.listings.specs.store_listing.Text.{text}
use Rattle.listings.specs.store_listing.Listing.{edge_text}
use Rattle.listings.proofs.store_listing.Pieces.{length_edge}
use Rattle.listings.proofs.store_listing.Writing.{then}
use Rattle.listings.proofs.lister.lines.put_edge.Goals as goal

pub put_word-a-requires : goal.put_word-a-requires
put_word-a-requires c =
    omega (arith, length_edge c.args.k, c.requires)

pub put_decimal-requires : goal.put_decimal-requires
put_decimal-requires c =
    omega (arith, length_edge c.args.k, c.requires)

pub returns : goal.returns
unfolding edge_text text
returns c =
    then c.put_word-a.ensures c.put_decimal.ensures
