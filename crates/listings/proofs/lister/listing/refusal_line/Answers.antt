-- `listings::lister::listing::refusal_line` meets its contract.
use native.Mathlib.Omega.{arith}
use Rattle.listings.proofs.store_listing.Listed.{refusal_short}
use Rattle.listings.proofs.store_listing.Writing.{front_written}
use borrow.Author.Rules.{rules}
use Rattle.listings.proofs.lister.listing.refusal_line.Goals as goal

pub put_refusal_line-requires : goal.put_refusal_line-requires
put_refusal_line-requires c =
    omega (
      arith,
      refusal_short c.args.number c.args.k (search rules) (search rules),
    )

pub returns : goal.returns
returns c =
    front_written c.put_refusal_line.ensures (omega (
      arith,
      refusal_short c.args.number c.args.k
          (search rules) (search rules),
    ))
