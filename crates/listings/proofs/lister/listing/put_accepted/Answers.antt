-- `listings::lister::listing::put_accepted`. The lines stand behind the section's.
use native.Mathlib.Omega.{arith}
use lib.ListN.{length-append}
use Rattle.listings.specs.store_listing.Listing.{accepted_text}
use Rattle.listings.proofs.store_listing.Writing.{then}
use Rattle.listings.proofs.lister.listing.put_accepted.Goals as goal

pub put_section_line-from-requires : goal.put_section_line-from-requires
unfolding accepted_text
put_section_line-from-requires c = omega (arith, simp length-append at c.requires)

pub put_lines-requires : goal.put_lines-requires
unfolding accepted_text
put_lines-requires c =
    omega (arith, simp length-append at c.requires)

pub returns : goal.returns
unfolding accepted_text
returns c =
    then c.put_section_line-from.ensures c.put_lines.ensures
