-- `listings::lister::lines::put_refusal_line`. Five pieces, one behind the other; the line's length is the sum of theirs.
use native.Mathlib.Omega.{arith}
use lib.ListN.{length-append}
use Rattle.listings.specs.store_listing.Text.{text}
use Rattle.listings.specs.store_listing.Listing.{refusal_line}
use Rattle.listings.proofs.store_listing.Writing.{then}
use Rattle.listings.proofs.lister.lines.put_refusal_line.Goals as goal

pub put_word-a-requires : goal.put_word-a-requires
unfolding refusal_line text
put_word-a-requires c = omega (arith, simp length-append at c.requires)

pub put_decimal-b-requires : goal.put_decimal-b-requires
unfolding refusal_line text
put_decimal-b-requires c = omega (arith, simp length-append at c.requires)

pub put_word-c-requires : goal.put_word-c-requires
unfolding refusal_line text
put_word-c-requires c =
    omega (arith, simp length-append at c.requires)

pub put_decimal-d-requires : goal.put_decimal-d-requires
unfolding refusal_line text
put_decimal-d-requires c =
    omega (arith, simp length-append at c.requires)

pub put_word-requires : goal.put_word-requires
unfolding refusal_line text
put_word-requires c =
    omega (arith, simp length-append at c.requires)

pub returns : goal.returns
unfolding refusal_line text
returns c =
    then (then (then (then c.put_word-a.ensures c.put_decimal-b.ensures) c.put_word-c.ensures)
    c.put_decimal-d.ensures) c.put_word.ensures
