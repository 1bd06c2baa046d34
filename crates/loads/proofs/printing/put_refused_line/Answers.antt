-- `loads::printing::put_refused_line`. Three pieces, one behind the other; the line's length is the sum of theirs.
use native.Mathlib.Omega.{arith}
use lib.ListN.{length-append}
use Rattle.listings.specs.store_listing.Text.{text}
use Rattle.listings.proofs.store_listing.Writing.{then}
use Rattle.loads.specs.Printed.{refused_line}
use Rattle.loads.proofs.printing.put_refused_line.Goals as goal

pub put_word-a-requires : goal.put_word-a-requires
unfolding refused_line text
put_word-a-requires c = omega (arith, simp length-append at c.requires)

pub put_decimal-b-requires : goal.put_decimal-b-requires
unfolding refused_line text
put_decimal-b-requires c = omega (arith, simp length-append at c.requires)

pub put_word-requires : goal.put_word-requires
unfolding refused_line text
put_word-requires c =
    omega (arith, simp length-append at c.requires)

pub returns : goal.returns
unfolding refused_line text
returns c =
    then (then c.put_word-a.ensures c.put_decimal-b.ensures) c.put_word.ensures
