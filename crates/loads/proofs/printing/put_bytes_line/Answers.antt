-- `loads::printing::put_bytes_line`. The digits, then the newline.
use native.Mathlib.Omega.{arith}
use Rattle.listings.specs.store_listing.Text.{text}
use Rattle.listings.proofs.store_listing.Writing.{then}
use Rattle.loads.specs.Printed.{bytes_line}
use Rattle.loads.proofs.Lines.{length_digits, length_bytes_line}
use Rattle.loads.proofs.printing.put_bytes_line.Goals as goal

pub put_digits-a-requires : goal.put_digits-a-requires
put_digits-a-requires c =
    let l = c.args.bytes.now in
    omega (arith, length_digits l, length_bytes_line l, c.requires)

pub put_word-requires : goal.put_word-requires
put_word-requires c =
    let l = c.args.bytes.now in
    omega (arith, length_digits l, length_bytes_line l, c.requires)

pub returns : goal.returns
unfolding bytes_line text
returns c =
    then c.put_digits-a.ensures c.put_word.ensures
