-- `listings::lister::lines::put_body_line`. Three pieces, one behind the other; the line's length is the sum of theirs.
use native.Mathlib.Omega.{arith}
use lib.ListN.{length-append}
use Rattle.listings.specs.store_listing.Text.{text}
use Rattle.listings.proofs.store_listing.Pieces.{line_of}
use Rattle.listings.proofs.store_listing.Writing.{then}
use Rattle.listings.proofs.lister.lines.put_body_line.Goals as goal

pub put_decimal-a-requires : goal.put_decimal-a-requires
put_decimal-a-requires c =
    let line = line_of _ _ _ c.body_answer-answer.result c.body_answer-answer.ensures in
    let room = rw line at c.requires in
    omega (arith, simp length-append at room)

pub put_answer-b-requires : goal.put_answer-b-requires
put_answer-b-requires c =
    let line = line_of _ _ _ c.body_answer-answer.result c.body_answer-answer.ensures in
    let room = rw line at c.requires in
    omega (arith, simp length-append at room)

pub put_word-requires : goal.put_word-requires
unfolding text
put_word-requires c =
    let line = line_of _ _ _ c.body_answer-answer.result c.body_answer-answer.ensures in
    let room = rw line at c.requires in
    omega (arith, simp length-append at room)

pub returns : goal.returns
unfolding text
returns c =
    rw (line_of _ _ _ c.body_answer-answer.result c.body_answer-answer.ensures)
    (then (then c.put_decimal-a.ensures c.put_answer-b.ensures) c.put_word.ensures)
