-- `listings::lister::lines::put_answer`. By the answer: its four fields, or a word and the number.
use native.Mathlib.Omega.{arith}
use mathlib.Core.Path.{refl}
use lib.ListN.{length-append}
use Rattle.listings.specs.store_listing.Text.{text}
use Rattle.listings.proofs.store_listing.Pieces.{hit_room, refused_room}
use Rattle.listings.proofs.store_listing.Writing.{then}
use Rattle.listings.proofs.lister.lines.put_answer.Goals as goal

pub put_hit-requires : goal.put_hit-requires
put_hit-requires c = hit_room _ _ c.requires c.in-Ok.is

pub put_word-a-requires : goal.put_word-a-requires
unfolding text
put_word-a-requires c =
    omega (arith, simp length-append at (refused_room _ _ c.requires c.in-Err.is refl))

pub put_decimal-requires : goal.put_decimal-requires
unfolding text
put_decimal-requires c =
    omega (arith, simp length-append at (refused_room _ _ c.requires c.in-Err.is c.number.ensures))

pub returns-in-Ok : goal.returns-in-Ok
returns-in-Ok c = rw c.in-Ok.is c.put_hit.ensures

pub returns-in-Err : goal.returns-in-Err
unfolding text
returns-in-Err c =
    rw (c.in-Err.is, ← c.number.ensures) (then c.put_word-a.ensures c.put_decimal.ensures)
