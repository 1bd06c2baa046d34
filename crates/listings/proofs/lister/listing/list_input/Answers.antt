-- `listings::lister::listing::list_input`. A refused length has its line; any other fits the buffer.
use native.Mathlib.Omega.{arith}
use mathlib.Core.Path.{sym, ap, ◌∙◌}
use lib.ListN.{length-take}
use Rattle.store.specs.Answers.{told}
use Rattle.listings.specs.store_listing.Listing.{input_listing, listing}
use Rattle.listings.proofs.store_listing.Inputs.{length_fits}
use Rattle.listings.proofs.store_listing.Listed.{line_room}
use Rattle.listings.proofs.store_listing.Writing.{front_written}
use borrow.Author.Rules.{rules}
use Rattle.listings.proofs.lister.listing.list_input.Goals as goal

pub slice_bounds-put_listing-end : goal.slice_bounds-put_listing-end
slice_bounds-put_listing-end c =
    simp length-take (omega (arith, length_fits _ (sym c.length_answer.ensures ∙ ap told c.in-Ok.is), c.room-1.given))

pub returns-in-Ok : goal.returns-in-Ok
unfolding input_listing listing
returns-in-Ok c = rw (← c.length_answer.ensures, c.in-Ok.is) c.put_listing.ensures

pub put_refusal_line-requires : goal.put_refusal_line-requires
put_refusal_line-requires c = line_room _ _ (search rules) (search rules) (search rules)

pub returns-in-Err : goal.returns-in-Err
unfolding input_listing
returns-in-Err c =
    rw (← c.length_answer.ensures, c.in-Err.is, ← c.number.ensures) (front_written c.put_refusal_line.ensures
    (line_room _ _ (search rules) (search rules) (search rules)))
