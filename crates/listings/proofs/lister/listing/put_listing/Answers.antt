-- `listings::lister::listing::put_listing`. The listing as list_store put it, or the line of its refusal on the text as it was.
use mathlib.Core.Path.{sym, ap, ◌∙◌}
use Rattle.store.specs.Store.{store_answer}
use Rattle.listings.specs.store_listing.Answers.{NotListed, told}
use Rattle.listings.specs.store_listing.Listing.{listing}
use Rattle.listings.proofs.store_listing.Listed.{listed_front, refused_front, line_room}
use borrow.Author.Rules.{rules}
use Rattle.listings.proofs.lister.listing.put_listing.Goals as goal

pub put_refusal_line-requires : goal.put_refusal_line-requires
put_refusal_line-requires c = line_room _ _ (search rules) (search rules) (search rules)

pub returns-in-Ok : goal.returns-in-Ok
returns-in-Ok c =
    listed_front (store_answer c.args.store.now) (listing c.args.store.now) _
    (ap told (sym c.in-Ok.is) ∙ c.list_store.ensures.answer) c.list_store.ensures.buffer

pub returns-in-Err : goal.returns-in-Err
returns-in-Err c =
    let k = c.in-Err.refused.at in
    refused_front _ _ (ap (λ n. NotListed n k) c.number.ensures ∙ ap told (sym c.in-Err.is) ∙ c.list_store.ensures.answer)
    c.list_store.ensures.buffer (line_room c.number.result k (search rules) (search rules) (search rules))
    c.put_refusal_line.ensures
