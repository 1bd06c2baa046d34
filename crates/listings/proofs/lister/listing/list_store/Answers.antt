-- `listings::lister::listing::list_store`. Accepted, the order and the space begin with what the listing is made of.
use native.Mathlib.Omega.{arith}
use mathlib.Core.Path.{refl}
use lib.ListN.{length-take}
use Rattle.listings.proofs.store_listing.Listed.{not_listed, listing_room, listed}
use Rattle.store.proofs.Handed.{handed_on}
use Rattle.store.proofs.Reading.{refused_first, decided_second}
use borrow.Author.Rules.{rules}
use Rattle.listings.proofs.lister.listing.list_store.Goals as goal

pub returns-in_err-n : goal.returns-in_err-n
returns-in_err-n c =
    rw (handed_on _ c.from_residual.ensures) (not_listed _ _ (refused_first _ (c.in_err-n.ensures.refused _ refl)))

pub slice_bounds-order-end : goal.slice_bounds-order-end
slice_bounds-order-end c = omega (arith, (c.in_ok-n.ensures.accepted _ refl).small)

pub slice_bounds-read_section-end : goal.slice_bounds-read_section-end
slice_bounds-read_section-end c = simp length-take (omega (arith, (c.in_ok-n.ensures.accepted _ refl).small))

pub read_section-requires : goal.read_section-requires
read_section-requires c =
    record {
      room = search rules;
      few = simp length-take (omega (arith, (c.in_ok-n.ensures.accepted _ refl).small));
    }

pub returns-in_err-m : goal.returns-in_err-m
returns-in_err-m c =
    let chain = c.in_ok-n.ensures.accepted _ refl in
    rw (handed_on _ c.from_residual-in_err-m.ensures)
    (not_listed _ _ (decided_second _ chain.good chain.front (c.in_err-m.ensures.refused _ refl)))

pub slice_bounds-space-end : goal.slice_bounds-space-end
slice_bounds-space-end c = omega (arith, (c.in_ok-m.ensures.accepted _ refl).small)

pub slice_bounds-put_accepted-end : goal.slice_bounds-put_accepted-end
slice_bounds-put_accepted-end c = simp length-take (omega (arith, (c.in_ok-m.ensures.accepted _ refl).small))

pub put_accepted-requires : goal.put_accepted-requires
put_accepted-requires c =
    let chain = c.in_ok-n.ensures.accepted _ refl in
    let section = c.in_ok-m.ensures.accepted _ refl in
    listing_room _ (decided_second _ chain.good chain.front section.good) chain.front section.front
    c.args.text.now (search rules)

pub returns : goal.returns
returns c =
    let chain = c.in_ok-n.ensures.accepted _ refl in
    let section = c.in_ok-m.ensures.accepted _ refl in
    listed _ (decided_second _ chain.good chain.front section.good) chain.front section.front _
    (search rules) c.put_accepted.ensures
