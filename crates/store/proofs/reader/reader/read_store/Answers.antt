-- `store::reader::reader::read_store`. The answer of length and links stands, or else that of kinds and section.
use native.Mathlib.Omega.{arith}
use mathlib.Core.Path.{refl, sym}
use lib.ListN.{length-take}
use Rattle.store.proofs.Handed.{handed_on}
use Rattle.store.proofs.Reading.{refused_first, decided_second}
use borrow.Author.Rules.{rules}
use Rattle.store.proofs.reader.reader.read_store.Goals as goal

pub returns-in_err-n : goal.returns-in_err-n
returns-in_err-n c = rw (handed_on _ c.from_residual.ensures) (sym (refused_first _ (c.in_err-n.ensures.refused _ refl)))

pub slice_bounds-order-end : goal.slice_bounds-order-end
slice_bounds-order-end c = omega (arith, (c.in_ok-n.ensures.accepted _ refl).small)

pub slice_bounds-read_section-end : goal.slice_bounds-read_section-end
slice_bounds-read_section-end c = simp length-take (omega (arith, (c.in_ok-n.ensures.accepted _ refl).small))

pub read_section-requires : goal.read_section-requires
read_section-requires c =
    record {
      room = search rules;
      few = simp length-take (omega (arith, (c.in_ok-n.ensures.accepted _ refl).small));
    }

pub returns-in_err-read_section : goal.returns-in_err-read_section
returns-in_err-read_section c =
    let chain = c.in_ok-n.ensures.accepted _ refl in
    rw (handed_on _ c.from_residual-in_err-read_section.ensures)
    (sym (decided_second _ chain.good chain.front (c.in_err-read_section.ensures.refused _ refl)))

pub returns : goal.returns
returns c =
    let chain = c.in_ok-n.ensures.accepted _ refl in
    sym (decided_second _ chain.good chain.front (c.in_ok-read_section.ensures.accepted _ refl).good)
