-- `store::reader::reader::fill_section`. More than 256 vertices are number 3; of fewer the space begins with the section. Its numbers
-- come first, then the radii.
use native.Mathlib.Omega.{arith}
use mathlib.Core.Path.{sym}
use lib.ListN.{length-take}
use Rattle.store.proofs.Handed.{handed_on}
use Rattle.store.proofs.Filling.{fills_front, fills_refused, fills_sooner, fills_later}
use Rattle.store.proofs.Reading.{section_refused, section_fine, too_many}
use borrow.Author.Rules.{rules}
use Rattle.store.proofs.reader.reader.fill_section.Goals as goal

pub returns-then-n-gt256 : goal.returns-then-n-gt256
returns-then-n-gt256 c =
    rw c.into.ensures (fills_sooner _ (too_many _ _ c.gather-n.ensures.size c.if-n-gt256.true))

pub slice_bounds-list_refusal-end-2 : goal.slice_bounds-list_refusal-end-2
slice_bounds-list_refusal-end-2 c = simp length-take (omega arith)

pub returns-in_err-list_refusal : goal.returns-in_err-list_refusal
returns-in_err-list_refusal c =
    rw (handed_on _ c.from_residual.ensures)
    (fills_sooner _ (section_refused _ (c.gather-n.ensures.front c.if-n-gt256.false) c.in_err-list_refusal.ensures))

pub returns-in_err-radii_answer : goal.returns-in_err-radii_answer
returns-in_err-radii_answer c =
    let front = c.gather-n.ensures.front c.if-n-gt256.false in
    rw (handed_on _ c.from_residual-in_err-radii_answer.ensures)
    (fills_later _ (section_fine front c.in_ok-list_refusal.ensures) (fills_refused (sym c.in_err-radii_answer.ensures)))

pub returns : goal.returns
returns c =
    let front = c.gather-n.ensures.front c.if-n-gt256.false in
    fills_later _ (section_fine front c.in_ok-list_refusal.ensures)
    (fills_front (sym c.in_ok-radii_answer.ensures) front (search rules))
