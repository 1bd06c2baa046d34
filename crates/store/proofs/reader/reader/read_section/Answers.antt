-- `store::reader::reader::read_section` meets its contract.
use mathlib.Core.Path.{sym}
use Rattle.store.proofs.Handed.{handed_on}
use Rattle.store.proofs.Filling.{fills_sooner, fills_later}
use Rattle.store.proofs.reader.reader.read_section.Goals as goal

pub returns-in_err-kinds_answer : goal.returns-in_err-kinds_answer
returns-in_err-kinds_answer c = rw (handed_on _ c.from_residual.ensures) (fills_sooner _ (sym c.in_err-kinds_answer.ensures))

pub returns : goal.returns
returns c = fills_later _ (sym c.in_ok-kinds_answer.ensures) c.fill_section.ensures
