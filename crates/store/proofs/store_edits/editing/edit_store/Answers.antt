-- `store::store_edits::editing::edit_store` meets its contract.
use mathlib.Core.Path.{sym}
use Rattle.store.proofs.Handed.{handed_on}
use Rattle.store.proofs.edits.Decided.{refused_space}
use Rattle.store.proofs.store_edits.editing.edit_store.Goals as goal

pub returns-in_err-space_answer : goal.returns-in_err-space_answer
returns-in_err-space_answer c =
    rw (handed_on _ c.from_residual.ensures) (refused_space _ _ _ _ _ (sym c.in_err-space_answer.ensures))
