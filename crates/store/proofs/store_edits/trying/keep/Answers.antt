-- `store::store_edits::trying::keep` meets its contract.
use mathlib.Core.Path.{sym}
use Rattle.store.proofs.Handed.{handed_on}
use Rattle.store.proofs.edits.Trials.{copied, trial_refused, trial_kept}
use Rattle.store.proofs.store_edits.trying.keep.Goals as goal

pub returns-in_err-space_answer : goal.returns-in_err-space_answer
returns-in_err-space_answer c =
    rw (handed_on _ c.from_residual.ensures) (trial_refused (sym c.in_err-space_answer.ensures))

pub returns : goal.returns
returns c = trial_kept (sym c.in_ok-space_answer.ensures) (copied c.put.ensures c.requires)
