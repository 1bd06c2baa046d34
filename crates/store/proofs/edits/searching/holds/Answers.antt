-- `store::edits::searching::holds` meets its contract.
use mathlib.Core.Path.{◌∙◌}
use Rattle.store.proofs.edits.Searches.{held_by_one}
use Rattle.store.proofs.edits.searching.holds.Goals as goal

pub returns : goal.returns
returns c = c.contains.ensures.value ∙ held_by_one _ _
