-- `capi::editing::jorghipa_add` meets its contract.
use Rattle.capi.proofs.editing.jorghipa_add.Goals as goal

pub returns : goal.returns
returns c = c.edit_given.ensures
