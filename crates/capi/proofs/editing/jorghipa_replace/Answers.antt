-- `capi::editing::jorghipa_replace` meets its contract.
use Rattle.capi.proofs.editing.jorghipa_replace.Goals as goal

pub returns : goal.returns
returns c = c.edit_given.ensures
