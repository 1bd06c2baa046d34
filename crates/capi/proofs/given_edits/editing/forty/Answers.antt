-- `capi::given_edits::editing::forty` meets its contract: a list over all of the array.
use mathlib.Core.Path.{sym}
use Rattle.store.proofs.edits.Trials.{copied}
use Rattle.capi.proofs.given_edits.editing.forty.Goals as goal

pub returns : goal.returns
returns c = copied c.put.ensures (sym c.requires)
