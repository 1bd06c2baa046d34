-- `store::chain::visit`. One store, and one read.
use mathlib.Core.Path.{refl}
use Rattle.store.proofs.chain.visit.Goals as goal

pub returns : goal.returns
returns c = record { marked = refl; read = c.next_of.ensures }
