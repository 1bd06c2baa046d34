-- `store::reader::vertices::gather`. The vertices of one record are put in a turn.
use Rattle.store.proofs.Gathering.{Gathered}
use Rattle.store.proofs.reader.vertices.gather.Given as goal

abbrev pub invariant-loop-k : goal.invariant-loop-k
invariant-loop-k l = Gathered l.store l.order l.space l.n l.k-index
