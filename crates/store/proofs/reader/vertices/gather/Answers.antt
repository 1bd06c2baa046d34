-- `store::reader::vertices::gather`. The vertices of one record are put in a turn.
use Rattle.store.proofs.Gathering.{gathers, none_gathered, all_gathered}
use Rattle.store.proofs.reader.vertices.gather.Goals as goal

pub loop-k-init : goal.loop-k-init
loop-k-init c = none_gathered _ c.requires

pub loop-k-preserved : goal.loop-k-preserved
loop-k-preserved c = gathers c.loop-k.invariant c.loop-k-test.true c.add_vertex-n.ensures

pub returns : goal.returns
returns c = all_gathered c.loop-k.invariant c.loop-k-test.false
