-- `store::edits::searching::marks_of` meets its contract: one record gets its mark in a turn.
use Rattle.store.proofs.edits.Searches.{none_marked, one_small, one_marked, all_marked}
use Rattle.store.proofs.edits.searching.marks_of.Goals as goal

pub loop-k-init : goal.loop-k-init
loop-k-init c = none_marked _

pub bounds-marks-k : goal.bounds-marks-k
bounds-marks-k c = one_small c.loop-k.invariant c.requires c.loop-k-test.true

pub loop-k-preserved : goal.loop-k-preserved
loop-k-preserved c = one_marked c.loop-k.invariant c.requires c.loop-k-test.true

pub returns : goal.returns
returns c = all_marked c.loop-k.invariant c.loop-k-test.false
