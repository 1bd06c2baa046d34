-- `store::edits::searching::marks_of` meets its contract: one record gets its mark in a turn.
use Rattle.store.proofs.edits.Searches.{MarkedTo}
use Rattle.store.proofs.edits.searching.marks_of.Given as goal

abbrev pub invariant-loop-k : goal.invariant-loop-k
invariant-loop-k l = MarkedTo l.order l.k-index l.marks
