-- `store::edits::searching::lowest` meets its contract: the search goes on from m as it would from 0, by the marks.
use native.Mathlib.Nat.{sub-zero}
use native.Mathlib.Omega.{arith}
use mathlib.Core.Path.{◌≡◌, sym, ◌∙◌}
use Rattle.store.proofs.edits.Searches.{lowest_later, lowest_here, lowest_end}
use Rattle.store.proofs.edits.searching.lowest.Goals as goal

pub loop-m-init : goal.loop-m-init
loop-m-init c = (rw sub-zero, c.marks_of-marks.ensures)

pub loop-m-preserved : goal.loop-m-preserved
loop-m-preserved c =
    let now = c.loop-m.invariant in
    let marked = now.1.marked _ (omega (arith, c.loop-m-test.true, c.requires.1)) in
    (now.0 ∙ lowest_later _ _ _ c.loop-m-test.true (sym marked ∙ c.if-not-marks-m.false), now.1)

pub returns-then-not-marks-m : goal.returns-then-not-marks-m
returns-then-not-marks-m c =
    let now = c.loop-m.invariant in
    let marked = now.1.marked _ (omega (arith, c.loop-m-test.true, c.requires.1)) in
    sym (now.0 ∙ lowest_here _ _ _ c.loop-m-test.true (sym marked ∙ c.if-not-marks-m.true))

pub returns : goal.returns
returns c =
    let all : c.args.count ≡ c.loop-m.m = omega arith in
    all ∙ sym (c.loop-m.invariant.0 ∙ lowest_end _ _ _ c.loop-m-test.false)
