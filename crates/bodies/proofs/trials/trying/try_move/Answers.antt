-- `bodies::trials::trying::try_move` meets its contract: a number before the placements, or a fold over the steps that the first
-- refused one leaves.
use native.Mathlib.Omega.{arith}
use mathlib.Core.Path.{refl, sym}
use Rattle.section.proofs.profile.Numbered.{above_zero, handed_on}
use Rattle.bodies.proofs.moves.Turns.{before_refused, start, ended, step_refused, step_fits, step_more}
use Rattle.bodies.proofs.trials.trying.try_move.Goals as goal

pub returns-in_err-before_placing : goal.returns-in_err-before_placing
returns-in_err-before_placing c =
    let a = c.args in
    rw (handed_on c.from_residual.result c.from_residual.ensures)
    (before_refused _ a.body a.clearance a.travel a.settings c.in_err-before_placing.ensures (above_zero _))

pub loop-i-init : goal.loop-i-init
loop-i-init c = start _ _ _ _ _ (sym c.in_ok-before_placing.ensures) c.untried-report.ensures

pub returns-in_err-hit : goal.returns-in_err-hit
returns-in_err-hit c =
    let r = c.from_residual-in_err-hit in
    rw (handed_on r.result r.ensures)
    (step_refused _ _ _ _ _ c.loop-i.invariant (omega arith) c.placed_at-there.ensures c.in_err-hit.ensures refl)

pub with_step-report-requires : goal.with_step-report-requires
with_step-report-requires c =
    step_fits _ _ _ _ _ c.loop-i.invariant (omega arith) c.placed_at-there.ensures c.in_ok-hit.ensures refl

pub loop-i-preserved : goal.loop-i-preserved
loop-i-preserved c =
    step_more _ _ _ _ _ c.loop-i.invariant (omega arith) c.placed_at-there.ensures c.in_ok-hit.ensures refl
    c.with_step-report.ensures

pub returns-in_ok-hit : goal.returns-in_ok-hit
returns-in_ok-hit c =
    ended _ _ _ _ _
    (step_more _ _ _ _ _ c.loop-i.invariant (omega arith) c.placed_at-there.ensures c.in_ok-hit.ensures refl
    c.with_step-report.ensures) (omega arith)
