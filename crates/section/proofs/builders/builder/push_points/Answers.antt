-- `section::builders::builder::push_points` meets its contract: after k points, run and space are those of what is kept of them.
use native.Mathlib.Omega.{arith}
use mathlib.Core.Path.{◌≡◌, refl}
use lib.Seq.{take-nil}
use Rattle.section.specs.profile.Vertices.{count, upto}
use Rattle.section.specs.builders.Builder.{kept_points, filled}
use Rattle.section.proofs.builders.Builders.Points.{count_most, same_long, run_turned, space_turned}
use Rattle.section.proofs.builders.builder.push_points.Goals as goal

pub loop-k-init : goal.loop-k-init
unfolding kept_points upto filled
loop-k-init c = (refl, rw (take-nil _))

pub push_dedup-run-requires : goal.push_dedup-run-requires
push_dedup-run-requires c =
    let most = count_most _ _ c.loop-k.invariant.0 in
    let same = same_long _ _ c.loop-k.invariant.0 _ _ c.requires.1 c.loop-k.invariant.1 in
    (omega arith, omega arith)

pub loop-k-preserved : goal.loop-k-preserved
loop-k-preserved c =
    let w = c.point_at.ensures in
    let pushed = c.push_dedup-run.ensures in (
      run_turned _ _ c.loop-k.invariant.0 w pushed.0,
      space_turned _ _ c.loop-k.invariant.0 _ _ c.requires.1 c.loop-k.invariant.1 w pushed.1,
    )

pub shape_of-space : goal.shape_of-space
shape_of-space c =
    same_long _ _ c.loop-k.invariant.0 _ _ c.requires.1 c.loop-k.invariant.1

pub returns : goal.returns
returns c =
    let end : c.loop-k.k ≡ count c.args.points.now = omega arith in
    (rw (← end) c.loop-k.invariant.0, rw (← end) c.loop-k.invariant.1)
