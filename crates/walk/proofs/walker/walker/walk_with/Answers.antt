-- `walk::walker::walker::walk_with`. The locals are a state of the definition's walk, from start to end.
use native.Mathlib.Omega.{arith}
use mathlib.Core.Path.{◌≡◌, refl, sym, ap, ◌∙◌}
use lib.ListN.{length}
use Rattle.walk.specs.pieces.Steps.{pieces}
use Rattle.walk.specs.declared.pieces.shapes.Part.{Part}
use Rattle.std.proofs.lemmas.List.{length-map}
use Rattle.walk.proofs.pieces.KnownEnds.{next_half, next_below}
use Rattle.walk.proofs.Loop.{begun, ended, cut_short, has_box, has_room, turned}
use Rattle.walk.proofs.walker.walker.walk_with.Goals.{then-halved, else-halved}
use Rattle.walk.proofs.walker.walker.walk_with.Goals as goal

pub loop-part-init : goal.loop-part-init
loop-part-init c =
    rw (c.push.ensures, c.new-waiting.ensures, c.whole-whole.ensures)
    (record {
      state = begun c.start-so_far.ensures c.sampled.ensures;
      known = (rw (c.cross_at-right.ensures, c.whole-whole.ensures), (refl, tt));
    })

pub returns-then-so_far-cap : goal.returns-then-so_far-cap
returns-then-so_far-cap c =
    c.cut_off.ensures
    ∙ cut_short c.loop-part.invariant.state (ap pieces c.in-Some.ensures) c.if-so_far-cap.true

pub push_halves-requires : goal.push_halves-requires
push_halves-requires c =
    let state = c.loop-part.invariant.state in
    let left = has_box state c.if-so_far-cap.false in
    let room = has_room state (ap pieces c.in-Some.ensures) left c.measure-m.ensures c.halved.ensures c.requires.room c.if-halved.true in
    omega (arith, length-map c.pop.new.self (λ (p : Part). p.piece), room)

pub loop-part-preserved : goal.loop-part-preserved
loop-part-preserved c =
    let state = c.loop-part.invariant.state in
    let known = rw c.in-Some.ensures at c.loop-part.invariant.known in
    let left = has_box state c.if-so_far-cap.false in
    let count : c.len.result ≡ length (pieces c.if-halved.waiting) = c.len.ensures ∙ sym (length-map _ _) in
    rw c.count.ensures
    (elim c.if-halved.branch [
      | then-halved w ↦
          let next = w.waiting-is ∙ w.push_halves.ensures in
          record {
            state = turned state (ap pieces c.in-Some.ensures) left c.measure-m.ensures
                (sym w.if-halved.true ∙ c.halved.ensures) (ap pieces next) count;
            known = rw (next, w.right-is) (next_half _ _ _ known);
          }
      | else-halved w ↦
          record {
            state = turned state (ap pieces c.in-Some.ensures) left c.measure-m.ensures
                (sym w.if-halved.false ∙ c.halved.ensures) (ap pieces w.waiting-is) count;
            known = rw (w.waiting-is, w.right-is) (next_below _ _ _ known);
          }
    ])

pub returns : goal.returns
returns c = c.uncut.ensures ∙ ended c.loop-part.invariant.state (ap pieces c.in_default.ensures)
