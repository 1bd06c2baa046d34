-- `bodies::pairs::pairs::query_pair` meets its contract: the first number in the order, or the nearer of two values, since both
-- queries pass.
use mathlib.Core.Path.{sym}
use Rattle.section.proofs.profile.Numbered.{handed_on}
use Rattle.section.proofs.profile.Replies.{refused_answer}
use Rattle.walk.specs.settings.Settings.{finest}
use Rattle.bodies.specs.Bodies.{alone_tests, body_answer, BodyPromised}
use Rattle.bodies.specs.pairs.Pairs.{pair_answer}
use Rattle.bodies.proofs.Alone.{alone_numbered}
use Rattle.bodies.proofs.pairs.Together.{all_taken, body_passes, both_then_own, together, turns_down}
use Rattle.bodies.proofs.pairs.pairs.query_pair.Goals as goal

pub returns-in_err-pair_refusal : goal.returns-in_err-pair_refusal
unfolding pair_answer
returns-in_err-pair_refusal c =
    let r = c.from_residual in
    rw (handed_on r.result r.ensures)
    (record {
      equal = refused_answer _ _ (both_then_own _ _ (alone_tests _) c.in_err-pair_refusal.ensures c.body_alone.ensures);
      owed = tt;
    })

pub returns-in_err-of_chuck : goal.returns-in_err-of_chuck
unfolding body_answer
returns-in_err-of_chuck c =
    let body = c.args.body in
    let z = sym (both_then_own _ _ (alone_tests body) c.in_ok-pair_refusal.ensures c.body_alone.ensures) in
    let t = all_taken _ _ (alone_tests body) (alone_numbered body) z in
    turns_down _ _ (rw c.finest-settings.ensures at c.in_err-of_chuck.ensures.equal) (body_passes _ body t.chuck_taken t.own_taken)

pub returns-in_err-of_work : goal.returns-in_err-of_work
unfolding body_answer
returns-in_err-of_work c =
    let body = c.args.body in
    let z = sym (both_then_own _ _ (alone_tests body) c.in_ok-pair_refusal.ensures c.body_alone.ensures) in
    let t = all_taken _ _ (alone_tests body) (alone_numbered body) z in
    turns_down _ _ (rw c.finest-settings.ensures at c.in_err-of_work.ensures.equal) (body_passes _ body t.work_taken t.own_taken)

pub returns : goal.returns
unfolding pair_answer body_answer
returns c =
    let body = c.args.body in
    together (λ s h. BodyPromised s body finest h) _ _ _ _ _ _ _
    (rw c.finest-settings.ensures at c.in_ok-of_chuck.ensures)
    (rw c.finest-settings.ensures at c.in_ok-of_work.ensures) c.nearer.ensures
    (sym (both_then_own _ _ (alone_tests body) c.in_ok-pair_refusal.ensures c.body_alone.ensures))
