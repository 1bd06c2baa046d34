-- `bodies::pairs::pairs::query_pair_convex` meets its contract: the first number in the order, or the nearer of two values, since
-- both queries pass.
use mathlib.Core.Path.{ap, sym}
use Rattle.section.specs.profile.Refusals.{list_tests}
use Rattle.section.specs.profile.Replies.{value}
use Rattle.section.specs.Answers.{convex_answer}
use Rattle.section.specs.Demand.{Bounded}
use Rattle.section.proofs.profile.Numbered.{handed_on}
use Rattle.section.proofs.profile.Replies.{refused_answer}
use Rattle.bodies.specs.pairs.Pairs.{pair_convex_answer}
use Rattle.bodies.proofs.pairs.Together.{all_taken, both_then_own, convex_passes, counts_none, together, turns_down}
use Rattle.bodies.proofs.pairs.pairs.query_pair_convex.Goals as goal

pub returns-in_err-pair_refusal : goal.returns-in_err-pair_refusal
unfolding pair_convex_answer
returns-in_err-pair_refusal c =
    let r = c.from_residual in
    rw (handed_on r.result r.ensures)
    (record {
      equal = refused_answer _ _ (both_then_own _ _ (list_tests 3 256 _) c.in_err-pair_refusal.ensures c.list_refusal.ensures);
      owed = tt;
    })

pub returns-in_err-of_chuck : goal.returns-in_err-of_chuck
unfolding convex_answer
returns-in_err-of_chuck c =
    let z = sym (both_then_own _ _ (list_tests 3 256 _) c.in_ok-pair_refusal.ensures c.list_refusal.ensures) in
    let t = all_taken _ _ (list_tests 3 256 _) tt z in
    turns_down _ _ c.in_err-of_chuck.ensures.equal (convex_passes _ _ t.chuck_taken t.own_taken)

pub returns-in_err-of_work : goal.returns-in_err-of_work
unfolding convex_answer
returns-in_err-of_work c =
    let z = sym (both_then_own _ _ (list_tests 3 256 _) c.in_ok-pair_refusal.ensures c.list_refusal.ensures) in
    let t = all_taken _ _ (list_tests 3 256 _) tt z in
    turns_down _ _ c.in_err-of_work.ensures.equal (convex_passes _ _ t.work_taken t.own_taken)

pub returns : goal.returns
unfolding pair_convex_answer
returns c =
    together (λ s h. Bounded s h.hit) _ _ _ _ _ _ _
    (counts_none _ _ c.in_ok-of_chuck.ensures (ap value c.boxes_only.ensures))
    (counts_none _ _ c.in_ok-of_work.ensures (ap value c.boxes_only-2.ensures)) c.nearer.ensures
    (sym (both_then_own _ _ (list_tests 3 256 _) c.in_ok-pair_refusal.ensures c.list_refusal.ensures))
