-- `capi::pair::pair_of` meets its contract: the body's own number, or the pair's answer.
use mathlib.Core.Path.{sym}
use Rattle.section.proofs.profile.Numbered.{handed_on}
use Rattle.capi.specs.Calls.{pair_of}
use Rattle.capi.proofs.lists.Taken.{seven_given}
use Rattle.capi.proofs.handing.Same.{own_refused, own_taken}
use Rattle.capi.proofs.pair.pair_of.Goals as goal

pub returns-in_err-one_body_refusal : goal.returns-in_err-one_body_refusal
unfolding pair_of
returns-in_err-one_body_refusal c =
    rw (handed_on c.from_residual.result c.from_residual.ensures) (own_refused _ _ c.in_err-one_body_refusal.ensures)

pub body_at-requires : goal.body_at-requires
body_at-requires c = seven_given c.args.kind c.args.numbers.now (sym c.in_ok-one_body_refusal.ensures)

pub returns : goal.returns
unfolding pair_of
returns c = own_taken c.in_ok-one_body_refusal.ensures (rw c.body_at.ensures at c.query_pair.ensures)
