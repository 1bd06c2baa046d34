-- `store::reader::reader::read_chain`. A right length leaves it to the links.
use mathlib.Core.Path.{sym}
use Rattle.store.specs.Store.{chained}
use Rattle.store.proofs.Handed.{handed_on}
use Rattle.store.proofs.Filling.{fills_sooner, fills_later}
use Rattle.store.proofs.Reading.{length_accepted}
use Rattle.store.proofs.reader.reader.read_chain.Goals as goal

pub returns-in_err-length_answer : goal.returns-in_err-length_answer
returns-in_err-length_answer c = rw (handed_on _ c.from_residual.ensures) (fills_sooner _ (sym c.in_err-length_answer.ensures))

pub follow_chain-requires : goal.follow_chain-requires
follow_chain-requires c =
    let h = length_accepted _ (sym c.in_ok-length_answer.ensures) in
    record { room = c.requires; some = h.some; most = h.most }

pub returns : goal.returns
unfolding chained
returns c = fills_later _ (sym c.in_ok-length_answer.ensures) c.follow_chain.ensures
