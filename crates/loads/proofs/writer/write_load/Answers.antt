-- `loads::writer::write_load`. The refusal, or the load at the front of the space.
use mathlib.Core.Path.{sym}
use Rattle.section.proofs.profile.Numbered.{handed_on}
use Rattle.loads.proofs.Answered.{in_range, load_refused, load_answered}
use Rattle.loads.proofs.writer.write_load.Goals as goal

pub returns-in_err-load_refusal : goal.returns-in_err-load_refusal
returns-in_err-load_refusal c =
    rw (handed_on _ c.from_residual.ensures) (load_refused _ _ _ c.in_err-load_refusal.ensures)

pub put_load-requires : goal.put_load-requires
put_load-requires c = (in_range c.args.seed c.args.vertices (sym c.in_ok-load_refusal.ensures)).few

pub returns : goal.returns
returns c = load_answered _ _ _ c.in_ok-load_refusal.ensures c.put_load.ensures
