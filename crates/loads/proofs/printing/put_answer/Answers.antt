-- `loads::printing::put_answer`. The line of the bytes, or of the refusal.
use native.Mathlib.Omega.{arith}
use mathlib.Core.Path.{ap, sym, ◌∙◌}
use lib.ListN.{length-take}
use Rattle.section.specs.profile.Replies.{turned_down}
use Rattle.loads.proofs.Answered.{front_of_lem, refused_of, bytes_printed, refusal_room, refusal_printed}
use borrow.Author.Rules.{rules}
use Rattle.loads.proofs.printing.put_answer.Goals as goal

pub slice_bounds-space-end : goal.slice_bounds-space-end
slice_bounds-space-end c = omega (arith, (front_of_lem _ _ _ c.write_load.ensures c.in-Ok.is).within)

pub slice_bounds-put_bytes_line-end : goal.slice_bounds-put_bytes_line-end
slice_bounds-put_bytes_line-end c =
    simp length-take (omega (arith, (front_of_lem _ _ _ c.write_load.ensures c.in-Ok.is).within))

pub put_bytes_line-requires : goal.put_bytes_line-requires
put_bytes_line-requires c = omega (arith, (front_of_lem _ _ _ c.write_load.ensures c.in-Ok.is).room)

pub put_refused_line-requires : goal.put_refused_line-requires
put_refused_line-requires c = refusal_room _ (search rules) (search rules)

pub returns-in-Ok : goal.returns-in-Ok
returns-in-Ok c =
    bytes_printed _ _ (front_of_lem _ _ _ c.write_load.ensures c.in-Ok.is) (search rules) c.put_bytes_line.ensures

pub returns-in-Err : goal.returns-in-Err
returns-in-Err c =
    refusal_printed _ _ _ (refused_of _ _ _ c.write_load.ensures c.in-Err.is ∙ ap turned_down (sym c.number.ensures))
    (search rules) (search rules) c.put_refused_line.ensures
