-- `loads::writer::put_load`. Record 0, the vertices, the spheres, one behind the other.
use borrow.Author.Rules.{rules}
use Rattle.loads.proofs.Putting.{load_put}
use Rattle.loads.proofs.writer.put_load.Goals as goal

pub returns : goal.returns
returns c =
    load_put _ _ c.requires (search rules) c.put_record.ensures c.put_vertices-state.ensures
    c.put_spheres.ensures
