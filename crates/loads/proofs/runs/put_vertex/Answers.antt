-- `loads::runs::put_vertex`. Two steps, and the record of what they give.
use Rattle.loads.proofs.Putting.{vertex_drawn}
use Rattle.loads.proofs.runs.put_vertex.Goals as goal

pub returns : goal.returns
returns c =
    vertex_drawn _ _ c.xorshift-s.ensures c.xorshift-t.ensures c.coordinate_bits.ensures
    c.radius_bits.ensures c.put_record.ensures
