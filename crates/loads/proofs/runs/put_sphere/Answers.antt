-- `loads::runs::put_sphere`. Four steps, and the record of what they give.
use Rattle.loads.proofs.Putting.{sphere_drawn}
use Rattle.loads.proofs.runs.put_sphere.Goals as goal

pub returns : goal.returns
returns c =
    sphere_drawn _ _ _ c.xorshift-s.ensures c.xorshift-t.ensures c.xorshift-u.ensures
    c.xorshift-v.ensures c.sphere_next.ensures c.coordinate_bits.ensures
    c.coordinate_bits-2.ensures c.coordinate_bits-3.ensures c.radius_bits.ensures
    c.put_record.ensures
