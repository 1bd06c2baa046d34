-- `loads::fields::put_record`. Six fields, one behind the other.
use mathlib.Core.Path.{refl, ap, ◌∙◌}
use Rattle.store.specs.Bytes.{low_bytes}
use Rattle.store.specs.Records.{record_bytes}
use Rattle.store.proofs.LowFirst.{four_written, eight_written}
use Rattle.loads.proofs.Putting.{put_as, behind}
use Rattle.loads.proofs.fields.put_record.Goals as goal

pub returns : goal.returns
unfolding record_bytes low_bytes
returns c =
    let next = put_as (c.to_le_bytes.ensures ∙ four_written _) c.put.ensures in
    let kind = put_as (c.to_le_bytes-2.ensures ∙ four_written _ ∙ ap (low_bytes 4) c.number.ensures) c.put-2.ensures in
    let a = put_as (c.to_le_bytes-3.ensures ∙ eight_written _) c.put-3.ensures in
    let b = put_as (c.to_le_bytes-4.ensures ∙ eight_written _) c.put-4.ensures in
    let c' = put_as (c.to_le_bytes-5.ensures ∙ eight_written _) c.put-5.ensures in
    let d = put_as (c.to_le_bytes-6.ensures ∙ eight_written _) c.put-6.ensures in
    behind (behind (behind (behind (behind next refl kind) refl a) refl b) refl c') refl d
