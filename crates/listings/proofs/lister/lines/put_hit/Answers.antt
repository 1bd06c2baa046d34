-- `listings::lister::lines::put_hit`. Three fields of 17 bytes and the edge, one behind the other.
use native.Mathlib.Omega.{arith}
use Rattle.listings.specs.store_listing.Listing.{hit_text}
use Rattle.listings.proofs.store_listing.Pieces.{length_edge, length_field, length_hit}
use Rattle.listings.proofs.store_listing.Writing.{then}
use Rattle.listings.proofs.lister.lines.put_hit.Goals as goal

pub put_field-a-requires : goal.put_field-a-requires
put_field-a-requires c =
    let hit = c.args.hit in
    omega (arith, length_hit hit, c.requires)

pub put_field-b-requires : goal.put_field-b-requires
put_field-b-requires c =
    let hit = c.args.hit in
    omega (arith, length_hit hit, length_field hit.distance, c.requires)

pub put_field-c-requires : goal.put_field-c-requires
put_field-c-requires c =
    let hit = c.args.hit in
    let room = c.requires in
    omega (arith, length_hit hit, length_field hit.distance, length_field hit.witness.z, room)

pub put_edge-requires : goal.put_edge-requires
put_edge-requires c =
    let hit = c.args.hit in
    omega (
      arith,
      length_hit hit,
      length_edge hit.witness.edge,
      length_field hit.distance,
      length_field hit.witness.z,
      length_field hit.witness.r,
      c.requires,
    )

pub returns : goal.returns
unfolding hit_text
returns c =
    then (then (then c.put_field-a.ensures c.put_field-b.ensures) c.put_field-c.ensures) c.put_edge.ensures
