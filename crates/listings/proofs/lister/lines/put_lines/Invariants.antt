-- `listings::lister::lines::put_lines`. One record has its line in a turn.
use mathlib.Core.List.{flat_map}
use mathlib.Core.Path.{◌≡◌}
use lib.ListN.{length, take}
use Rattle.listings.specs.store_listing.Listing.{record_line}
use Rattle.listings.specs.store_listing.Steps.{Written}
use Rattle.listings.proofs.lister.lines.put_lines.Given as goal

abbrev pub invariant-loop-k : goal.invariant-loop-k
invariant-loop-k l =
    (length l.text ≡ length l.initial.text)
    × Written l.initial.text l.from (flat_map (record_line l.store l.s) (take l.k-index l.order)) l.text l.at
