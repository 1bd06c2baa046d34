-- `loads::printing::put_digits`. One byte has its two digits in a turn.
use mathlib.Core.List.{flat_map}
use mathlib.Core.Path.{◌≡◌}
use lib.ListN.{length, take}
use Rattle.listings.specs.store_listing.Text.{hex}
use Rattle.listings.specs.store_listing.Steps.{Written}
use Rattle.loads.proofs.printing.put_digits.Given as goal

abbrev pub invariant-loop-byte : goal.invariant-loop-byte
invariant-loop-byte l =
    (length l.text ≡ length l.initial.text)
    × Written l.initial.text 0 (flat_map (hex 2) (take l.byte-index l.bytes)) l.text l.at
