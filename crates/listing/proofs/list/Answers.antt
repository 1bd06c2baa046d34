-- `listing::list` writes the listing of all that it read.
use Prim.Native.Nat.{ℕ}
use mathlib.Core.List.{List}
use mathlib.Core.Path.{◌≡◌, ap, ◌∙◌}
use lib.ListN.{length, take}
use Rattle.std.proofs.Common.{rules}
use Rattle.listings.specs.store_listing.Listing.{listing, input_listing}
use Rattle.listings.proofs.store_listing.Inputs.{input_listed}
use Rattle.input.proofs.Whole.{whole_written}
use Rattle.listing.proofs.list.Goals as goal

same : (after store : List ℕ) → length after ≡ 20480 → take 20480 store ≡ take (length store) after
    → input_listing (length store) after ≡ listing store
same after store room e = input_listed store after room (ap (λ (k : ℕ). take k store) room ∙ e)

pub returns : goal.returns
returns g c =
    whole_written 20480 input_listing listing same _ _ _ _ _ _ _ _ _ _ _ (search rules) (search rules) c.in_ok-length.ensures.ok
    c.in_ok-length.ensures.whole c.list_input-n.ensures c.write_all.ensures.bytes
