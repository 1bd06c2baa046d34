-- The line that the program prints: two digits a byte, room for each piece, and its length.
use Prim.Native.Nat.{ℕ, ◌+◌, ◌*◌, ◌<◌, ◌≤◌, ◌^◌}
use native.Mathlib.Nat.{zero-add}
use native.Mathlib.Omega.{arith}
use mathlib.Core.List.{List, [], ◌∷◌, flat_map}
use mathlib.Core.Path.{◌≡◌, refl}
use lib.ListN.{length, take, get_or, length-append}
use Rattle.listings.specs.store_listing.Text.{text, hex}
use Rattle.listings.specs.store_listing.Steps.{Written}
use Rattle.listings.proofs.store_listing.Digits.{length_hex, few_digits}
use Rattle.listings.proofs.store_listing.Pieces.{line_room}
use Rattle.loads.specs.Printed.{bytes_line, refused_line}

pub digits_room :
    (bytes : List ℕ) (i : ℕ) {before now : List ℕ} {at : ℕ} → i < length bytes
    → Written before 0 (flat_map (hex 2) (take i bytes)) now at → length (flat_map (hex 2) bytes) ≤ length before
    → at + 2 ≤ length now
digits_room bytes i more written room =
    omega (arith, length_hex 2 (get_or bytes i 0), line_room (hex 2) bytes i more written (rw zero-add room))

pub length_digits : (b : List ℕ) → length (flat_map (hex 2) b) ≡ length b * 2
unfolding flat_map
length_digits [] = refl
length_digits (x ∷ b) = omega (arith, length-append (hex 2 x) (flat_map (hex 2) b), length_hex 2 x, length_digits b)

pub length_bytes_line : (b : List ℕ) → length (bytes_line b) ≡ length b * 2 + 1
unfolding bytes_line text
length_bytes_line b = omega (arith, length-append (flat_map (hex 2) b) (10 ∷ []), length_digits b)

pub length_refused_line : (n : ℕ) → n < 2 ^ 32 → length (refused_line n) ≤ 19
unfolding refused_line text
length_refused_line n h = simp length-append (omega (arith, few_digits 9 n (omega arith)))
