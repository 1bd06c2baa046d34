-- An input that went into a buffer as far as it reaches is listed as the whole input: its length decides, or all of it is
-- there.
use Prim.Native.Nat.{ℕ, ◌≤◌}
use native.Mathlib.Omega.{arith}
use mathlib.Core.List.{List}
use mathlib.Core.Path.{◌≡◌, refl, sym, ap, ◌∙◌}
use lib.ListN.{length, take}
use lib.Seq.{take_all}
use Rattle.store.specs.Store.{and_then, length_answer, store_answer}
use Rattle.store.specs.Answers.{StoreAnswer, Accepted, Refused}
use Rattle.store.proofs.Reading.{length_accepted}
use Rattle.listings.specs.store_listing.Listing.{listing_of, listing, input_listing}

-- a length that is not refused is at most 20,480
pub length_fits : (n : ℕ) → length_answer n ≡ Accepted → n ≤ 20480
length_fits n e = let h = length_accepted n e in omega (arith, h.even, h.most)

pub input_listed :
    (b buffer : List ℕ) → length buffer ≡ 20480 → take (length buffer) b ≡ take (length b) buffer
    → input_listing (length b) buffer ≡ listing b
unfolding input_listing listing store_answer
input_listed b buffer room front = go (length_answer (length b)) refl
  where
    go :
        (a : StoreAnswer) → length_answer (length b) ≡ a
        → listing_of (take (length b) buffer) (and_then a (store_answer (take (length b) buffer))) ≡ listing_of b (store_answer b)
    go Accepted e =
        let same = sym front ∙ take_all (length buffer) b (omega (arith, room, length_fits (length b) e)) in
        ap (λ (l : List ℕ). listing_of l (store_answer l)) same
    go (Refused n k) e = rw e
