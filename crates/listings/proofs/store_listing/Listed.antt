-- What list_store answers, and what the text then holds.
use Prim.Native.Nat.{ℕ, ◌<◌, ◌≤◌, ◌^◌}
use native.Mathlib.Omega.{arith}
use mathlib.Core.List.{List}
use mathlib.Core.Path.{◌≡◌, sym, ap}
use lib.ListN.{length, drop, length-append}
use lib.Ieee.{Float}
use Rattle.std.specs.Prelude.{Ok, Err}
use Rattle.section.specs.profile.Numbers.{refusal_number}
use Rattle.store.specs.Store.{vertices, store_answer, chained}
use Rattle.listings.specs.store_listing.Text.{text}
use Rattle.listings.specs.store_listing.Listing.{refusal_line, accepted_text, listing, list_answer, text_after, StoreListed, Prints}
use Rattle.listings.specs.store_listing.Steps.{Written}
use Rattle.store.specs.Answers.{StoreAnswer, Accepted, Refused}
use Rattle.store.specs.declared.answers.RefusedStore.{RefusedStore}
use Rattle.listings.specs.store_listing.Answers.{Bytes, NotListed}
use Rattle.listings.proofs.store_listing.Digits.{few_digits}
use Rattle.listings.proofs.store_listing.Largest.{every_listing_fits}
use Rattle.listings.proofs.store_listing.Writing.{front_written}

same_count : {m n : ℕ} → Bytes m ≡ Bytes n → m ≡ n
same_count e = cc

never : {m n k : ℕ} → Bytes m ≡ NotListed n k → ⊥
never e = let z : ◌≡◌ {A = ℕ} 0 1 = cc in omega arith

-- a refused store leaves the text as it was
pub not_listed :
    (b given : List ℕ) {e : RefusedStore} → store_answer b ≡ Refused (refusal_number e.refusal) e.at
    → StoreListed b given (Err e) given
not_listed b given e = record { answer = rw e; buffer = rw e }

module _
    (b : List ℕ) {ks : List ℕ} {s : List Float} (good : store_answer b ≡ Accepted) (order : ks ≡ chained b)
    (section : s ≡ vertices b ks)
  where
    pub listing_room : (given : List ℕ) → length given ≡ 28923 → length (accepted_text b s ks) ≤ length given
    listing_room given size = rw (section, order, size) (every_listing_fits b good)

    same_text : listing b ≡ accepted_text b s ks
    unfolding listing
    same_text = rw (good, section, order)

    pub listed :
        (given : List ℕ) {after : List ℕ} {r : ℕ} → length given ≡ 28923 → Written given 0 (accepted_text b s ks) after r
        → StoreListed b given (Ok r) after
    listed given size written =
        let printed = front_written written (listing_room given size) in
        record {
          answer = rw (same_text, good) (ap Bytes printed.count);
          buffer = rw (same_text, good) printed.front;
        }

-- the count of bytes lies within the text
pub front_within : {l given after : List ℕ} {n : ℕ} → Prints l given after n → n ≤ length after
front_within {l} {given} p = rw (p.front, p.count) (omega (arith, length-append l (drop (length l) given)))

-- what is printed: the listing, as list_store put it,
pub listed_front :
    (a : StoreAnswer) (l given : List ℕ) {after : List ℕ} {n : ℕ} → Bytes n ≡ list_answer a l → after ≡ text_after a l given
    → Prints l given after n
listed_front Accepted l given count e = record { count = same_count count; front = e }
listed_front (Refused k m) l given count e = absurd (never count)

turned :
    (a : StoreAnswer) (l given : List ℕ) {after : List ℕ} {n k : ℕ} → NotListed n k ≡ list_answer a l
    → after ≡ text_after a l given → (a ≡ Refused n k) × (after ≡ given)
turned Accepted l given same e = absurd (never (sym same))
turned (Refused m j) l given same e = (cc, e)

line_printed : (b : List ℕ) {n k : ℕ} → store_answer b ≡ Refused n k → listing b ≡ refusal_line n k
unfolding listing
line_printed b e = rw e

-- or the line of the refusal, on the text as it was
pub refused_front :
    (b given : List ℕ) {mid after : List ℕ} {n k r : ℕ} → NotListed n k ≡ list_answer (store_answer b) (listing b)
    → mid ≡ text_after (store_answer b) (listing b) given → length (refusal_line n k) ≤ length mid
    → Written mid 0 (refusal_line n k) after r
    → Prints (listing b) given after r
refused_front b given {mid} {after} {n} {k} same kept room written =
    let told = turned (store_answer b) (listing b) given same kept in
    rw (line_printed b told.0, ← told.1) (front_written written room)

-- the line of a refusal, whatever its numbers
pub refusal_short : (n k : ℕ) → n < 2 ^ 32 → k < 2 ^ 32 → length (refusal_line n k) ≤ 33
unfolding refusal_line text
refusal_short n k hn hk =
    simp length-append (omega (arith, few_digits 9 n (omega arith), few_digits 9 k (omega arith)))

pub line_room : {room : ℕ} (n k : ℕ) → n < 2 ^ 32 → k < 2 ^ 32 → room ≡ 28923 → length (refusal_line n k) ≤ room
line_room n k hn hk size = omega (arith, refusal_short n k hn hk)
