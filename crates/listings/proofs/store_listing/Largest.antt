-- Every listing fits: the largest has 500 bodies beside 11 vertices, these with the shortest indices, and edge 10 in every line,
-- 28,923 bytes in all. A body's line has at most 53 bytes, its index and its edge, which is below the vertex count. An index is
-- counted with two digits at least, which makes 9 bytes too many; a vertex takes away at least the shortest such line.
use Prim.Native.Nat.{ℕ, zero, suc, ◌+◌, ◌*◌, ◌<◌, ◌≤◌, max}
use native.Mathlib.Omega.{arith}
use mathlib.Core.Bool.{Bool, true, false, not, ◌||◌, cond}
use mathlib.Core.List.{List, [], ◌∷◌, ◌++◌, flat_map}
use mathlib.Core.Logic.{◌⊎◌, inl, inr}
use mathlib.Core.Path.{◌≡◌, refl}
use lib.ListN.{length, length-append}
use lib.Dec.{eqb}
use lib.Ieee.{Float}
use borrow.Author.Tests.{eqb-true}
use Rattle.section.specs.profile.Vertices.{count}
use Rattle.section.specs.profile.Refusals.{sphere_tests, box_tests}
use Rattle.section.specs.profile.Replies.{reply}
use Rattle.section.proofs.profile.Refusals.Ordered.{refusal_most}
use Rattle.section.proofs.profile.Refusals.Passed.{Counted}
use Rattle.section.specs.Answers.{sphere_answer, box_answer}
use Rattle.section.proofs.Demand.Queries.{sphere_bounded, box_bounded}
use Rattle.section.specs.declared.profile.shapes.CollisionHit.{CollisionHit}
use Rattle.arith.proofs.roots.Numbers.{decide}
use Rattle.store.specs.Records.{kind, number}
use Rattle.store.specs.First.{first_refused}
use Rattle.store.specs.Kinds.{is_sphere, right_kind, kinds_answer}
use Rattle.store.specs.Store.{vertex_numbers, vertices, store_answer, chained}
use Rattle.listings.specs.store_listing.Text.{text, decimal_at_most, decimal}
use Rattle.listings.specs.store_listing.Listing.{sphere_at, box_at, body_answer, answer_text, body_line, record_line}
use Rattle.listings.specs.store_listing.Listing.{section_line, accepted_text}
use Rattle.store.specs.Answers.{StoreAnswer, Accepted, Refused}
use Rattle.listings.proofs.store_listing.Digits.{few_digits}
use Rattle.listings.proofs.store_listing.Pieces.{length_hit}
use Rattle.store.proofs.Reading.{accepted_sound, section_accepted}
use Rattle.store.proofs.Sums.{sum_over, sum_below, chain_sum}

-- ---- a body's line: its number is at most 10, its answer at most 52 bytes and the digits of its edge
answer_size : (d n : ℕ) (h : CollisionHit) → n ≤ 10 → (n ≡ 0 → length (decimal h.witness.edge) ≤ d)
    → length (answer_text (reply n h)) ≤ 52 + d
unfolding text
answer_size d zero h small digits = omega (arith, length_hit h, digits refl)
answer_size d (suc n) h small digits =
    omega (arith, few_digits 1 (suc n) (omega arith), length-append (text " refused ") (decimal (suc n)))

-- the edges of the section have at most d digits
module _ (b : List ℕ) (s : List Float) (d : ℕ) (short : (e : ℕ) → e < count s → length (decimal e) ≤ d) where
  body_answer_size : (k : ℕ) → length (answer_text (body_answer b s k)) ≤ 52 + d
  unfolding body_answer sphere_answer box_answer
  body_answer_size k = go (is_sphere b k)
    where
      go : (sphere : Bool)
          → length (answer_text (cond sphere (sphere_answer s (sphere_at b k)) (box_answer s (box_at b k)))) ≤ 52 + d
      go true =
          answer_size d _ _ (refusal_most 10 (sphere_tests s (sphere_at b k) [] []) tt)
          (λ e. short _ (sphere_bounded s [] [] (sphere_at b k) tt e).edge)
      go false =
          answer_size d _ _ (refusal_most 10 (box_tests s (box_at b k) [] []) tt)
          (λ e. short _ (box_bounded s [] [] (box_at b k) tt e).edge)

  line_size : (k : ℕ) → length (body_line b s k) ≤ 53 + d + length (decimal k)
  unfolding body_line text
  line_size k =
      omega (
        arith,
        body_answer_size k,
        length-append (decimal k) (answer_text (body_answer b s k)),
        length-append (decimal k ++ answer_text (body_answer b s k)) (text "\n"),
      )

-- ---- what a record may cost: nothing for record 0, a body's line for any other, t bytes and two digits of its index at least
abbrev weight : ℕ → ℕ → ℕ
weight t k = cond (eqb k 0) 0 (t + max 2 (length (decimal k)))

-- if all 511 were bodies
abbrev AllBodies : ℕ → Type 0
AllBodies t = sum_below (weight t) 512 ≡ 511 * t + 1434

all_bodies : AllBodies 54 × AllBodies 55 × AllBodies 56
unfolding sum_below decimal decimal_at_most
all_bodies = (refl, refl, refl)

-- by the kind d of record k, whose line would be `line` and whose index counts as w digits
module _ (t d : ℕ) (line : List ℕ) (z r : Float) (w : ℕ) (short : length line ≤ t + w) (some : 2 ≤ w) where
  abbrev cost : ℕ
  cost = length (cond (eqb d 2 || eqb d 3) line []) * 2 + length (cond (eqb d 1) (z ∷ r ∷ []) []) * (t + 2)

  other_cost : (vertex : Bool) → eqb d 1 ≡ vertex → (vertex || (eqb d 2 || eqb d 3)) ≡ true → cost ≤ (t + w) * 2
  other_cost true e right = rw (eqb-true d 1 e) (omega arith)
  other_cost false e right = rw (e, right) (omega arith)

  kind_cost :
      (zeroth : Bool) → cond zeroth (eqb d 0) (eqb d 1 || (eqb d 2 || eqb d 3)) ≡ true → cost ≤ cond zeroth 0 (t + w) * 2
  kind_cost true right = rw (eqb-true d 0 right) (omega arith)
  kind_cost false right = other_cost (eqb d 1) refl right

kept : (k : ℕ) (right : Bool) (a : StoreAnswer) → cond (not right) (Refused 14 k) a ≡ Accepted → (right ≡ true) × (a ≡ Accepted)
kept k true a e = (refl, e)
kept k false a e = absurd (let z : ◌≡◌ {A = ℕ} 0 1 = cc in omega arith)

-- every line has at most t bytes and its index
module _ (b : List ℕ) (s : List Float) (t : ℕ) (lines : (k : ℕ) → length (body_line b s k) ≤ t + length (decimal k)) where
  record_cost :
      (k : ℕ) → right_kind b k ≡ true
      → length (record_line b s k) * 2 + length (vertex_numbers b k) * (t + 2) ≤ weight t k * 2
  unfolding right_kind
  record_cost k right =
      kind_cost t (kind b k) (body_line b s k) (number b k 0) (number b k 1) (max 2 (length (decimal k)))
      (omega (arith, lines k)) (omega arith) (eqb k 0) right

  records_cost :
      (ks : List ℕ) → kinds_answer b ks ≡ Accepted
      → length (flat_map (record_line b s) ks) * 2 + length (vertices b ks) * (t + 2) ≤ sum_over (weight t) ks * 2
  unfolding first_refused flat_map vertices
  records_cost [] right = omega arith
  records_cost (k ∷ ks) right =
      let h = kept k (right_kind b k) (kinds_answer b ks) right in
      rw (
        length-append (record_line b s k) (flat_map (record_line b s) ks),
        length-append (vertex_numbers b k) (flat_map (vertex_numbers b) ks),
      )
      (omega (arith, record_cost k h.0, records_cost ks h.1))

section_size : (s : List Float) → length (section_line s) ≡ 9 + length (decimal (count s))
unfolding section_line text
section_size s =
    omega (
      arith,
      length-append (text "section ") (decimal (count s)),
      length-append (text "section " ++ decimal (count s)) (text "\n"),
    )

module _ (b : List ℕ) (good : store_answer b ≡ Accepted) where
  abbrev section : List Float
  section = vertices b (chained b)

  abbrev size : ℕ
  size = length (accepted_text b section (chained b))

  -- where the edges have at most d digits
  listing_size : (d : ℕ) → AllBodies (53 + d) → ((e : ℕ) → e < count section → length (decimal e) ≤ d)
      → size * 2 + length section * (53 + d + 2) ≤ (9 + length (decimal (count section)) + 511 * (53 + d) + 1434) * 2
  unfolding accepted_text
  listing_size d all short =
      let sound = accepted_sound b good in
      omega (
        arith,
        length-append (section_line section) (flat_map (record_line b section) (chained b)),
        section_size section,
        records_cost b section (53 + d) (line_size b section d short) (chained b) sound.kinds,
        chain_sum (weight (53 + d)) b (chained b) 512 sound.links sound.some sound.most,
        all,
      )

  pub every_listing_fits : size ≤ 28923
  every_listing_fits = by (decide 11 n) (decide 100 n)
    where
      n : ℕ
      n = count section

      counted : Counted 3 256 section
      counted = section_accepted section (accepted_sound b good).section

      by : (11 ≤ n) ⊎ (n < 11) → (100 ≤ n) ⊎ (n < 100) → size ≤ 28923
      by h (inl hundred) =
          let most = counted.few in
          omega (arith, few_digits 2 n (omega arith), listing_size 3 all_bodies.2 (λ e l. few_digits 2 e (omega arith)))
      by (inl eleven) (inr less) =
          omega (arith, few_digits 1 n (omega arith), listing_size 2 all_bodies.1 (λ e l. few_digits 1 e (omega arith)))
      by (inr less) (inr h) =
          let least = counted.enough in
          omega (arith, few_digits 1 n (omega arith), listing_size 1 all_bodies.0 (λ e l. few_digits 0 e (omega arith)))
