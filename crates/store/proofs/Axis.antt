-- Number 6 of a store: K is the first chained vertex with a radius below -1e-9, and a store has 6 where its section has, and
-- only there. By induction over the records.
use Prim.Native.Nat.{ℕ, zero, suc, ◌+◌, ◌*◌, ◌/◌, ◌%◌, ◌≤◌}
use native.Mathlib.Omega.{arith}
use mathlib.Core.Bool.{Bool, true, false, ◌&&◌, ◌||◌, cond, or-false, or_assoc}
use mathlib.Core.List.{List, [], ◌∷◌, ◌++◌, flat_map}
use mathlib.Core.Path.{◌≡◌, refl, sym, ap, ◌∙◌}
use lib.ListN.{length, get_or}
use lib.Dec.{eqb, ltb}
use lib.Ieee.{Float, neg, nan}
use borrow.Author.Tests.{ne_eqb}
use Rattle.arith.specs.F64.{◌≺◌, e_9}
use Rattle.section.specs.profile.Vertices.{count, vertex_at, any}
use Rattle.section.specs.profile.Refusals.{refusal, any_below_axis}
use Rattle.section.proofs.profile.Each.{All, nil, cons}
use Rattle.store.specs.Records.{number}
use Rattle.store.specs.First.{first_refused}
use Rattle.store.specs.Chain.{chain}
use Rattle.store.specs.Kinds.{is_vertex, kinds_answer}
use Rattle.store.specs.Radii.{below_axis, radii_answer}
use Rattle.store.specs.Store.{and_then, numbered, length_answer, links_answer, vertices, section_answer, chained, store_answer}
use Rattle.store.specs.Answers.{StoreAnswer, Accepted, Refused}
use Rattle.store.proofs.Numbers.{refused_by, links_other, first_other, section_other, second_alone}
use Rattle.store.proofs.Reading.{accepted_sound}

never : {n k : ℕ} → Accepted ≡ Refused n k → ⊥
never e = let z : ◌≡◌ {A = ℕ} 0 1 = cc in omega arith

same_number : {n k m j : ℕ} → Refused n k ≡ Refused m j → m ≡ n
same_number e = cc

same_record : {n k m j : ℕ} → Refused n k ≡ Refused m j → k ≡ j
same_record e = cc

-- ---- K

-- k is the first of the records ks of which the test is true
pub record FirstOf (test : ℕ → Bool) (ks : List ℕ) (k : ℕ) : Type 0 where
  pub before : List ℕ
  pub after : List ℕ
  pub order : ks ≡ before ++ (k ∷ after)
  pub found : test k ≡ true
  pub earlier : All (λ (j : ℕ). test j ≡ false) before

module _ (n : ℕ) (test : ℕ → Bool) where
  pub first_named : (ks : List ℕ) {m k : ℕ} → first_refused n test ks ≡ Refused m k → (m ≡ n) × FirstOf test ks k
  unfolding first_refused
  first_named [] e = absurd (never e)
  first_named (j ∷ ks) {m} {k} e = go (test j) refl e (first_named ks)
    where
      go :
          (found : Bool) → test j ≡ found → cond found (Refused n j) (first_refused n test ks) ≡ Refused m k
          → (first_refused n test ks ≡ Refused m k → (m ≡ n) × FirstOf test ks k) → (m ≡ n) × FirstOf test (j ∷ ks) k
      go true t h rest =
          let same = same_record h in
          (same_number h, record { before = []; after = ks; order = rw same; found = rw (← same) t; earlier = nil })
      go false t h rest =
          let later = rest h in
          let first = later.1 in (
            later.0,
            record {
              before = j ∷ first.before;
              after = first.after;
              order = ap (λ (l : List ℕ). j ∷ l) first.order;
              found = first.found;
              earlier = cons t first.earlier;
            },
          )

  skipped : (before after : List ℕ) (k : ℕ) → All (λ (j : ℕ). test j ≡ false) before → test k ≡ true
      → first_refused n test (before ++ (k ∷ after)) ≡ Refused n k
  unfolding first_refused
  skipped [] after k nil t = rw t
  skipped (j ∷ before) after k (cons p h) t = rw p (skipped before after k h t)

  pub named_first : {ks : List ℕ} {k : ℕ} → FirstOf test ks k → first_refused n test ks ≡ Refused n k
  named_first {ks} {k} f = rw f.order (skipped f.before f.after k f.earlier f.found)

-- ---- 6 is the number of the radii alone
abbrev six : ℕ → Bool
six n = eqb n 6

length_other : (n : ℕ) → refused_by six (length_answer n) ≡ false
unfolding length_answer refusal
length_other n = go (ltb 0 (n % 40)) (eqb n 0) (ltb 512 (n / 40))
  where
    go : (rest none more : Bool) → refused_by six (numbered (cond rest 12 (cond none 15 (cond more 16 0)))) ≡ false
    go true none more = refl
    go false true more = refl
    go false false true = refl
    go false false false = refl

skip : (a c : StoreAnswer) {k : ℕ} → refused_by six a ≡ false → and_then a c ≡ Refused 6 k → c ≡ Refused 6 k
skip a c p e = sym (second_alone six a c p (ap (refused_by six) e)) ∙ e

module _ (b : List ℕ) {k : ℕ} where
  -- a store that is refused with 6: K is the first chained vertex with a radius below -1e-9
  pub radius_named : store_answer b ≡ Refused 6 k → FirstOf (below_axis b) (chained b) k
  unfolding store_answer
  radius_named e =
      let links = skip (length_answer (length b)) _ (length_other (length b)) e in
      let kinds = skip (links_answer (chain b)) _ (links_other six refl (chain b)) links in
      let section = skip (kinds_answer b (chained b)) _ (first_other six 14 _ refl (chained b)) kinds in
      let small : (n : ℕ) → n ≤ 5 → six n ≡ false = λ n h. ne_eqb n 6 (λ z. omega arith) in
      let radii = skip (section_answer (vertices b (chained b))) _ (section_other six small (vertices b (chained b))) section in
      (first_named 6 (below_axis b) (chained b) radii).1

  -- and a store with such a vertex is refused with it, once nothing that is tried sooner is wrong
  pub radius_refused :
      length_answer (length b) ≡ Accepted → links_answer (chain b) ≡ Accepted → kinds_answer b (chained b) ≡ Accepted
      → section_answer (vertices b (chained b)) ≡ Accepted → FirstOf (below_axis b) (chained b) k → store_answer b ≡ Refused 6 k
  unfolding store_answer
  radius_refused size links kinds section first =
      rw (size, links, kinds, section) (named_first 6 (below_axis b) first)

-- ---- the section's 6
any_same : (p q : ℕ → Bool) → ((k : ℕ) → p k ≡ q k) → (n : ℕ) → any p n ≡ any q n
unfolding any
any_same p q e zero = refl
any_same p q e (suc n) = rw (any_same p q e n, e n)

-- the first apart
any_first : (p : ℕ → Bool) (n : ℕ) → any p (suc n) ≡ (p 0 || any (λ k. p (suc k)) n)
unfolding any
any_first p zero = rw or-false
any_first p (suc n) = rw (any_first p n) (or_assoc (p 0) (any (λ k. p (suc k)) n) (p (suc n)))

-- one vertex more at the front
module _ (z r : Float) (s : List Float) where
  behind : (k : ℕ) → ((vertex_at (z ∷ r ∷ s) (suc k)).r ≺ neg e_9) ≡ ((vertex_at s k).r ≺ neg e_9)
  behind k =
      let place : suc k * 2 + 1 ≡ suc (suc (k * 2 + 1)) = omega arith in
      ap (λ (i : ℕ). get_or (z ∷ r ∷ s) i nan ≺ neg e_9) place

  one_vertex_more : any_below_axis (z ∷ r ∷ s) ≡ ((r ≺ neg e_9) || any_below_axis s)
  unfolding any_below_axis
  one_vertex_more =
      let more : count (z ∷ r ∷ s) ≡ suc (count s) = omega arith in
      ap (any _) more ∙ any_first _ (count s) ∙ ap (λ (t : Bool). (r ≺ neg e_9) || t) (any_same _ _ behind (count s))

-- any number at all
abbrev always : ℕ → Bool
always n = true

-- a store's radii are refused where its section has 6, and only there
pub radii_told : (b ks : List ℕ) → refused_by always (radii_answer b ks) ≡ any_below_axis (vertices b ks)
unfolding first_refused below_axis vertices flat_map any_below_axis any
radii_told b [] = refl
radii_told b (k ∷ ks) = go (is_vertex b k) (number b k 1 ≺ neg e_9) refl (radii_told b ks)
  where
    go :
        (vertex below : Bool) → (number b k 1 ≺ neg e_9) ≡ below
        → refused_by always (radii_answer b ks) ≡ any_below_axis (vertices b ks)
        → refused_by always (cond (vertex && below) (Refused 6 k) (radii_answer b ks))
        ≡ any_below_axis (cond vertex (number b k 0 ∷ number b k 1 ∷ []) [] ++ vertices b ks)
    go true true e rest = rw (one_vertex_more (number b k 0) (number b k 1) (vertices b ks), e)
    go true false e rest = rw (one_vertex_more (number b k 0) (number b k 1) (vertices b ks), e) rest
    go false below e rest = rest

-- so an accepted store's section passes 6, and its bodies are refused for their own numbers alone
pub accepted_above : (b : List ℕ) → store_answer b ≡ Accepted → any_below_axis (vertices b (chained b)) ≡ false
accepted_above b good = sym (radii_told b (chained b)) ∙ ap (refused_by always) (accepted_sound b good).radii
