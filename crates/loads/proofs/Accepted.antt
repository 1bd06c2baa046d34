-- Every load is accepted by the store reader: its chain is 0, 1, .., n + 32, its kinds are right, and its section has n
-- vertices that the reader takes. By what each record reads as.
use Prim.Native.Nat.{ℕ, zero, suc, ◌+◌, ◌-◌, ◌*◌, ◌/◌, ◌%◌, ◌<◌, ◌≤◌}
use native.Mathlib.Nat.{add-zero, add-suc}
use native.Mathlib.Omega.{arith}
use mathlib.Core.Bool.{Bool, true, false, not}
use mathlib.Core.List.{List, [], ◌∷◌, ◌++◌, flat_map}
use mathlib.Core.Logic.{◌⊎◌, inl, inr}
use mathlib.Core.Path.{◌≡◌, refl, ap, ap₂, subst, ◌∙◌}
use lib.ListN.{length, length-append}
use lib.Dec.{eqb, leb}
use borrow.Author.Tests.{ne_eqb, lt-leb, le-ltb}
use Rattle.section.specs.profile.Refusals.{refusal, any_of}
use Rattle.section.proofs.profile.Each.{All, nil, cons}
use Rattle.section.proofs.profile.Refusals.Passed.{NumberTaken, passed}
use Rattle.arith.proofs.roots.Numbers.{decide}
use Rattle.store.specs.Records.{records, next}
use Rattle.store.specs.Chain.{whole, member, follow, chain, in_order}
use Rattle.store.specs.First.{first_refused}
use Rattle.store.specs.Kinds.{right_kind, kinds_answer}
use Rattle.store.specs.Radii.{below_axis, radii_answer}
use Rattle.store.specs.Store.{vertex_numbers, vertices, length_answer, section_answer, chained, store_answer}
use Rattle.store.specs.Answers.{Accepted}
use Rattle.store.proofs.Following.{member_snoc}
use Rattle.loads.specs.Load.{sphere_next, up_to, load}
use Rattle.loads.proofs.Coordinates.{number_taken, coordinate_ranged, radius_ranged, radius_above}
use Rattle.loads.proofs.Numbered.{lead_read, vertex_read, sphere_read, length_load}
use Rattle.loads.proofs.Sequence.{run_more, all_run, all_below}

-- ---- over any list of records
none_refused : (m : ℕ) (test : ℕ → Bool) {ks : List ℕ} → All (λ (k : ℕ). test k ≡ false) ks → first_refused m test ks ≡ Accepted
unfolding first_refused
none_refused m test nil = refl
none_refused m test (cons p rest) = rw (p, none_refused m test rest)

-- no number from k on is among those below k
not_among : (m k : ℕ) → k ≤ m → member m (up_to k) ≡ false
unfolding up_to any_of
not_among m zero h = refl
not_among m (suc k) h = member_snoc m k (up_to k) ∙ rw (not_among m k (omega arith), ne_eqb m k (λ e. omega arith))

-- the parts of a load, by the number of the record
pub data Part (n : ℕ) : ℕ → Type 0 where
  lead : Part n zero
  vertex : (i : ℕ) → i < n → Part n (suc i)
  sphere : (j : ℕ) → j < 32 → Part n (suc (n + j))

pub part : (n k : ℕ) → k < n + 33 → Part n k
part n zero h = lead
part n (suc i) h = go (decide n i)
  where
    go : (n ≤ i) ⊎ (i < n) → Part n (suc i)
    go (inr sooner) = vertex i sooner
    go (inl later) =
        let e : n + (i - n) ≡ i = omega arith in
        subst (λ (k : ℕ). Part n (suc k)) e (sphere (i - n) (omega arith))

-- one record of a chain: the last, and one that leads on to a record that is there and new
stop : (b : List ℕ) (left k : ℕ) (passed : List ℕ) → next b k ≡ 0 → follow b (suc left) passed k ≡ whole (passed ++ (k ∷ []))
unfolding follow
stop b left k passed e = rw e

step :
    (b : List ℕ) (left k m : ℕ) (passed : List ℕ) → next b k ≡ m → eqb m 0 ≡ false → leb (records b) m ≡ false
    → member m (passed ++ (k ∷ [])) ≡ false → follow b (suc left) passed k ≡ follow b left (passed ++ (k ∷ [])) m
unfolding follow
step b left k m passed e more within new = rw (e, more, within, new)

module _ (seed n : ℕ) (few : n ≤ 256) where
  abbrev b : List ℕ
  b = load seed n

  -- ---- the chain
  records_are : records b ≡ n + 33
  records_are = omega (arith, length_load seed n)

  leads_on : (k : ℕ) → k < n + 32 → next b k ≡ suc k
  unfolding sphere_next
  leads_on k h = go (part n k (omega arith)) h
    where
      go : {k : ℕ} → Part n k → k < n + 32 → next b k ≡ suc k
      go lead h = (lead_read seed n).next_is
      go (vertex i m) h = let e : i + 2 ≡ suc (suc i) = omega arith in (vertex_read seed n few i m).next_is ∙ e
      go (sphere j m) h =
          let e : n + j + 2 ≡ suc (suc (n + j)) = omega arith in
          (sphere_read seed n few j m).next_is ∙ rw (ne_eqb j 31 (λ e. omega arith)) e

  leads_back : next b (n + 32) ≡ 0
  unfolding sphere_next
  leads_back = ap (next b) (add-suc n 31) ∙ (sphere_read seed n few 31 (omega arith)).next_is

  follows : (left k : ℕ) → left + k ≡ n + 32 → follow b (suc left) (up_to k) k ≡ whole (up_to (n + 33))
  unfolding up_to
  follows zero k e =
      let here : k ≡ n + 32 = omega arith in
      let ends : next b k ≡ 0 = ap (next b) here ∙ leads_back in
      let all : suc k ≡ n + 33 = omega arith in
      stop b 0 k (up_to k) ends ∙ ap (λ (j : ℕ). whole (up_to j)) all
  follows (suc left) k e =
      let on : next b k ≡ suc k = leads_on k (omega arith) in
      step b (suc left) k (suc k) (up_to k) on (ne_eqb (suc k) 0 (λ z. omega arith))
      (lt-leb (records b) (suc k) (omega (arith, records_are))) (not_among (suc k) (suc k) (omega arith))
      ∙ follows left (suc k) (omega arith)

  pub load_chain : chain b ≡ whole (up_to (n + 33))
  unfolding chain up_to
  load_chain =
      let count : records b ≡ suc (n + 32) = omega (arith, records_are) in
      ap (λ (left : ℕ). follow b left [] 0) count ∙ follows (n + 32) 0 (omega arith)

  -- the chain is 0, 1, .., n + 32
  pub load_chained : chained b ≡ up_to (n + 33)
  unfolding chained
  load_chained = ap in_order load_chain

  -- ---- the kinds
  right : (k : ℕ) → k < n + 33 → right_kind b k ≡ true
  unfolding right_kind
  right k h = go (part n k h)
    where
      go : {k : ℕ} → Part n k → right_kind b k ≡ true
      go lead = rw (lead_read seed n).kind_is
      go (vertex i m) = rw (ne_eqb (suc i) 0 (λ e. omega arith), (vertex_read seed n few i m).kind_is)
      go (sphere j m) = rw (ne_eqb (suc (n + j)) 0 (λ e. omega arith), (sphere_read seed n few j m).kind_is)

  kinds_right : kinds_answer b (up_to (n + 33)) ≡ Accepted
  kinds_right = none_refused 14 (λ k. not (right_kind b k)) (all_below (n + 33) (λ k h. rw (right k h)))

  -- ---- the section
  -- a vertex gives two numbers, another record none
  vertex_numbers_lem : (k : ℕ) → k < n + 33 → All NumberTaken (vertex_numbers b k)
  vertex_numbers_lem k h = go (part n k h)
    where
      go : {k : ℕ} → Part n k → All NumberTaken (vertex_numbers b k)
      go lead = rw (lead_read seed n).kind_is nil
      go (vertex i m) =
          let f = vertex_read seed n few i m in
          rw (f.kind_is, f.first, f.second)
          (cons (number_taken _ _ (coordinate_ranged _)) (cons (number_taken _ _ (radius_ranged _)) nil))
      go (sphere j m) = rw (sphere_read seed n few j m).kind_is nil

  size_more : (k c d : ℕ) → length (flat_map (vertex_numbers b) (up_to k)) ≡ c → length (vertex_numbers b k) ≡ d
      → length (flat_map (vertex_numbers b) (up_to (suc k))) ≡ c + d
  size_more k c d so_far here =
      ap length (run_more (vertex_numbers b) k)
      ∙ length-append (flat_map (vertex_numbers b) (up_to k)) (vertex_numbers b k)
      ∙ ap₂ (λ (x y : ℕ). x + y) so_far here

  front_size : (i : ℕ) → i ≤ n → length (flat_map (vertex_numbers b) (up_to (suc i))) ≡ i * 2
  unfolding up_to flat_map
  front_size zero h = size_more 0 0 0 refl (rw (lead_read seed n).kind_is)
  front_size (suc i) h =
      let e : i * 2 + 2 ≡ suc i * 2 = omega arith in
      size_more (suc i) (i * 2) 2 (front_size i (omega arith)) (rw (vertex_read seed n few i h).kind_is) ∙ e

  whole_size : (j : ℕ) → j ≤ 32 → length (flat_map (vertex_numbers b) (up_to (suc (n + j)))) ≡ n * 2
  whole_size zero h =
      ap (λ (k : ℕ). length (flat_map (vertex_numbers b) (up_to (suc k)))) (add-zero n) ∙ front_size n (omega arith)
  whole_size (suc j) h =
      let e : n * 2 + 0 ≡ n * 2 = omega arith in
      ap (λ (k : ℕ). length (flat_map (vertex_numbers b) (up_to (suc k)))) (add-suc n j)
      ∙ size_more (suc (n + j)) (n * 2) 0 (whole_size j (omega arith)) (rw (sphere_read seed n few j h).kind_is) ∙ e

  pub section_size : length (vertices b (up_to (n + 33))) ≡ n * 2
  unfolding vertices
  section_size = ap (λ (k : ℕ). length (flat_map (vertex_numbers b) (up_to k))) (add-suc n 32) ∙ whole_size 32 (omega arith)

  section_right : 3 ≤ n → section_answer (vertices b (up_to (n + 33))) ≡ Accepted
  unfolding section_answer
  section_right enough =
      let s = vertices b (up_to (n + 33)) in
      let size = section_size in
      rw (passed 3 256 (s ∷ []) s []
      (record {
        shapes =
            cons (record {
              even = rw (ne_eqb (length s % 2) 1 (λ e. omega (arith, size, e))) tt;
              long = rw (le-ltb (length s / 2) 3 (omega (arith, size))) tt;
              short = rw (le-ltb 256 (length s / 2) (omega (arith, size))) tt;
            }) nil;
        numbers = taken;
        rest_passes = nil;
      }))
    where
      taken : All NumberTaken (vertices b (up_to (n + 33)))
      taken = unfold vertices in all_run (vertex_numbers b) (n + 33) vertex_numbers_lem

  -- ---- the radii
  above : (k : ℕ) → k < n + 33 → below_axis b k ≡ false
  unfolding below_axis
  above k h = go (part n k h)
    where
      go : {k : ℕ} → Part n k → below_axis b k ≡ false
      go lead = rw (lead_read seed n).kind_is
      go (vertex i m) =
          let f = vertex_read seed n few i m in
          rw (f.kind_is, f.second) (radius_above _ (radius_ranged _)).1
      go (sphere j m) = rw (sphere_read seed n few j m).kind_is

  radii_right : radii_answer b (up_to (n + 33)) ≡ Accepted
  radii_right = none_refused 6 (below_axis b) (all_below (n + 33) above)

  -- ---- the length
  length_right : length_answer (length b) ≡ Accepted
  unfolding length_answer refusal
  length_right =
      let size = length_load seed n in
      rw (
        le-ltb 0 (length b % 40) (omega (arith, size)),
        ne_eqb (length b) 0 (λ e. omega (arith, size, e)),
        le-ltb 512 (length b / 40) (omega (arith, size)),
      )

  -- Every load of 3 to 256 vertices is accepted, whatever the seed.
  pub load_accepted : 3 ≤ n → store_answer b ≡ Accepted
  unfolding store_answer
  load_accepted enough =
      rw (length_right, load_chain, load_chained, kinds_right, section_right enough, radii_right)
