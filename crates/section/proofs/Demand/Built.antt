-- What the builders keep the queries accept: no number from 1 to 6 applies to it.
use Prim.Native.Nat.{ℕ, suc, ◌+◌, ◌-◌, ◌*◌, ◌%◌, ◌≤◌, ◌<◌}
use mathlib.Core.Bool.{Bool, not, ◌&&◌, cond}
use mathlib.Core.List.{List, [], ◌∷◌, ◌++◌}
use mathlib.Core.Logic.{inl, inr}
use mathlib.Core.Path.{◌≡◌, refl}
use native.Mathlib.Nat.{eq-or-lt_of_le, le_refl}
use native.Mathlib.Omega.{arith}
use lib.Dec.{T, eqb→eq, ltb, ltb→lt, not_T, nltb→le}
use lib.Ieee.{Float, nan, lt, neg, of_bits}
use lib.Ieee.Fits.{and_l}
use lib.ListN.{length, length-append, length-take, take, get_or-append}
use lib.Seq.{get_or-append-add, get_or-take}
use Rattle.arith.specs.F64.{◌≺◌, ◌≼◌, 𝟘, e_9}
use Rattle.arith.specs.Num.{is_finite}
use Rattle.section.specs.builders.Kept.{polygon_kept, polygon_own, polygon_tests, section_kept, section_own, section_tests}
use Rattle.section.specs.builders.Builder.{keep, kept_points, last_of, polygon_of, raised, same_point, section_of}
use Rattle.section.specs.profile.Refusals.{any_below_axis, axis_tests, fewer, list_tests, more, odd, refusal}
use Rattle.section.specs.profile.Vertices.{count, vertex, vertex_at}
use Rattle.section.specs.declared.profile.shapes.Vertex.{Vertex}
use Rattle.section.proofs.profile.Refusals.Ordered.{Passes}
use Rattle.section.proofs.profile.Refusals.Passed.{NumberTaken, ShapeTaken, Taken, passed, taken}
use Rattle.section.proofs.profile.Each.{All, all_append, all_at, all_take, cons, nil}
use Rattle.section.proofs.profile.Steps.{any_found, any_not, pick, upto_steps}

-- a radius that number 6 lets pass
abbrev Above : Float → Type 0
Above r = T (r ≺ neg e_9) → ⊥

zero_taken : NumberTaken 𝟘
unfolding is_finite lt neg of_bits
zero_taken = record { finite = tt; small = tt }

zero_above : Above 𝟘
unfolding lt neg of_bits
zero_above h = h

-- ---- what is kept of n points: no more than n, and one at least of one or more
record KeptOf (n : ℕ) (l : List Float) : Type 0 where
  numbers : All NumberTaken l
  even : length l % 2 ≡ 0
  above : (k : ℕ) → k < count l → Above (vertex_at l k).r
  most : count l ≤ n
  least : 0 < n → 0 < count l

nothing_kept : KeptOf 0 []
nothing_kept =
    record { numbers = nil; even = refl; above = λ k h. absurd (omega arith); most = le_refl 0; least = λ h. h }

-- the radii of a list with one vertex more
above_more : (l : List Float) (v : Vertex) → length l % 2 ≡ 0 → ((k : ℕ) → k < count l → Above (vertex_at l k).r) → Above v.r
    → (k : ℕ) → k ≤ count l → Above (vertex_at (l ++ (v.z ∷ v.r ∷ [])) k).r
above_more l v e A R k h = elim (eq-or-lt_of_le h) [
  | inl i ↦
      let p : k * 2 + 1 ≡ length l + 1 = omega arith in
      rw (p, get_or-append-add l (v.z ∷ v.r ∷ []) 1 nan) R
  | inr w ↦ rw (get_or-append l (v.z ∷ v.r ∷ []) nan (k * 2 + 1) (omega arith)) (A k w)
]

keep_kept : {n : ℕ} {v : Vertex} {l : List Float} → NumberTaken v.z → NumberTaken v.r → Above v.r → KeptOf n l
    → KeptOf (suc n) (keep v l)
unfolding keep
keep_kept {n} {v} {l} Z R N K = pick (KeptOf (suc n)) (ltb 0 (count l) && same_point (last_of l) v) dropped (λ h. kept)
  where
    dropped : T (ltb 0 (count l) && same_point (last_of l) v) → KeptOf (suc n) l
    dropped h =
        let c = ltb→lt 0 (count l) (and_l (ltb 0 (count l)) (same_point (last_of l) v) h) in
        record { numbers = K.numbers; even = K.even; above = K.above; most = omega (arith, K.most); least = λ g. c }

    kept : KeptOf (suc n) (l ++ (v.z ∷ v.r ∷ []))
    kept =
        let e : length (l ++ (v.z ∷ v.r ∷ [])) ≡ length l + 2 = length-append l (v.z ∷ v.r ∷ []) in
        record {
          numbers = all_append K.numbers (cons Z (cons R nil));
          even = omega (arith, K.even);
          above = λ k h. above_more l v K.even K.above N k (omega arith);
          most = omega (arith, K.most);
          least = λ g. omega arith;
        }

-- every coordinate of a vertex is taken
module _ {s : List Float} (S : All NumberTaken s) (k : ℕ) (l : k < count s) where
  z_taken : NumberTaken (vertex_at s k).z
  z_taken = all_at S nan (k * 2) (omega arith)

  r_taken : NumberTaken (vertex_at s k).r
  r_taken = all_at S nan (k * 2 + 1) (omega arith)

module _ {s : List Float} (S : All NumberTaken s) (below : T (not (any_below_axis s))) where
  r_above : (k : ℕ) → k < count s → Above (vertex_at s k).r
  unfolding any_below_axis
  r_above k l h = any_not (λ i. (vertex_at s i).r ≺ neg e_9) (count s) below k l h

  points_kept : KeptOf (count s) (kept_points s (count s))
  unfolding kept_points
  points_kept =
      upto_steps KeptOf (λ k. keep (raised (vertex_at s k))) [] (count s) nothing_kept
      (λ k l b K. keep_kept (z_taken S k l) (pick NumberTaken (𝟘 ≼ (vertex_at s k).r) (λ h. r_taken S k l) (λ h. zero_taken))
      (pick Above (𝟘 ≼ (vertex_at s k).r) (λ h. r_above k l) (λ h. zero_above)) K)

  -- the closing points
  section_kept_lem : 0 < count s → KeptOf (suc (suc (count s))) (section_of s)
  unfolding section_of
  section_kept_lem h = closed (kept_points s (count s)) points_kept
    where
      closed : (kept : List Float) → KeptOf (count s) kept
          → KeptOf (suc (suc (count s))) (keep (vertex (vertex_at kept 0).z 𝟘) (keep (vertex (last_of kept).z 𝟘) kept))
      closed kept K =
          let c = K.least h in
          keep_kept (z_taken K.numbers 0 c) zero_taken zero_above
          (keep_kept (z_taken K.numbers (count kept - 1) (omega arith)) zero_taken zero_above K)

  -- a repeated closing vertex
  polygon_kept_lem : KeptOf (count s) (polygon_of s)
  unfolding polygon_of
  polygon_kept_lem = opened (kept_points s (count s)) points_kept
    where
      repeated : List Float → Bool
      repeated kept = ltb 1 (count kept) && same_point (vertex_at kept 0) (last_of kept)

      opened : (kept : List Float) → KeptOf (count s) kept
          → KeptOf (count s) (cond (repeated kept) (take (length kept - 2) kept) kept)
      opened kept K =
          let m = length kept - 2 in
          pick (KeptOf (count s)) (repeated kept)
          (λ h. let c = ltb→lt 1 (count kept) (and_l (ltb 1 (count kept)) _ h) in
          let e : length (take m kept) ≡ m = omega (arith, length-take m kept) in
          record {
            numbers = all_take m K.numbers;
            even = omega (arith, K.even);
            above = λ k l. rw (get_or-take m kept (k * 2 + 1) nan (omega arith)) (K.above k (omega arith));
            most = omega (arith, K.most);
            least = λ g. omega arith;
          })
          (λ h. K)

-- what is kept passes numbers 1 to 6
accepted : {n : ℕ} {l : List Float} → n ≤ 256 → KeptOf n l → T (not (fewer 3 l)) → refusal (list_tests 3 256 l ++ axis_tests l) ≡ 0
unfolding any_below_axis
accepted {n} {l} N K h =
    passed 3 256 (l ∷ []) l (axis_tests l)
    (record {
      shapes = cons (record {
        even = not_T (odd l) (λ g. let f = eqb→eq (length l % 2) 1 g in omega (arith, K.even));
        long = h;
        short = not_T (more 256 l) (λ g. let c = ltb→lt 256 (count l) g in omega (arith, K.most));
      }) nil;
      numbers = K.numbers;
      rest_passes = cons (not_T (any_below_axis l) (λ g. let z = any_found (λ i. (vertex_at l i).r ≺ neg e_9) (count l) g in
          K.above z.0 z.1 z.2)) nil;
    })

-- ---- the two builders
pub section_built : (s space : List Float) → refusal (section_tests s space) ≡ 0
    → refusal (list_tests 3 256 (section_kept s space) ++ axis_tests (section_kept s space)) ≡ 0
unfolding section_kept
section_built s space e = rw e (go p.shapes p.rest_passes)
  where
    p : Taken 2 254 (s ∷ []) s (section_own s space)
    p = taken 2 254 (s ∷ []) s (section_own s space) tt e

    go : All (ShapeTaken 2 254) (s ∷ []) → All Passes (section_own s space)
        → refusal (list_tests 3 256 (section_of s) ++ axis_tests (section_of s)) ≡ 0
    go (cons t nil) (cons below (cons small (cons three nil))) =
        let n = nltb→le (count s) 2 t.long in
        let m = nltb→le 254 (count s) t.short in
        accepted {n = suc (suc (count s))} (omega arith) (section_kept_lem p.numbers below (omega arith)) three

pub polygon_built : (s space : List Float) → refusal (polygon_tests s space) ≡ 0
    → refusal (list_tests 3 256 (polygon_kept s space) ++ axis_tests (polygon_kept s space)) ≡ 0
unfolding polygon_kept
polygon_built s space e = rw e (go p.shapes p.rest_passes)
  where
    p : Taken 3 256 (s ∷ []) s (polygon_own s space)
    p = taken 3 256 (s ∷ []) s (polygon_own s space) tt e

    go : All (ShapeTaken 3 256) (s ∷ []) → All Passes (polygon_own s space)
        → refusal (list_tests 3 256 (polygon_of s) ++ axis_tests (polygon_of s)) ≡ 0
    go (cons t nil) (cons below (cons small (cons three nil))) =
        accepted (nltb→le 256 (count s) t.short) (polygon_kept_lem p.numbers below) three
