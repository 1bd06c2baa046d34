-- Every record of a load by its number: record 0, n vertices from 1 on, 32 spheres behind them. The load is the run of these, and
-- each reads back at its place.
use Prim.Native.Nat.{ℕ, zero, suc, ◌+◌, ◌-◌, ◌*◌, ◌^◌, ◌<◌, ◌≤◌}
use native.Mathlib.Nat.{add-zero, add-suc}
use native.Mathlib.Omega.{arith}
use mathlib.Core.Bool.{Bool, true, false, cond}
use mathlib.Core.List.{List, ◌++◌, flat_map, append_assoc, append-nil}
use mathlib.Core.Path.{◌≡◌, refl, sym, ap, ap₂, ◌∙◌}
use lib.ListN.{length}
use lib.Dec.{eqb, ltb, lit<}
use lib.Ieee.{Float, binary64, of_bits}
use lib.Ieee.Bits.{of_bits-to_bits, to_bits-lt}
use borrow.Author.Tests.{lt-ltb, le-ltb}
use Rattle.arith.specs.F64.{𝟘}
use Rattle.arith.specs.Num.{abs}
use Rattle.store.specs.Records.{record_bytes, next, kind, number}
use Rattle.store.proofs.ReadBack.{length_record, next_back, kind_back, first_back, second_back, third_back, fourth_back}
use Rattle.loads.specs.Xorshift.{xorshift, state_after}
use Rattle.loads.specs.Load.{coordinate, coordinate_bits, radius_bits, vertex_record, sphere_record, sphere_next, up_to, load}
use Rattle.loads.proofs.Coordinates.{coordinate_fits, radius_fits}
use Rattle.loads.proofs.Sequence.{run_more, length_run, cut_at}

-- what the reader reads of record k
pub record Fields (b : List ℕ) (k m t : ℕ) (w x y z : Float) : Type 0 where
  pub next_is : next b k ≡ m
  pub kind_is : kind b k ≡ t
  pub first : number b k 0 ≡ w
  pub second : number b k 1 ≡ x
  pub third : number b k 2 ≡ y
  pub fourth : number b k 3 ≡ z

-- ---- bits fit their fields, and read back
coordinate_small : (state : ℕ) → coordinate_bits state < 2 ^ 64
coordinate_small state = to_bits-lt binary64 (coordinate state) (coordinate_fits state)

radius_small : (state : ℕ) → radius_bits state < 2 ^ 64
radius_small state = to_bits-lt binary64 (abs (coordinate state)) (radius_fits state)

coordinate_back : (state : ℕ) → of_bits binary64 (coordinate_bits state) ≡ coordinate state
coordinate_back state = of_bits-to_bits binary64 (coordinate state) (coordinate_fits state)

radius_back : (state : ℕ) → of_bits binary64 (radius_bits state) ≡ abs (coordinate state)
radius_back state = of_bits-to_bits binary64 (abs (coordinate state)) (radius_fits state)

sphere_next_small : (n j : ℕ) → n ≤ 256 → j < 32 → sphere_next n j < 2 ^ 32
unfolding sphere_next
sphere_next_small n j few h = go (eqb j 31)
  where
    go : (t : Bool) → cond t 0 (n + j + 2) < 2 ^ 32
    go true = lit< tt
    go false = omega arith

module _ (seed n : ℕ) where
  abbrev vertex_at : ℕ → List ℕ
  vertex_at i = vertex_record i (state_after seed (i * 2))

  abbrev sphere_at : ℕ → List ℕ
  sphere_at j = sphere_record n j (state_after (state_after seed (n * 2)) (j * 4))

  -- record k of the load
  abbrev pub record_at : ℕ → List ℕ
  record_at zero = record_bytes 1 0 0 0 0 0
  record_at (suc i) = cond (ltb i n) (vertex_at i) (sphere_at (i - n))

  vertex_at_lem : (i : ℕ) → i < n → record_at (suc i) ≡ vertex_at i
  vertex_at_lem i h = rw (lt-ltb i n h)

  sphere_at_lem : (j : ℕ) → record_at (suc (n + j)) ≡ sphere_at j
  sphere_at_lem j = let e : n + j - n ≡ j = omega arith in rw (le-ltb (n + j) n (omega arith), e)

  -- ---- the load is the run of its records
  vertices_run : (i : ℕ) → i ≤ n → flat_map record_at (up_to (suc i)) ≡ record_bytes 1 0 0 0 0 0 ++ flat_map vertex_at (up_to i)
  unfolding up_to flat_map
  vertices_run zero h = refl
  vertices_run (suc i) h =
      let lead = record_bytes 1 0 0 0 0 0 in
      run_more record_at (suc i)
      ∙ ap₂ (λ (x y : List ℕ). x ++ y) (vertices_run i (omega arith)) (vertex_at_lem i h)
      ∙ append_assoc lead (flat_map vertex_at (up_to i)) (vertex_at i)
      ∙ ap (λ (l : List ℕ). lead ++ l) (sym (run_more vertex_at i))

  front : List ℕ
  front = record_bytes 1 0 0 0 0 0 ++ flat_map vertex_at (up_to n)

  spheres_run : (j : ℕ) → flat_map record_at (up_to (suc (n + j))) ≡ front ++ flat_map sphere_at (up_to j)
  unfolding up_to flat_map front
  spheres_run zero =
      ap (λ (k : ℕ). flat_map record_at (up_to (suc k))) (add-zero n) ∙ vertices_run n (omega arith) ∙ sym (append-nil front)
  spheres_run (suc j) =
      ap (λ (k : ℕ). flat_map record_at (up_to (suc k))) (add-suc n j)
      ∙ run_more record_at (suc (n + j))
      ∙ ap₂ (λ (x y : List ℕ). x ++ y) (spheres_run j) (sphere_at_lem j)
      ∙ append_assoc front (flat_map sphere_at (up_to j)) (sphere_at j)
      ∙ ap (λ (l : List ℕ). front ++ l) (sym (run_more sphere_at j))

  pub load_run : load seed n ≡ flat_map record_at (up_to (suc (n + 32)))
  unfolding load front
  load_run = sym (spheres_run 32)

  -- ---- each record has 40 bytes
  length_either : (t : Bool) (x y : List ℕ) → length x ≡ 40 → length y ≡ 40 → length (cond t x y) ≡ 40
  length_either true x y p q = p
  length_either false x y p q = q

  length_at : (k : ℕ) → length (record_at k) ≡ 40
  unfolding vertex_record sphere_record
  length_at zero = length_record 1 0 0 0 0 0
  length_at (suc i) =
      length_either (ltb i n) (vertex_at i) (sphere_at (i - n)) (length_record _ _ _ _ _ _) (length_record _ _ _ _ _ _)

  pub length_load : length (load seed n) ≡ (n + 33) * 40
  length_load =
      ap length load_run ∙ length_run record_at 40 length_at (suc (n + 32)) ∙ ap (λ (k : ℕ). k * 40) (sym (add-suc n 32))

  -- ---- and reads back at its place
  module _
      (k m t a b c d : ℕ) (here : k < suc (n + 32)) (is : record_at k ≡ record_bytes m t a b c d) (M : m < 2 ^ 32) (K : t < 2 ^ 32)
      (A : a < 2 ^ 64) (B : b < 2 ^ 64) (C : c < 2 ^ 64) (D : d < 2 ^ 64)
    where
      before : List ℕ
      before = flat_map record_at (up_to k)

      size : length before ≡ k * 40
      unfolding before
      size = length_run record_at 40 length_at k

      after : List ℕ
      after = (cut_at record_at (suc (n + 32)) k here).after

      whole : load seed n ≡ before ++ (record_bytes m t a b c d ++ after)
      unfolding before after
      whole = load_run ∙ (cut_at record_at (suc (n + 32)) k here).parts ∙ ap (λ (r : List ℕ). before ++ (r ++ after)) is

      read : Fields (load seed n) k m t (of_bits binary64 a) (of_bits binary64 b) (of_bits binary64 c) (of_bits binary64 d)
      read =
          record {
            next_is = ap (λ (l : List ℕ). next l k) whole ∙ next_back m t a b c d k before after size M;
            kind_is = ap (λ (l : List ℕ). kind l k) whole ∙ kind_back m t a b c d k before after size K;
            first = ap (λ (l : List ℕ). number l k 0) whole ∙ first_back m t a b c d k before after size A;
            second = ap (λ (l : List ℕ). number l k 1) whole ∙ second_back m t a b c d k before after size B;
            third = ap (λ (l : List ℕ). number l k 2) whole ∙ third_back m t a b c d k before after size C;
            fourth = ap (λ (l : List ℕ). number l k 3) whole ∙ fourth_back m t a b c d k before after size D;
          }

  pub lead_read : Fields (load seed n) 0 1 0 𝟘 𝟘 𝟘 𝟘
  lead_read = read 0 1 0 0 0 0 0 (omega arith) refl (lit< tt) (lit< tt) (lit< tt) (lit< tt) (lit< tt) (lit< tt)

  module _ (few : n ≤ 256) where
    pub vertex_read :
        (i : ℕ) → i < n
        → let s = xorshift (state_after seed (i * 2)) in
        Fields (load seed n) (suc i) (i + 2) 1 (coordinate s) (abs (coordinate (xorshift s))) 𝟘 𝟘
    unfolding vertex_record
    vertex_read i h =
        let s = xorshift (state_after seed (i * 2)) in
        let t = xorshift s in
        let f = read (suc i) (i + 2) 1 (coordinate_bits s) (radius_bits t) 0 0 (omega arith) (vertex_at_lem i h) (omega arith) (lit< tt)
        (coordinate_small s) (radius_small t) (lit< tt) (lit< tt) in
        record {
          next_is = f.next_is;
          kind_is = f.kind_is;
          first = f.first ∙ coordinate_back s;
          second = f.second ∙ radius_back t;
          third = f.third;
          fourth = f.fourth;
        }

    pub sphere_read :
        (j : ℕ) → j < 32
        → let s = xorshift (state_after (state_after seed (n * 2)) (j * 4)) in
        let t = xorshift s in
        let u = xorshift t in
        Fields (load seed n) (suc (n + j)) (sphere_next n j) 2 (coordinate s) (coordinate t) (coordinate u)
        (abs (coordinate (xorshift u)))
    unfolding sphere_record
    sphere_read j h =
        let s = xorshift (state_after (state_after seed (n * 2)) (j * 4)) in
        let t = xorshift s in
        let u = xorshift t in
        let v = xorshift u in
        let f = read (suc (n + j)) (sphere_next n j) 2 (coordinate_bits s) (coordinate_bits t) (coordinate_bits u) (radius_bits v)
        (omega arith) (sphere_at_lem j) (sphere_next_small n j few h) (lit< tt)
        (coordinate_small s) (coordinate_small t) (coordinate_small u) (radius_small v) in
        record {
          next_is = f.next_is;
          kind_is = f.kind_is;
          first = f.first ∙ coordinate_back s;
          second = f.second ∙ coordinate_back t;
          third = f.third ∙ coordinate_back u;
          fourth = f.fourth ∙ radius_back v;
        }
