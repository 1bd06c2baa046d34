-- Bytes put into the space: the fields of a record one behind the other, records behind records while the state goes on, and the whole
-- load from the front on.
use Prim.Native.Nat.{ℕ, zero, suc, ◌+◌, ◌*◌, ◌≤◌}
use native.Mathlib.Nat.{add-zero, add-suc, zero-mul}
use native.Mathlib.Numerals.{add-one}
use native.Mathlib.Omega.{arith}
use mathlib.Core.List.{List, ◌++◌, flat_map}
use mathlib.Core.Path.{◌≡◌, refl, sym, ap, ap₂, subst, ◌∙◌}
use lib.ListN.{length}
use lib.Seq.{sets}
use Rattle.store.specs.Records.{record_bytes}
use Rattle.store.specs.edits.Steps.{Put}
use Rattle.store.proofs.ReadBack.{length_record}
use Rattle.listings.specs.store_listing.Listing.{Prints}
use Rattle.listings.specs.store_listing.Steps.{Written}
use Rattle.listings.proofs.store_listing.Writing.{then, front_written}
use Rattle.loads.specs.Xorshift.{xorshift, state_after}
use Rattle.loads.specs.Load.{coordinate_bits, radius_bits, vertex_record, sphere_next, sphere_record, up_to}
use Rattle.loads.specs.Load.{load_vertices, load_spheres, load}
use Rattle.loads.specs.Steps.{Drawn}
use Rattle.loads.proofs.Sequence.{run_more, length_run}
use Rattle.loads.proofs.Numbered.{length_load}

-- ---- the fields of a record
-- a word by what it is
pub put_as : {l after w t : List ℕ} {at : ℕ} → w ≡ t → Put l at w after → Put l at t after
put_as same word = rw (← same) word

-- a word behind another
pub behind :
    {l mid after t u : List ℕ} {at m : ℕ} → Put l at t mid → m ≡ at + length t → Put mid m u after → Put l at (t ++ u) after
behind first place next =
    record { bytes = (then (record { text = first.bytes; end = place }) (record { text = next.bytes; end = refl })).text }

-- ---- records, the state going on
pub states_add : (state a b : ℕ) → state_after (state_after state a) b ≡ state_after state (a + b)
unfolding state_after
states_add state a zero = rw (add-zero a)
states_add state a (suc b) = rw (add-suc a b) (ap xorshift (states_add state a b))

-- f makes record i of 40 bytes from a state, d steps each
module _ (f : ℕ → ℕ → List ℕ) (size : (i s : ℕ) → length (f i s) ≡ 40) (d seed : ℕ) where
  abbrev run : ℕ → List ℕ
  run i = flat_map (λ k. f k (state_after seed (k * d))) (up_to i)

  drawn_none : (l : List ℕ) (at : ℕ) → Drawn l at (run 0) l (state_after seed (0 * d)) seed
  unfolding up_to flat_map state_after
  drawn_none l at = record { text = refl; end = rw (zero-mul d) }

  drawn_more :
      (i at : ℕ) {l mid after : List ℕ} {s r : ℕ} → Drawn l at (run i) mid (state_after seed (i * d)) s
      → Drawn mid (at + i * 40) (f i s) after (state_after s d) r
      → Drawn l at (run (i + 1)) after (state_after seed ((i + 1) * d)) r
  drawn_more i at {l} {mid} {after} {s} {r} now next =
      let filled : length (run i) ≡ i * 40 = length_run _ 40 (λ k. size k _) i in
      let first : Written l at (run i) mid (at + i * 40) = record { text = now.text; end = omega (arith, filled) } in
      let second : Written mid (at + i * 40) (f i s) after (at + i * 40 + 40) =
      record { text = next.text; end = omega (arith, size i s) } in
      let both : after ≡ sets l at (run i ++ f i s) = (then first second).text in
      let same : run (i + 1) ≡ run i ++ f i s =
      ap run (add-one i) ∙ run_more _ i ∙ ap (λ (z : ℕ). run i ++ f i z) (sym now.end) in
      let steps : (i + 1) * d ≡ i * d + d = omega arith in
      record {
        text = both ∙ ap (sets l at) (sym same);
        end =
            next.end
            ∙ ap (λ (z : ℕ). state_after z d) now.end
            ∙ states_add seed (i * d) d
            ∙ ap (state_after seed) (sym steps);
      }

vertex_size : (i s : ℕ) → length (vertex_record i s) ≡ 40
unfolding vertex_record
vertex_size i s = length_record _ _ _ _ _ _

sphere_size : (n j s : ℕ) → length (sphere_record n j s) ≡ 40
unfolding sphere_record
sphere_size n j s = length_record _ _ _ _ _ _

-- what is drawn for one vertex, and for one sphere
pub vertex_drawn :
    (i state : ℕ) {l after : List ℕ} {at s t x y : ℕ} → s ≡ xorshift state → t ≡ xorshift s → x ≡ coordinate_bits s
    → y ≡ radius_bits t → Put l at (record_bytes (i + 2) 1 x y 0 0) after
    → Drawn l at (vertex_record i state) after (state_after state 2) t
unfolding vertex_record state_after
vertex_drawn i state {l} {after} {at} s-is t_is x-is y-is w =
    let second = t_is ∙ ap xorshift s-is in
    record {
      text = w.bytes ∙ ap₂ (λ (a b : ℕ). sets l at (record_bytes (i + 2) 1 a b 0 0)) (x-is ∙ ap coordinate_bits s-is)
          (y-is ∙ ap radius_bits second);
      end = second;
    }

pub sphere_drawn :
    (n j state : ℕ) {l after : List ℕ} {at s t u v m w x y z : ℕ} → s ≡ xorshift state → t ≡ xorshift s → u ≡ xorshift t
    → v ≡ xorshift u → m ≡ sphere_next n j → w ≡ coordinate_bits s → x ≡ coordinate_bits t → y ≡ coordinate_bits u
    → z ≡ radius_bits v → Put l at (record_bytes m 2 w x y z) after
    → Drawn l at (sphere_record n j state) after (state_after state 4) v
unfolding sphere_record state_after
sphere_drawn n j state {l} {after} {at} {s} {t} {u} {v} {m} {w} {x} {y} {z} s-is t_is u-is v-is m-is w_is x-is y-is z-is written =
    let second = t_is ∙ ap xorshift s-is in
    let third = u-is ∙ ap xorshift second in
    let fourth = v-is ∙ ap xorshift third in
    record {
      text =
          written.bytes
          ∙ ap₂ (λ (a b : ℕ). sets l at (record_bytes a 2 b x y z)) m-is (w_is ∙ ap coordinate_bits s-is)
          ∙ ap₂ (λ (a b : ℕ). sets l at (record_bytes (sphere_next n j) 2 (coordinate_bits (xorshift state)) a b z))
          (x-is ∙ ap coordinate_bits second) (y-is ∙ ap coordinate_bits third)
          ∙ ap (λ (a : ℕ). sets l at (record_bytes (sphere_next n j) 2 (coordinate_bits (xorshift state))
          (coordinate_bits (xorshift (xorshift state))) (coordinate_bits (xorshift (xorshift (xorshift state)))) a))
          (z-is ∙ ap radius_bits fourth);
      end = fourth;
    }

pub vertices_none : (seed : ℕ) (l : List ℕ) → Drawn l 40 (load_vertices seed 0) l (state_after seed (0 * 2)) seed
vertices_none seed l = drawn_none vertex_record vertex_size 2 seed l 40

pub vertices_more :
    (seed i : ℕ) {l mid after : List ℕ} {s r : ℕ} → Drawn l 40 (load_vertices seed i) mid (state_after seed (i * 2)) s
    → Drawn mid (40 + i * 40) (vertex_record i s) after (state_after s 2) r
    → Drawn l 40 (load_vertices seed (i + 1)) after (state_after seed ((i + 1) * 2)) r
vertices_more seed i now next = drawn_more vertex_record vertex_size 2 seed i 40 now next

pub spheres_none : (state n : ℕ) (l : List ℕ) → Drawn l (n * 40 + 40) (load_spheres state n 0) l (state_after state (0 * 4)) state
spheres_none state n l = drawn_none (sphere_record n) (sphere_size n) 4 state l (n * 40 + 40)

pub spheres_more :
    (state n j : ℕ) {l mid after : List ℕ} {s r : ℕ}
    → Drawn l (n * 40 + 40) (load_spheres state n j) mid (state_after state (j * 4)) s
    → Drawn mid (n * 40 + 40 + j * 40) (sphere_record n j s) after (state_after s 4) r
    → Drawn l (n * 40 + 40) (load_spheres state n (j + 1)) after (state_after state ((j + 1) * 4)) r
spheres_more state n j now next = drawn_more (sphere_record n) (sphere_size n) 4 state j (n * 40 + 40) now next

-- the loops end with all of them
pub vertices_end :
    (seed i n : ℕ) {l after : List ℕ} {s : ℕ} → i ≤ n → n ≤ i → Drawn l 40 (load_vertices seed i) after (state_after seed (i * 2)) s
    → Drawn l 40 (load_vertices seed n) after (state_after seed (n * 2)) s
vertices_end seed i n {l} {after} {s} below above all =
    let e : i ≡ n = omega arith in
    subst (λ (k : ℕ). Drawn l 40 (load_vertices seed k) after (state_after seed (k * 2)) s) e all

pub spheres_end :
    (state n j : ℕ) {l after : List ℕ} {s : ℕ} → j ≤ 32 → 32 ≤ j
    → Drawn l (n * 40 + 40) (load_spheres state n j) after (state_after state (j * 4)) s
    → Drawn l (n * 40 + 40) (load_spheres state n 32) after (state_after state 128) s
spheres_end state n j {l} {after} {s} below above all =
    let e : j ≡ 32 = omega arith in
    subst (λ (k : ℕ). Drawn l (n * 40 + 40) (load_spheres state n k) after (state_after state (k * 4)) s) e all

-- ---- the whole load
pub load_put :
    (seed n : ℕ) {l first second after : List ℕ} {s q : ℕ} → n ≤ 256 → length l ≡ 20480
    → Put l 0 (record_bytes 1 0 0 0 0 0) first → Drawn first 40 (load_vertices seed n) second (state_after seed (n * 2)) s
    → Drawn second (n * 40 + 40) (load_spheres s n 32) after (state_after s 128) q
    → Prints (load seed n) l after (n * 40 + 1320)
unfolding load
load_put seed n {l} {first} {second} {after} {s} {q} few room lead vertices spheres =
    let size : length (load_vertices seed n) ≡ n * 40 = length_run _ 40 (λ k. vertex_size k _) n in
    let end : length (load_spheres s n 32) ≡ 32 * 40 = length_run _ 40 (λ k. sphere_size n k _) 32 in
    let behind : Written l 0 (record_bytes 1 0 0 0 0 0) first 40 =
    record { text = lead.bytes; end = omega (arith, length_record 1 0 0 0 0 0) } in
    let middle : Written first 40 (load_vertices seed n) second (n * 40 + 40) =
    record { text = vertices.text; end = omega (arith, size) } in
    let last : Written second (n * 40 + 40) (load_spheres s n 32) after (n * 40 + 1320) =
    record { text = spheres.text; end = omega (arith, end) } in
    let whole : Written l 0 (record_bytes 1 0 0 0 0 0 ++ load_vertices seed n ++ load_spheres s n 32) after (n * 40 + 1320) =
    then (then behind middle) last in
    front_written (rw vertices.end at whole) (omega (arith, length_load seed n, room))
