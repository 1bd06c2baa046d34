-- Gathering the vertices one record a turn: the space begins with those of the records passed, as long as it has room.
use Prim.Native.Nat.{ℕ, ◌+◌, ◌*◌, ◌/◌, ◌<◌, ◌≤◌}
use native.Mathlib.Nat.{add-zero}
use native.Mathlib.Numerals.{add-one}
use native.Mathlib.Omega.{arith}
use mathlib.Core.Bool.{Bool, true, false, cond}
use mathlib.Core.List.{List, [], ◌∷◌, ◌++◌, append-nil, flat_map}
use mathlib.Core.Path.{◌≡◌, refl, sym, ◌∙◌}
use lib.ListN.{length, take, get_or, set, length-append}
use lib.Seq.{sets, length-sets, take_all}
use lib.Dec.{ltb}
use lib.Ieee.{Float}
use borrow.Author.Tests.{le-ltb, lt-ltb}
use Rattle.store.specs.Records.{number}
use Rattle.store.specs.Kinds.{is_vertex}
use Rattle.store.specs.Store.{vertex_numbers, vertices}
use Rattle.store.specs.Steps.{SectionRoom, put, Adds, Gathers}
use Rattle.store.proofs.Lists.{flat_map_more, sets_front}

-- i records are passed, n of them vertices
pub record Gathered (b order : List ℕ) (space : List Float) (n i : ℕ) : Type 0 where
  pub short : length order ≤ 512
  pub within : i ≤ length order
  pub few : n ≤ i
  pub room : length space ≡ 512
  pub size : length (vertices b (take i order)) ≡ n * 2
  pub front : n ≤ 256 → take (n * 2) space ≡ vertices b (take i order)

same_size : (fits : Bool) (n : ℕ) (space w : List Float) → length (cond fits (sets space (n * 2) w) space) ≡ length space
same_size true n space w = length-sets space (n * 2) w
same_size false n space w = refl

nothing : (fits : Bool) (space : List Float) → cond fits space space ≡ space
nothing true space = refl
nothing false space = refl

put_front :
    (n : ℕ) (space w v : List Float) → n < 256 → n * 2 + length w ≤ length space → take (n * 2) space ≡ v
    → take (n * 2 + length w) (put n space w) ≡ v ++ w
put_front n space w v h room e = rw (lt-ltb n 256 h, ← e) (sets_front w space (n * 2) room)

module _ {b order : List ℕ} {space : List Float} {n i : ℕ} (now : Gathered b order space n i) (more : i < length order) where
  more_vertices : vertices b (take (i + 1) order) ≡ vertices b (take i order) ++ vertex_numbers b (get_or order i 0)
  unfolding vertices
  more_vertices = flat_map_more (vertex_numbers b) order i 0 more

  -- the record is a vertex, or it adds nothing
  by_kind :
      (vertex : Bool) (z r : Float) → vertices b (take (i + 1) order) ≡ vertices b (take i order) ++ cond vertex (z ∷ r ∷ []) []
      → Gathered b order (put n space (cond vertex (z ∷ r ∷ []) [])) (n + length (cond vertex (z ∷ r ∷ []) []) / 2) (i + 1)
  by_kind true z r e =
      record {
        short = now.short;
        within = omega arith;
        few = omega arith;
        room = same_size (ltb n 256) n space (z ∷ r ∷ []) ∙ now.room;
        size = rw (e, length-append) (omega arith);
        front = λ h. rw (e, twice) (put_front n space (z ∷ r ∷ []) _ (omega arith) (omega arith) (now.front (omega arith)));
      }
    where
      twice : (n + 1) * 2 ≡ n * 2 + 2
      twice = omega arith
  by_kind false z r e =
      record {
        short = now.short;
        within = omega arith;
        few = omega arith;
        room = same_size (ltb n 256) n space [] ∙ now.room;
        size = rw (e, append-nil) (omega arith);
        front = λ h. rw (e, append-nil, add-zero, nothing (ltb n 256) space) (now.front (omega arith));
      }

  pub gathers :
      {space' : List Float} {n' : ℕ} → Adds (vertex_numbers b (get_or order i 0)) n space space' n'
      → Gathered b order space' n' (i + 1)
  gathers added =
      rw (added.count, added.filled)
      (by_kind (is_vertex b (get_or order i 0)) (number b (get_or order i 0) 0) (number b (get_or order i 0) 1) more_vertices)

-- before the first record, and after the last
pub none_gathered : (b : List ℕ) {order : List ℕ} {space : List Float} → SectionRoom order space → Gathered b order space 0 0
unfolding vertices flat_map
none_gathered b h =
    record {
      short = h.few;
      within = omega arith;
      few = omega arith;
      room = h.room;
      size = refl;
      front = λ small. refl;
    }

pub all_gathered :
    {b order : List ℕ} {space : List Float} {n i : ℕ} → Gathered b order space n i → length order ≤ i
    → Gathers (vertices b order) space n
all_gathered {b} {order} {space} {n} {i} all h =
    let e : take i order ≡ order = take_all i order h in
    record { size = rw e at all.size; front = λ small. rw e at (all.front small) }

-- one record: no vertex, or a vertex with room for it
module _ (b : List ℕ) (k n : ℕ) (space : List Float) where
  pub adds_nothing : is_vertex b k ≡ false → Adds (vertex_numbers b k) n space space n
  adds_nothing e = rw e (record { filled = sym (nothing (ltb n 256) space); count = omega arith })

  pub adds_no_room : is_vertex b k ≡ true → 256 ≤ n → Adds (vertex_numbers b k) n space space (n + 1)
  adds_no_room e h = rw e (record { filled = rw (le-ltb n 256 h); count = omega arith })

  pub adds_vertex :
      {z r : Float} → is_vertex b k ≡ true → n < 256 → z ≡ number b k 0 → r ≡ number b k 1
      → Adds (vertex_numbers b k) n space (set (set space (n * 2) z) (n * 2 + 1) r) (n + 1)
  adds_vertex e h ez er = rw e (record { filled = rw (lt-ltb n 256 h, ez, er, add-one (n * 2)); count = omega arith })
