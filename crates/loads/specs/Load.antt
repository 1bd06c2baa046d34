-- The store that a seed and a vertex count give, or the number under which they are turned down.
use Rattle.std.specs.Prelude.{ℕ, zero, suc, ◌+◌, ◌*◌, ◌%◌, ◌||◌, cond, ◌≡◌, length, drop, eqb, ltb, pos, Float, Result}
use mathlib.Core.List.{List, [], ◌∷◌, ◌++◌, flat_map}
use Rattle.std.specs.Float.{binary64}
use Rattle.std.specs.Float.Ieee.{of_int, of_bits, to_bits}
use Rattle.arith.specs.F64.{◌⊖◌, ◌⊘◌}
use Rattle.arith.specs.Num.{abs}
use Rattle.section.specs.declared.shapes.Refusal.{Refusal}
use Rattle.section.specs.profile.Refusals.{Test, ◌when◌, refusal}
use Rattle.section.specs.profile.Replies.{Reply, value, turned_down, reply, mapped, told}
use Rattle.store.specs.Records.{record_bytes}
use Rattle.loads.specs.Xorshift.{xorshift, state_after}

-- 1,048,576 and 64
abbrev pub middle : Float
middle = of_bits binary64 0x4130000000000000

abbrev pub sixty_four : Float
sixty_four = of_bits binary64 0x4050000000000000

-- of a new state: its remainder by 2,097,153, less 1,048,576, divided by 64. Nothing is rounded away: proofs/Coordinates.
unfoldable pub coordinate : ℕ → Float
coordinate state = (of_int binary64 (pos (state % 2097153)) ⊖ middle) ⊘ sixty_four

abbrev pub coordinate_bits : ℕ → ℕ
coordinate_bits state = to_bits binary64 (coordinate state)

-- a negative radius loses its sign
abbrev pub radius_bits : ℕ → ℕ
radius_bits state = to_bits binary64 (abs (coordinate state))

-- Vertex i, counted from 0, is record i + 1 and leads to the one after it: z then radius, of the two states that follow. Unused
-- fields are 0.
unfoldable pub vertex_record : ℕ → ℕ → List ℕ
vertex_record i state =
    let s = xorshift state in
    let t = xorshift s in
    record_bytes (i + 2) 1 (coordinate_bits s) (radius_bits t) 0 0

-- sphere j, counted from 0, is record n + j + 1; the last leads to 0
unfoldable pub sphere_next : ℕ → ℕ → ℕ
sphere_next n j = cond (eqb j 31) 0 (n + j + 2)

-- x, y, z, radius, of the four states that follow
unfoldable pub sphere_record : ℕ → ℕ → ℕ → List ℕ
sphere_record n j state =
    let s = xorshift state in
    let t = xorshift s in
    let u = xorshift t in
    let v = xorshift u in
    record_bytes (sphere_next n j) 2 (coordinate_bits s) (coordinate_bits t) (coordinate_bits u) (radius_bits v)

-- the numbers below k
unfoldable pub up_to : ℕ → List ℕ
up_to zero = []
up_to (suc k) = up_to k ++ (k ∷ [])

-- n vertices, two states each
abbrev pub load_vertices : ℕ → ℕ → List ℕ
load_vertices seed n = flat_map (λ i. vertex_record i (state_after seed (i * 2))) (up_to n)

-- m spheres behind n vertices, four states each
abbrev pub load_spheres : ℕ → ℕ → ℕ → List ℕ
load_spheres state n m = flat_map (λ j. sphere_record n j (state_after state (j * 4))) (up_to m)

-- the store: record 0 leads on, then n vertices, then 32 spheres, drawn on from where the vertices end
unfoldable pub load : ℕ → ℕ → List ℕ
load seed n = record_bytes 1 0 0 0 0 0 ++ load_vertices seed n ++ load_spheres (state_after seed (n * 2)) n 32

-- 20 for seed 0, then 21 for a vertex count out of range
abbrev pub load_tests : ℕ → ℕ → List Test
load_tests seed n = (20 when eqb seed 0) ∷ (21 when (ltb n 3 || ltb 256 n)) ∷ []

unfoldable pub load_answer : ℕ → ℕ → Reply (List ℕ)
load_answer seed n = reply (refusal (load_tests seed n)) (load seed n)

-- what the lent space then holds: the store at its front and the rest as it was, or all as it was
abbrev pub space_after : Reply (List ℕ) → List ℕ → List ℕ
space_after (value b) given = b ++ drop (length b) given
space_after (turned_down n) given = given

-- r is how many bytes the store has, or the refusal
pub record LoadWritten (answer : Reply (List ℕ)) (given : List ℕ) (r : Result ℕ Refusal) (after : List ℕ) : Type 0 where
  pub told_of : told r ≡ mapped length answer
  pub space : after ≡ space_after answer given
