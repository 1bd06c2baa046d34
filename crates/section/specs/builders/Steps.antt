-- What the functions below the entry points compute on the way to the builders.
use Rattle.std.specs.Prelude.{ℕ, ◌+◌, ◌*◌, Bool, ◌&&◌, cond, List, ◌≡◌, set, take, ltb, Float, Result, Ok, Err}
use Rattle.arith.specs.F64.{𝟘}
use Rattle.section.specs.profile.Vertices.{vertex, count, vertex_at}
use Rattle.section.specs.declared.profile.shapes.Vertex.{Vertex}
use Rattle.section.specs.profile.Replies.{Reply, told}
use Rattle.section.specs.builders.Builder.{same_point, last_of, raised, filled}
use Rattle.section.specs.declared.builders.builder.Run.{Run}
use Rattle.section.specs.declared.shapes.Refusal.{Refusal}
use Rattle.section.specs.declared.shapes.Refusal.TheVariants.{TooFewKept}

-- a builder's point k, its radius raised to 0
abbrev pub point_at : List Float → ℕ → Vertex
point_at s k = raised (vertex_at s k)

-- the last vertex that is kept, (0, 0) while there is none, and how many are
abbrev pub run : Vertex → ℕ → Run
run last count = record { last = last; count = count }

abbrev pub run_of : List Float → Run
run_of kept = run (cond (ltb 0 (count kept)) (last_of kept) (vertex 𝟘 𝟘)) (count kept)

-- v is within 1e-12 of the last kept vertex
abbrev pub is_repeat : Run → Vertex → Bool
is_repeat b v = ltb 0 b.count && same_point b.last v

unfoldable pub pushed : Vertex → Run → Run
pushed v b = cond (is_repeat b v) b (run v (b.count + 1))

-- v is written in place k, below the limit
unfoldable pub written : ℕ → ℕ → Vertex → List Float → List Float
written limit k v space = cond (ltb k limit) (set (set space (k * 2) v.z) (k * 2 + 1) v.r) space

unfoldable pub pushed_space : ℕ → Vertex → Run → List Float → List Float
pushed_space limit v b space = cond (is_repeat b v) space (written limit b.count v space)

-- the first of the kept vertices, up to the limit, in the front of the space
abbrev pub front_kept : ℕ → List Float → List Float → List Float
front_kept limit kept space = filled (take (limit * 2) kept) space

-- number 8, or how many numbers are kept
unfoldable pub three_kept : ℕ → Result ℕ Refusal
three_kept vertices = cond (ltb vertices 3) (Err TooFewKept) (Ok (vertices * 2))

-- what a builder promises: its answer, and the space as it leaves it
pub record Builds (answer : Reply ℕ) (kept space : List Float) (r : Result ℕ Refusal) (after : List Float) : Type 0 where
  pub equal : told r ≡ answer
  pub space_after : after ≡ filled kept space
