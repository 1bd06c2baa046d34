-- 01's builders: which points are kept, and what the lent space then holds.
use Rattle.std.specs.Prelude.{ℕ, ◌-◌, Bool, ◌&&◌, cond, List, [], ◌∷◌, ◌++◌, length, take, drop, ltb, Float}
use Rattle.arith.specs.F64.{◌⊖◌, ◌≼◌, 𝟘, e_12}
use Rattle.arith.specs.Num.{max, abs}
use Rattle.section.specs.profile.Vertices.{vertex, count, vertex_at, upto}
use Rattle.section.specs.declared.profile.shapes.Vertex.{Vertex}

-- within 1e-12 in both coordinates
unfoldable pub same_point : Vertex → Vertex → Bool
same_point a b = (abs (a.z ⊖ b.z) ≼ e_12) && (abs (a.r ⊖ b.r) ≼ e_12)

abbrev pub last_of : List Float → Vertex
last_of kept = vertex_at kept (count kept - 1)

-- a point within 1e-12 of the last kept one is dropped
unfoldable pub keep : Vertex → List Float → List Float
keep v kept = cond (ltb 0 (count kept) && same_point (last_of kept) v) kept (kept ++ (v.z ∷ v.r ∷ []))

-- a radius in [-1e-9, 0) becomes 0 before that test, in both builders
abbrev pub raised : Vertex → Vertex
raised v = vertex v.z (max v.r 𝟘)

-- what is kept of the first n points
unfoldable pub kept_points : List Float → ℕ → List Float
kept_points s n = upto (λ k. keep (raised (vertex_at s k))) [] n

-- 01's `try_from_section`: the closing points (last z, 0) and (first z, 0) follow
unfoldable pub section_of : List Float → List Float
section_of s =
    let kept = kept_points s (count s) in
    keep (vertex (vertex_at kept 0).z 𝟘) (keep (vertex (last_of kept).z 𝟘) kept)

-- 01's `try_from_polygon`: a repeated closing vertex is dropped
unfoldable pub polygon_of : List Float → List Float
polygon_of s =
    let kept = kept_points s (count s) in
    cond (ltb 1 (count kept) && same_point (vertex_at kept 0) (last_of kept)) (take (length kept - 2) kept) kept

-- kept points fill the front of the lent space, the rest stays
unfoldable pub filled : List Float → List Float → List Float
filled kept space = kept ++ drop (length kept) space
