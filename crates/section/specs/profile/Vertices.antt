-- Vertices and edges of a section, and the ways to go through them; makers of witnesses, hits and spheres. A section is a list of
-- numbers, z and radius in turn; its last vertex joins the first.
use Rattle.std.specs.Prelude.{ℕ, zero, suc, ◌+◌, ◌*◌, ◌/◌, Bool, false, ◌||◌, cond, List, length, get_or, eqb, Float}
use Rattle.std.specs.Float.{nan}
use Rattle.arith.specs.F64.{◌≺◌}
use Rattle.section.specs.declared.profile.shapes.Vertex.{Vertex}
use Rattle.section.specs.declared.profile.shapes.Edge.{Edge}
use Rattle.section.specs.declared.profile.shapes.Witness.{Witness}
use Rattle.arith.specs.declared.vector.Vec3.{Vec3}
use Rattle.section.specs.declared.profile.shapes.CollisionHit.{CollisionHit}
use Rattle.section.specs.declared.profile.shapes.Sphere.{Sphere}

abbrev pub vertex : Float → Float → Vertex
vertex z r = record { z = z; r = r }

-- a point of the section, supplied by edge k
abbrev pub witness : Float → Float → ℕ → Witness
witness z r k = record { z = z; r = r; edge = k }

-- the point v as witness of edge k
abbrev pub on : ℕ → Vertex → Witness
on k v = witness v.z v.r k

abbrev pub hit : Float → Witness → CollisionHit
hit distance witness = record { distance = distance; witness = witness }

abbrev pub ball : Vec3 → Float → Sphere
ball center radius = record { center = center; radius = radius }

abbrev pub count : List Float → ℕ
count s = length s / 2

abbrev pub vertex_at : List Float → ℕ → Vertex
vertex_at s k = vertex (get_or s (k * 2) nan) (get_or s (k * 2 + 1) nan)

-- edge k runs from vertex k to the next, and the last to the first
abbrev pub next : ℕ → ℕ → ℕ
next n k = cond (eqb (k + 1) n) 0 (k + 1)

abbrev pub end_at : List Float → ℕ → Vertex
end_at s k = vertex_at s (next (count s) k)

-- both ends, and the number
abbrev pub edge_at : List Float → ℕ → Edge
edge_at s k = record { a = vertex_at s k; b = end_at s k; number = k }

-- what a becomes when step k is done for k = 0 to n - 1, in that order
unfoldable pub upto : {A : Type 0} → (ℕ → A → A) → A → ℕ → A
upto step a zero = a
upto step a (suc k) = step k (upto step a k)

-- test k is true for some k below n
unfoldable pub any : (ℕ → Bool) → ℕ → Bool
any test zero = false
any test (suc k) = any test k || test k

-- the first stays unless the second is strictly smaller
abbrev pub nearer : CollisionHit → CollisionHit → CollisionHit
nearer best new = cond (new.distance ≺ best.distance) new best

-- the first strictly smallest of a, f 0, .., f (n - 1)
abbrev pub nearest_of : (ℕ → CollisionHit) → CollisionHit → ℕ → CollisionHit
nearest_of f a n = upto (λ k best. nearer best (f k)) a n
