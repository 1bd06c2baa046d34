-- EXACT NUMBERS AND DISTANCES. Every f64 is a whole multiple of 2 ^ -1074 mm, the unit of this crate. A place is that whole
-- number, moved up by 2 ^ 2098 so that none is negative. A point that is no f64 is rational: (z / n, r / n), z and r being whole
-- numbers. Distances are compared by their squares, times n n. Nothing here is rounded.
use Rattle.std.specs.Prelude.{ℕ, ◌+◌, ◌-◌, ◌*◌, ◌^◌, ◌≤◌, true, false, ◌≡◌, Float}
use Rattle.std.specs.Float.{nan, inf, fin, binary64}
use Rattle.arith.specs.roots.Roots.{ticks}
use Rattle.arith.specs.Whole.{apart}
use Rattle.arith.specs.declared.vector.Vec3.{Vec3}
use Rattle.section.specs.declared.profile.shapes.Vertex.{Vertex}

-- the square of how far two numbers are apart
unfoldable pub sqd : ℕ → ℕ → ℕ
sqd a b = apart a b * apart a b

-- ---- places of f64s
-- where zero lies
unfoldable pub origin : ℕ
origin = 2 ^ 2098

-- where a finite f64 lies
unfoldable pub place : Float → ℕ
unfolding origin
place nan = origin
place (inf false) = origin + origin
place (inf true) = 0
place (fin false m e) = origin + ticks binary64 (fin false m e)
place (fin true m e) = origin - ticks binary64 (fin true m e)

-- its magnitude
unfoldable pub size : Float → ℕ
size x = apart (place x) origin

-- x as a distance in units: 0 where it is negative
abbrev pub units : Float → ℕ
units x = place x - origin

-- the exact sum of x and y as a distance in units: 0 where it is negative
abbrev pub units_of_sum : Float → Float → ℕ
units_of_sum x y = place x + place y - (origin + origin)

-- and its magnitude
unfoldable pub size_of_sum : Float → Float → ℕ
size_of_sum x y = apart (place x + place y) (origin + origin)

-- ---- distances of exact points
-- the square of the distance from the vertex p to the point (z / n, r / n), times n n
unfoldable pub away² : Vertex → (n z r : ℕ) → ℕ
away² p n z r = sqd (n * place p.z) z + sqd (n * place p.r) r

-- The radius r / n, which is not negative, is turned about the spindle to where x is X / n and y is Y / n.
pub record Turned (n r X Y : ℕ) : Type 0 where
  pub above : n * origin ≤ r
  pub circle : sqd X (n * origin) + sqd Y (n * origin) ≡ sqd r (n * origin)

-- the square of the distance from p, a point of space, to the point (X / n, Y / n, z / n), times n n
unfoldable pub away_in_space² : Vec3 → (n z X Y : ℕ) → ℕ
away_in_space² p n z X Y = sqd (n * place p.z) z + (sqd (n * place p.x) X + sqd (n * place p.y) Y)

-- w units exceed the distance whose square, times n n, is d² by no more than ε
abbrev pub NotOver : (ε w n d² : ℕ) → Type 0
NotOver ε w n d² = n * (w - ε) * (n * (w - ε)) ≤ d²

-- and they fall short of it by no more than ε
abbrev pub NotUnder : (ε w n d² : ℕ) → Type 0
NotUnder ε w n d² = d² ≤ n * (w + ε) * (n * (w + ε))
