-- What the functions below the entry points compute on the way, and what they ask of the walk.
use Rattle.std.specs.Prelude.{ℕ, ◌+◌, ◌≤◌, max as maxℕ, true, false, List, Float}
use Rattle.section.specs.profile.Vertices.{count as vertices, hit, nearest_of}
use Rattle.section.specs.points.Points.{point_distance}
use Rattle.section.specs.declared.profile.shapes.CollisionHit.{CollisionHit}
use Rattle.arith.specs.F64.{∞}
use Rattle.arith.specs.Num.{min}
use Rattle.walk.specs.Walk.{sample_vertex, better, walk_all}
use Rattle.walk.specs.declared.pieces.shapes.Measured.{Measured}
use Rattle.walk.specs.declared.walker.walker.SoFar.{SoFar}
use Rattle.walk.specs.declared.shapes.CountedHit.{CountedHit}
use Rattle.walk.specs.declared.bands.shapes.RadialBand.{RadialBand}
use Rattle.walk.specs.declared.settings.shapes.Settings.{Settings}

-- the three samples at z, against the best so far
abbrev pub sample_at : List Float → RadialBand → Float → CollisionHit → CollisionHit
sample_at s b z best = nearest_of (λ j. point_distance s (sample_vertex b z j)) best 3

-- the pieces that wait at any one time fit into the array of 54
abbrev pub Room : List Float → RadialBand → Float → ℕ → ℕ → Type 0
Room s b tol cap n = (walk_all s b tol cap n).most ≤ 54

pub record Walkable (s : List Float) (b : RadialBand) (tol : Float) (cap n : ℕ) : Type 0 where
  pub vertices : 3 ≤ vertices s
  pub samples : n ≤ 64
  pub room : Room s b tol cap n

abbrev pub WalkableWith : List Float → RadialBand → Settings → Type 0
WalkableWith s b t = Walkable s b t.tolerance t.most t.intervals

-- ---- what a walk has so far: at its start, with one box more, and what is reported of it

abbrev pub so_far : CollisionHit → Float → ℕ → ℕ → SoFar
so_far best least boxes most = record { best = best; least = least; boxes = boxes; most = most }

abbrev pub start : CollisionHit → SoFar
start best = so_far best ∞ 0 1

abbrev pub count : Measured → ℕ → SoFar → SoFar
count m n w =
    so_far (better m.hit m.variation w.best) (min w.least m.hit.distance) (w.boxes + 1) (maxℕ w.most n)

abbrev pub cut_off : SoFar → CountedHit
cut_off w = record { hit = hit w.least w.best.witness; boxes = w.boxes; waiting = w.most; cut = true }

abbrev pub uncut : SoFar → CountedHit
uncut w = record { hit = w.best; boxes = w.boxes; waiting = w.most; cut = false }
