-- What the functions below the entry points compute and promise on the way.
use Rattle.std.specs.Prelude.{ℕ, ◌+◌, ◌*◌, List, set, Float}
use Rattle.section.specs.Demand.{FewEdges}
use Rattle.section.specs.declared.profile.shapes.Vertex.{Vertex}
use Rattle.walk.specs.declared.shapes.CountedHit.{CountedHit}

-- vertex i in its two places
abbrev pub stored : ℕ → Vertex → List Float → List Float
stored i v l = set (set l (2 * i) v.z) (2 * i + 1) v.r

-- a cylinder's hit has an edge of at most 256
abbrev pub FewEdgesOf : CountedHit → Type 0
FewEdgesOf h = FewEdges h.hit
