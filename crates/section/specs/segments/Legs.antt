-- A hit with its legs, as what functions below the entry points promise each other; no answer is defined by it.
use Rattle.std.specs.Prelude.{◌≡◌}
use Rattle.section.specs.profile.Vertices.{nearer}
use Rattle.section.specs.declared.profile.shapes.CollisionHit.{CollisionHit}
use Rattle.section.specs.segments.Hopeless.{Hopeless}
use Rattle.section.specs.declared.segments.shapes.Near.{Near}

-- what its legs say of its distance
abbrev pub Legs : Near → Type 0
Legs n = Hopeless n.z n.r n.hit.distance

-- r is the nearer of best and new
abbrev pub Nearest : Near → CollisionHit → Near → Type 0
Nearest best new r = r.hit ≡ nearer best.hit new
