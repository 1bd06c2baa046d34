-- What the steps of a search for the nearest edge promise each other, s k what edge k gives.
use Rattle.std.specs.Prelude.{ℕ, true, ◌≡◌}
use Rattle.std.specs.Float.{binary64}
use Rattle.std.specs.Float.Ieee.{fits}
use Rattle.arith.specs.F64.{◌≺◌}
use Rattle.section.specs.profile.Vertices.{nearest_of}
use Rattle.section.specs.declared.profile.shapes.CollisionHit.{CollisionHit}

-- where a search may start once it has met `first`: at nothing, or at any number over it
pub data StartOver (first none r : CollisionHit) : Type 0 where
  at_none : r ≡ none → StartOver first none r
  over : (first.distance ≺ r.distance) ≡ true → fits binary64 r.distance ≡ true → StartOver first none r

-- r is what a search up to edge `to` finds, from whatever start, where `best` is what it finds up to edge `from`
abbrev pub FoundFrom : (ℕ → CollisionHit) → ℕ → ℕ → CollisionHit → CollisionHit → Type 0
FoundFrom s from to best r = (a : CollisionHit) → best ≡ nearest_of s a from → r ≡ nearest_of s a to
