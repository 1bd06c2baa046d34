-- When two answers agree. On either side of the spindle the whole answer is the same. With the ends swapped all is the same but
-- the sign of a zero: 01 counts zeros of both signs as equal.
use Rattle.std.specs.Prelude.{Bool, ◌≡◌, Float, ℤ}
use Rattle.std.specs.Float.{fin}
use Rattle.section.specs.profile.Replies.{Reply, value, turned_down}
use Rattle.section.specs.declared.profile.shapes.CollisionHit.{CollisionHit}
use Rattle.section.specs.declared.profile.shapes.Witness.{Witness}
use Rattle.walk.specs.declared.bands.shapes.Cylinder.{Cylinder}
use Rattle.walk.specs.declared.shapes.CountedHit.{CountedHit}
use Rattle.symmetry.specs.Moved.{mirrored_x, mirrored_y, half_turned}

-- the whole answer stays, whichever side of the spindle the setter faces
pub record EitherSide {A : Type 0} (answer : Cylinder → A) (c : Cylinder) : Type 0 where
  pub mirrored_x : answer (mirrored_x c) ≡ answer c
  pub mirrored_y : answer (mirrored_y c) ≡ answer c
  pub half_turned : answer (half_turned c) ≡ answer c

-- one value, or zeros of either sign
pub data Like : Float → Float → Type 0 where
  same : {x : Float} → Like x x
  zeros : {s t : Bool} {e : ℤ} → Like (fin s 0 e) (fin t 0 e)

-- a point of the section, on the same edge
pub record LikeWitness (v w : Witness) : Type 0 where
  pub z : Like v.z w.z
  pub r : Like v.r w.r
  pub edge : v.edge ≡ w.edge

pub record LikeHit (h k : CollisionHit) : Type 0 where
  pub distance : Like h.distance k.distance
  pub witness : LikeWitness h.witness k.witness

-- and the boxes measured, the most pieces that waited, the mark
pub record LikeCounted (h k : CountedHit) : Type 0 where
  pub hit : LikeHit h.hit k.hit
  pub boxes : h.boxes ≡ k.boxes
  pub waiting : h.waiting ≡ k.waiting
  pub cut : h.cut ≡ k.cut

-- refused with the same number, or hits that agree
abbrev pub Alike : Reply CountedHit → Reply CountedHit → Type 0
Alike (value h) (value k) = LikeCounted h k
Alike (value h) (turned_down n) = ⊥
Alike (turned_down n) (value k) = ⊥
Alike (turned_down n) (turned_down m) = n ≡ m
