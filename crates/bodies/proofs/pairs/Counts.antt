-- How large an answer's edge and counts are: a sphere and a convex body count no box, a box one, a cylinder what its query
-- promises.
use Prim.Native.Nat.{ℕ, ◌≤◌}
use mathlib.Core.Bool.{Bool, true, false, cond}
use mathlib.Core.List.{List}
use lib.Dec.{lit≤}
use lib.Ieee.{Float}
use Rattle.arith.specs.F64.{◌≺◌}
use Rattle.section.specs.declared.profile.shapes.CollisionHit.{CollisionHit}
use Rattle.section.specs.Demand.{FewEdges}
use Rattle.section.proofs.Demand.Queries.{bounded_few, bounded_off_axis_few}
use Rattle.walk.specs.declared.shapes.CountedHit.{CountedHit}
use Rattle.walk.specs.settings.Settings.{finest}
use Rattle.bodies.specs.Bodies.{body_distance, boxes_only}
use Rattle.bodies.specs.declared.shapes.Body.{Body}
use Rattle.bodies.specs.declared.shapes.Body.TheVariants.{Sphere, Box, Cylinder}
use Rattle.bodies.specs.pairs.Pairs.{won, nearer, PairPromised, PairConvexPromised}

pub record Small (h : CountedHit) : Type 0 where
  pub boxes : h.boxes ≤ 8192
  pub waiting : h.waiting ≤ 54
  pub edge : FewEdges h.hit

-- one of two hits that count n boxes counts n
module _ (n : ℕ) (l : n ≤ 8192) (x y : CollisionHit) where
  only_small : FewEdges (nearer (boxes_only n x) (boxes_only n y)).counted.hit
      → Small (nearer (boxes_only n x) (boxes_only n y)).counted
  only_small h = go (y.distance ≺ x.distance) h
    where
      go : (b : Bool) → FewEdges (cond b (won true (boxes_only n y)) (won false (boxes_only n x))).counted.hit
          → Small (cond b (won true (boxes_only n y)) (won false (boxes_only n x))).counted
      go true e = record { boxes = l; waiting = lit≤ tt; edge = e }
      go false e = record { boxes = l; waiting = lit≤ tt; edge = e }

pub pair_small : (chuck work : List Float) (b : Body)
    → PairPromised chuck work b (nearer (body_distance chuck b finest) (body_distance work b finest))
    → Small (nearer (body_distance chuck b finest) (body_distance work b finest)).counted
pair_small chuck work (Sphere b) p = only_small 0 (lit≤ tt) _ _ (bounded_off_axis_few _ p)
pair_small chuck work (Box x) p = only_small 1 (lit≤ tt) _ _ (bounded_few _ p)
pair_small chuck work (Cylinder c) p =
    record { boxes = p.few.boxes; waiting = p.few.waiting; edge = bounded_few _ p.bounded }

pub pair_convex_small : (chuck work : List Float) (x y : CollisionHit)
    → PairConvexPromised chuck work (nearer (boxes_only 0 x) (boxes_only 0 y))
    → Small (nearer (boxes_only 0 x) (boxes_only 0 y)).counted
pair_convex_small chuck work x y p = only_small 0 (lit≤ tt) x y (bounded_few _ p)
