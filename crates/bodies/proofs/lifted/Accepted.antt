-- The middle of every accepted body is within 2 ^ 20, and so its witness is lifted to where `Placed` says.
use Prim.Native.Nat.{ℕ}
use mathlib.Core.List.{List, [], ◌∷◌}
use mathlib.Core.Path.{ap, subst, sym, ◌∙◌}
use lib.Ieee.{Float}
use Rattle.arith.specs.declared.vector.Vec3.{Vec3}
use Rattle.arith.proofs.Laws.Sizes.{half_finite}
use Rattle.section.specs.profile.Refusals.{point_numbers, point_tests, radius_tests, refusal, sphere_numbers, sphere_tests}
use Rattle.section.specs.profile.Replies.{Answers, OfValue, Reply, mapped, turned_down, value}
use Rattle.section.specs.declared.profile.shapes.CollisionHit.{CollisionHit}
use Rattle.section.specs.declared.profile.shapes.Sphere.{Sphere}
use Rattle.section.specs.declared.profile.shapes.Witness.{Witness}
use Rattle.section.proofs.profile.Each.{All, cons}
use Rattle.section.proofs.profile.Replies.{of_reply}
use Rattle.section.specs.points.Points.{meridian, point_distance, sphere_distance}
use Rattle.section.specs.Answers.{point_answer, sphere_answer}
use Rattle.section.specs.Demand.{AtMost, BoundedOffAxis}
use Rattle.section.proofs.Demand.Accepted.{section_taken}
use Rattle.section.proofs.Demand.Bounds.{add_at_most, finite_at_most}
use Rattle.walk.specs.settings.Settings.{finest, settings_tests}
use Rattle.walk.specs.bands.Axis.{axis}
use Rattle.walk.specs.declared.bands.shapes.Cylinder.{Cylinder}
use Rattle.walk.specs.declared.shapes.CountedHit.{CountedHit}
use Rattle.walk.specs.cylinders.Cylinders.{cylinder_answer, cylinder_distance, cylinder_numbers, cylinder_own, cylinder_tests}
use Rattle.walk.specs.cylinders.Promised.{Promised}
use Rattle.bodies.specs.lifted.Answers.{lifted_cylinder, lifted_hit, lifted_point, lifted_sphere, middle_x, middle_y}
use Rattle.bodies.specs.lifted.Placed.{Lifts, Near, Placed, WithPlace, WithPlaceCounted}
use Rattle.bodies.specs.lifted.Rule.{lift}
use Rattle.bodies.specs.declared.lifted.shapes.Lifted.{Lifted}

record Middle (x y : Float) : Type 0 where
  along_x_lem : AtMost 20 x
  along_y_lem : AtMost 20 y

first_two : {x y : Float} {l : List Float} → All (AtMost 20) (x ∷ y ∷ l) → Middle x y
first_two (cons a (cons b h)) = record { along_x_lem = a; along_y_lem = b }

means : {c : Cylinder} → All (AtMost 20) (cylinder_numbers c) → Middle (middle_x c) (middle_y c)
means (cons ax (cons ay (cons az (cons bx (cons by h))))) =
    record {
      along_x_lem = finite_at_most (half_finite (add_at_most ax bx tt) tt);
      along_y_lem = finite_at_most (half_finite (add_at_most ay by tt) tt);
    }

-- ---- a query that hands on another call's refusal, or lifts its hit
module _ {H : Type 0} (witness : H → Witness) (P : H → Type 0) (R : Lifted H → Type 0) (x y : Float) where
  abbrev lifted : H → Lifted H
  lifted h = record { hit = h; witness = lift x y (witness h) }

  refusal_lifted : {answer : Reply H} {n : ℕ} → Answers (turned_down n) answer P → Answers (turned_down n) (mapped lifted answer) R
  refusal_lifted a = record { equal = ap (mapped lifted) a.equal; owed = tt }

  hit_lifted : {answer : Reply H} {h : H} {p : Vec3} → OfValue (λ k. Middle x y) answer → (P h → Middle x y → Near x y (witness h))
      → (P h → Placed x y (witness h) p → R (record { hit = h; witness = p })) → Answers (value h) answer P
      → Lifts x y (witness h) p → Answers (value (record { hit = h; witness = p })) (mapped lifted answer) R
  hit_lifted {h = h} m near made a l =
      record {
        equal = ap (λ (p : Vec3). value (record { hit = h; witness = p })) l.equal ∙ ap (mapped lifted) a.equal;
        owed = made a.owed (l.placed (near a.owed (subst (λ (r : Reply H). OfValue (λ k. Middle x y) r) (sym a.equal) m)));
      }

near : {x y : Float} {w : Witness} → AtMost 25 w.z → AtMost 25 w.r → Middle x y → Near x y w
near z r m = record { middle_x = m.along_x_lem; middle_y = m.along_y_lem; witness_z = z; witness_r = r }

module _ (s : List Float) where
  -- ---- points and spheres
  abbrev Plain : Float → Float → Lifted CollisionHit → Type 0
  Plain = WithPlace (BoundedOffAxis s)

  plain_lifted : (x y : Float) {answer : Reply CollisionHit} {h : CollisionHit} {p : Vec3} → OfValue (λ k. Middle x y) answer
      → Answers (value h) answer (BoundedOffAxis s) → Lifts x y h.witness p
      → Answers (value (record { hit = h; witness = p })) (mapped (lifted_hit x y) answer) (Plain x y)
  plain_lifted x y m =
      hit_lifted (λ h. h.witness) (BoundedOffAxis s) (Plain x y) x y m (λ b. near b.z b.r)
      (λ b q. record { plain = b; placed = q })

  module _ (p : Vec3) where
    middle_of_point : OfValue (λ h. Middle p.x p.y) (point_answer s p)
    unfolding point_answer
    middle_of_point =
        of_reply (λ h. Middle p.x p.y) (refusal (point_tests s p)) (point_distance s (meridian p))
        (λ e. first_two (section_taken s (point_numbers p) [] [] [] tt e).body)

    pub point_refused : {n : ℕ} → Answers (turned_down n) (point_answer s p) (BoundedOffAxis s)
        → Answers (turned_down n) (lifted_point s p) (Plain p.x p.y)
    unfolding lifted_point
    point_refused = refusal_lifted (λ h. h.witness) (BoundedOffAxis s) (Plain p.x p.y) p.x p.y

    pub point_placed : {h : CollisionHit} {q : Vec3} → Answers (value h) (point_answer s p) (BoundedOffAxis s)
        → Lifts p.x p.y h.witness q → Answers (value (record { hit = h; witness = q })) (lifted_point s p) (Plain p.x p.y)
    unfolding lifted_point
    point_placed = plain_lifted p.x p.y middle_of_point

  module _ (b : Sphere) where
    middle_of_sphere : OfValue (λ h. Middle b.center.x b.center.y) (sphere_answer s b)
    unfolding sphere_answer
    middle_of_sphere =
        of_reply (λ h. Middle b.center.x b.center.y) (refusal (sphere_tests s b [] [])) (sphere_distance s b)
        (λ e. first_two (section_taken s (sphere_numbers b) [] [] (radius_tests b.radius) tt e).body)

    pub sphere_refused : {n : ℕ} → Answers (turned_down n) (sphere_answer s b) (BoundedOffAxis s)
        → Answers (turned_down n) (lifted_sphere s b) (Plain b.center.x b.center.y)
    unfolding lifted_sphere
    sphere_refused =
        refusal_lifted (λ h. h.witness) (BoundedOffAxis s) (Plain b.center.x b.center.y) b.center.x b.center.y

    pub sphere_placed : {h : CollisionHit} {q : Vec3} → Answers (value h) (sphere_answer s b) (BoundedOffAxis s)
        → Lifts b.center.x b.center.y h.witness q
        → Answers (value (record { hit = h; witness = q })) (lifted_sphere s b) (Plain b.center.x b.center.y)
    unfolding lifted_sphere
    sphere_placed = plain_lifted b.center.x b.center.y middle_of_sphere

  -- ---- cylinders
  module _ (c : Cylinder) where
    abbrev P : CountedHit → Type 0
    P = Promised s c finest

    abbrev Counted : Lifted CountedHit → Type 0
    Counted = WithPlaceCounted P (middle_x c) (middle_y c)

    middle_of_cylinder : OfValue (λ h. Middle (middle_x c) (middle_y c)) (cylinder_answer s c finest)
    unfolding cylinder_answer
    middle_of_cylinder =
        of_reply (λ h. Middle (middle_x c) (middle_y c)) (refusal (cylinder_tests s c [] (settings_tests finest)))
        (cylinder_distance s c finest)
        (λ e. means (section_taken s (cylinder_numbers c) [] (settings_tests finest) (cylinder_own c.radius (axis c)) tt e).body)

    pub cylinder_refused : {n : ℕ} → Answers (turned_down n) (cylinder_answer s c finest) P
        → Answers (turned_down n) (lifted_cylinder s c) Counted
    unfolding lifted_cylinder
    cylinder_refused = refusal_lifted (λ h. h.hit.witness) P Counted (middle_x c) (middle_y c)

    pub cylinder_placed : {h : CountedHit} {q : Vec3} → Answers (value h) (cylinder_answer s c finest) P
        → Lifts (middle_x c) (middle_y c) h.hit.witness q
        → Answers (value (record { hit = h; witness = q })) (lifted_cylinder s c) Counted
    unfolding lifted_cylinder
    cylinder_placed =
        hit_lifted (λ h. h.hit.witness) P Counted (middle_x c) (middle_y c) middle_of_cylinder
        (λ p. near p.bounded.z p.bounded.r) (λ p q. record { plain = p; placed = q })
