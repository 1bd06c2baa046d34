-- CYLINDERS ACROSS THE SPINDLE, WITH NOTHING GIVEN: box distance is true of the section's edges, and of the solid where the
-- section is sound, so what the walk makes of it is. Of every section and every cylinder that is not turned down, at both
-- reaches.
use Prim.Native.Nat.{ℕ}
use mathlib.Core.Bool.{false}
use mathlib.Core.List.{◌++◌, ◌∷◌, [], List}
use mathlib.Core.Path.{◌≡◌}
use lib.Dec.{T}
use lib.Ieee.{binary64, fits, Float}
use Rattle.section.specs.profile.Refusals.{axis_tests, refusal}
use Rattle.section.specs.profile.Replies.{OfValue, value}
use Rattle.section.proofs.profile.Each.{All, all_first}
use Rattle.section.proofs.profile.Refusals.Passed.{NumberTaken, taken}
use Rattle.section.proofs.profile.Replies.{of_reply}
use Rattle.walk.specs.settings.Settings.{finest, settings_tests}
use Rattle.walk.specs.declared.settings.shapes.Settings.{Settings}
use Rattle.walk.specs.bands.Axis.{axis}
use Rattle.walk.specs.declared.bands.shapes.Cylinder.{Cylinder}
use Rattle.walk.specs.cylinders.Cylinders.{cylinder_answer, cylinder_distance, cylinder_numbers, cylinder_own, cylinder_tests}
use Rattle.walk.proofs.cylinders.Cover.Accepted.{accepted, settings_accepted}
use Rattle.bodies.specs.declared.shapes.Body.TheVariants.{Cylinder as Bar}
use Rattle.bodies.specs.verdicts.Tilt.{judged_distance}
use Rattle.bodies.specs.verdicts.Verdicts.{body_verdict, collides}
use Rattle.bodies.specs.walk_verdicts.WalkVerdicts.{walk_verdict}
use Rattle.bodies.specs.declared.walk_verdicts.shapes.JudgedWalk.{JudgedWalk}
use Rattle.truth.specs.Points.{Held, Reach, WithinReach}
use Rattle.truth.specs.Solid.{sound}
use Rattle.truth.specs.Boxes.{BoxTrue, InSolid, OnEdges}
use Rattle.truth.specs.Cylinders.{across_loss, KeptAcross, TrueAcross, walk_box_loss}
use Rattle.truth.proofs.Points.Accepted.{numbers_in, unit_of, vertices_in}
use Rattle.truth.proofs.Points.Verdicts.{judged_clear}
use Rattle.truth.proofs.Boxes.Sections.{box_true, Vertices}
use Rattle.truth.proofs.Boxes.SolidSections.{box_true_solid, plain_within}
use Rattle.truth.proofs.Walk.Accepted.{cylinder_within, tolerance}
use Rattle.truth.proofs.Walk.Answers.{across_true}
use Rattle.truth.proofs.Walk.Verdicts.{cylinder_verdict_clear, walk_verdict_clear}

module _ (m : Reach) (s : List Float) (c : Cylinder) (S : Held s) (C : Held (cylinder_numbers c)) (S' : WithinReach m s)
    (C' : WithinReach m (cylinder_numbers c)) where
  vertices : All NumberTaken s → Vertices (unit_of m) s
  vertices A = vertices_in m s (numbers_in m s S S' A)

  -- ---- of whatever points box distance is true
  module _ (Counts : ℕ → ℕ → ℕ → Type 0) (boxes : All NumberTaken s → BoxTrue (walk_box_loss m) (unit_of m) s Counts) where
    answer_of : (t : Settings) → T (fits binary64 t.tolerance)
        → OfValue (TrueAcross (across_loss m) c t Counts) (cylinder_answer s c t)
    unfolding cylinder_answer
    answer_of t f =
        of_reply (TrueAcross (across_loss m) c t Counts) (refusal (cylinder_tests s c [] (settings_tests t)))
        (cylinder_distance s c t)
        (λ e.
        let A = accepted s c [] (settings_tests t) tt e in
        let B = settings_accepted s c t e in
        let T' = taken 3 256 (s ∷ []) (s ++ (cylinder_numbers c ++ []))
        (settings_tests t ++ (axis_tests s ++ cylinder_own c.radius (axis c))) tt e in
        across_true m s t (tolerance t B f) B.some_box Counts (walk_box_loss m) A.section
        (boxes (all_first s (cylinder_numbers c ++ []) T'.numbers)) c (cylinder_within m c C C' A.cylinder))

    -- what the verdicts' tests let through
    boxes_judged : (clearance : Float) → refusal (cylinder_tests s c (clearance ∷ []) []) ≡ 0
        → BoxTrue (walk_box_loss m) (unit_of m) s Counts
    boxes_judged clearance e =
        let T' = taken 3 256 (s ∷ []) (s ++ (cylinder_numbers c ++ (clearance ∷ [])))
        (axis_tests s ++ cylinder_own c.radius (axis c)) tt e in
        boxes (all_first s (cylinder_numbers c ++ (clearance ∷ [])) T'.numbers)

    verdict_of : (clearance : Float) → T (fits binary64 clearance) → body_verdict s (Bar c) clearance ≡ value false
        → KeptAcross (across_loss m) c clearance Counts (cylinder_distance s c finest).cut
    unfolding body_verdict
    verdict_of clearance f e =
        let h = judged_clear (refusal (cylinder_tests s c (clearance ∷ []) []))
        (collides (judged_distance (Bar c) (cylinder_distance s c finest).hit.distance) clearance) e in
        cylinder_verdict_clear s c C clearance f Counts (walk_box_loss m) m C' (boxes_judged clearance h.0) e

    walk_verdict_of : (clearance : Float) → T (fits binary64 clearance)
        → OfValue (λ (w : JudgedWalk). w.collision ≡ false → KeptAcross (across_loss m) c clearance Counts w.cut)
        (walk_verdict s c clearance)
    walk_verdict_of clearance f = walk_verdict_clear s c C clearance f Counts (walk_box_loss m) m C' (boxes_judged clearance)

  -- ---- THE QUERY: uncut, what is reported exceeds the distance to no edge by more than the margin and across_loss; cut, by no
  -- more than across_loss
  pub cylinder_answer_edges : (t : Settings) → T (fits binary64 t.tolerance)
      → OfValue (TrueAcross (across_loss m) c t (OnEdges s)) (cylinder_answer s c t)
  cylinder_answer_edges = answer_of (OnEdges s) (λ A. box_true m s (vertices A))

  -- and of a sound section to no point of the solid
  pub cylinder_answer_solid : T (sound s) → (t : Settings) → T (fits binary64 t.tolerance)
      → OfValue (TrueAcross (across_loss m) c t (InSolid s)) (cylinder_answer s c t)
  cylinder_answer_solid h = answer_of (InSolid s) (λ A. box_true_solid m s (vertices A) (plain_within m s (vertices A) h))

  -- ---- THE VERDICT: judged clear, the clearance is kept from every edge, but for across_loss, and the margin at 1e-9 where the
  -- walk was uncut
  pub cylinder_verdict_edges : (clearance : Float) → T (fits binary64 clearance) → body_verdict s (Bar c) clearance ≡ value false
      → KeptAcross (across_loss m) c clearance (OnEdges s) (cylinder_distance s c finest).cut
  cylinder_verdict_edges = verdict_of (OnEdges s) (λ A. box_true m s (vertices A))

  -- CLEAR MEANS CLEAR OF THE SOLID: of a sound section it is kept from every point of the solid
  pub cylinder_verdict_solid : T (sound s) → (clearance : Float) → T (fits binary64 clearance)
      → body_verdict s (Bar c) clearance ≡ value false
      → KeptAcross (across_loss m) c clearance (InSolid s) (cylinder_distance s c finest).cut
  cylinder_verdict_solid h = verdict_of (InSolid s) (λ A. box_true_solid m s (vertices A) (plain_within m s (vertices A) h))

  -- ---- THE VERDICT THAT TELLS whether its walk was cut: the same
  pub walk_verdict_edges : (clearance : Float) → T (fits binary64 clearance)
      → OfValue (λ (w : JudgedWalk). w.collision ≡ false → KeptAcross (across_loss m) c clearance (OnEdges s) w.cut)
      (walk_verdict s c clearance)
  walk_verdict_edges = walk_verdict_of (OnEdges s) (λ A. box_true m s (vertices A))

  pub walk_verdict_solid : T (sound s) → (clearance : Float) → T (fits binary64 clearance)
      → OfValue (λ (w : JudgedWalk). w.collision ≡ false → KeptAcross (across_loss m) c clearance (InSolid s) w.cut)
      (walk_verdict s c clearance)
  walk_verdict_solid h = walk_verdict_of (InSolid s) (λ A. box_true_solid m s (vertices A) (plain_within m s (vertices A) h))
