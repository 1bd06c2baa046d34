-- WHAT THE CYLINDER QUERY ANSWERS IS TRUE of every cylinder across the spindle that is not turned down, if box distance is true
-- of boxes: what the walk asks of the cylinder, the section and the settings is what the query's tests leave.
use Prim.Native.Nat.{◌+◌, ◌<◌, ◌^◌, ℕ}
use mathlib.Core.Bool.{false, true}
use mathlib.Core.List.{List, []}
use mathlib.Core.Path.{sym}
use native.Mathlib.Nat.{le_of_eq, le_trans}
use lib.Dec.{leb→le, T}
use lib.Ieee.{binary64, fin, fits, Float, inf, le, nan, of_bits}
use lib.Ieee.Fits.{and_i}
use lib.ListN.{get_or, length}
use lib.Ieee.Scale.{finite}
use Rattle.arith.proofs.roots.Rounding.KeyOrder.{nlt→key}
use Rattle.arith.specs.F64.{◌≼◌, 𝟘, 𝟙, e_9}
use Rattle.arith.proofs.Laws.Sizes.{finite_number_lem, Given, held_finite, zero_key, zero_number}
use Rattle.section.specs.profile.Refusals.{refusal}
use Rattle.section.specs.profile.Replies.{OfValue}
use Rattle.section.proofs.profile.Replies.{of_reply}
use Rattle.walk.specs.settings.Settings.{settings_tests}
use Rattle.walk.specs.declared.settings.shapes.Settings.{Settings}
use Rattle.walk.proofs.settings.Taken.{SettingsTaken}
use Rattle.walk.specs.declared.bands.shapes.Cylinder.{Cylinder}
use Rattle.walk.proofs.bands.Limit.{CylinderInLimit}
use Rattle.walk.proofs.Cover.Depth.{Tolerance}
use Rattle.walk.specs.cylinders.Cylinders.{cylinder_answer, cylinder_distance, cylinder_numbers, cylinder_tests}
use Rattle.walk.proofs.cylinders.Cover.Accepted.{accepted, settings_accepted}
use Rattle.bodies.specs.Bodies.{body_answer}
use Rattle.bodies.specs.declared.shapes.Body.TheVariants.{Cylinder as Bar}
use Rattle.truth.specs.Points.{full, Held, metre, Reach, WithinReach}
use Rattle.truth.specs.Boxes.{BoxTrue, Within}
use Rattle.truth.specs.Cylinders.{CylinderWithin, lost_of, TrueAcross}
use Rattle.truth.proofs.Places.{origin_is, place_is}
use Rattle.truth.proofs.Points.Accepted.{in_bounded, unit_of}
use Rattle.truth.proofs.Walk.Answers.{across_true}
use Rattle.truth.proofs.Walk.Scales.{bounded_within}

-- ---- settings: a tolerance from 1e-9 to 1 is finite
between : (x : Float) → T (e_9 ≼ x) → T (x ≼ 𝟙) → T (finite x)
unfolding le of_bits
between nan h k = h
between (inf true) h k = h
between (inf false) h k = k
between (fin s m e) h k = tt

pub tolerance : (t : Settings) → SettingsTaken t → T (fits binary64 t.tolerance) → Tolerance t.tolerance
tolerance t taken f =
    let x = t.tolerance in
    record { finite = and_i (fits binary64 x) (finite x) f (between x taken.fine taken.coarse); least = taken.fine }

-- ---- a cylinder of seven f64s, within a reach
in_reach : (m : Reach) (l : List Float) → WithinReach m l → (k : ℕ) → k < length l → Given 20 (get_or l k nan)
    → T (fits binary64 (get_or l k nan)) → Within (2 ^ (53 + unit_of m)) (get_or l k nan)
in_reach full l R k w X f = bounded_within 1094 (get_or l k nan) (held_finite X f).bounded
in_reach metre l R k w X f = bounded_within 1084 (get_or l k nan) (in_bounded metre (record { held = f; most = R k w }))

pub cylinder_within : (m : Reach) (c : Cylinder) → Held (cylinder_numbers c) → WithinReach m (cylinder_numbers c)
    → CylinderInLimit c
    → CylinderWithin (unit_of m) c
cylinder_within m c held R L = record {
  ax = within 0 (leb→le _ _ tt) L.ax;
  ay = within 1 (leb→le _ _ tt) L.ay;
  az = within 2 (leb→le _ _ tt) L.az;
  bx = within 3 (leb→le _ _ tt) L.bx;
  by = within 4 (leb→le _ _ tt) L.by;
  bz = within 5 (leb→le _ _ tt) L.bz;
  radius = within 6 (leb→le _ _ tt) L.radius;
  solid = rw (origin_is, place_is c.radius) (le_trans (le_of_eq (sym zero_key)) (nlt→key binary64 c.radius 𝟘
      (finite_number_lem (held_finite L.radius (held 6 (leb→le _ _ tt)))) zero_number L.solid));
}
  where
    within : (k : ℕ) (l : k < length (cylinder_numbers c)) → Given 20 (get_or (cylinder_numbers c) k nan)
        → Within (2 ^ (53 + unit_of m)) (get_or (cylinder_numbers c) k nan)
    within k l X = in_reach m (cylinder_numbers c) R k l X (held k l)

-- ---- THE QUERY: every section, every cylinder of seven f64s, settings whose tolerance is an f64
module _ (m : Reach) (s : List Float) (c : Cylinder) (held : Held (cylinder_numbers c)) (reach : WithinReach m (cylinder_numbers c))
    (t : Settings) (t_held : T (fits binary64 t.tolerance)) (Counts : ℕ → ℕ → ℕ → Type 0) (ε : ℕ)
    (D : BoxTrue ε (unit_of m) s Counts) where
  pub cylinder_answer_true : OfValue (TrueAcross (ε + lost_of m) c t Counts) (cylinder_answer s c t)
  unfolding cylinder_answer
  cylinder_answer_true =
      of_reply (TrueAcross (ε + lost_of m) c t Counts) (refusal (cylinder_tests s c [] (settings_tests t))) (cylinder_distance s c t)
      (λ e.
      let A = accepted s c [] (settings_tests t) tt e in
      let B = settings_accepted s c t e in
      across_true m s t (tolerance t B t_held) B.some_box Counts ε A.section D c
      (cylinder_within m c held reach A.cylinder))

  -- the same of the cylinder as a body
  pub body_answer_true : OfValue (TrueAcross (ε + lost_of m) c t Counts) (body_answer s (Bar c) t)
  unfolding body_answer cylinder_answer
  body_answer_true = cylinder_answer_true
