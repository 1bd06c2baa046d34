-- CLEAR MEANS CLEAR, of a cylinder across the spindle, straightened and as it leans, if box distance is true of boxes: one that
-- is judged clear has its clearance, but for the margin of its walk at 1e-9, what box distance may exceed, and 2 ^ -13 mm within
-- 1,024 mm. The walk's distance is at least the clearance and half the lean, but for roundings and the verdict's own 1e-9, which
-- are small beside the rest; half the lean is what the leaning cylinder needs.
use Prim.Native.Nat.{◌*◌, ◌+◌, ◌-◌, ◌^◌, ℕ, ◌≤◌}
use mathlib.Core.Bool.{Bool, false, not, true}
use mathlib.Core.List.{List, [], ◌∷◌, ◌++◌}
use mathlib.Core.Logic.{inl, inr, ◌⊎◌}
use mathlib.Core.Path.{◌≡◌, refl, subst, sym}
use native.Mathlib.Nat.{le_refl, le_trans, mul-le-mul, mul-le-mul_left}
use native.Mathlib.Omega.{arith}
use lib.Dec.{lit≤, T}
use lib.Ieee.{binary64, fits, Float, of_bits}
use Rattle.arith.proofs.roots.Rounding.Key.{key, magnitude, mid, unit}
use Rattle.arith.proofs.roots.Rounding.KeyOrder.{nlt→key}
use Rattle.arith.proofs.roots.Numbers.{decide}
use Rattle.arith.specs.F64.{◌⊕◌, ◌⊖◌, ◌⊗◌, ½, e_9}
use Rattle.arith.proofs.Laws.Sizes.{add_finite, e_9_finite, Finite, finite_number_lem, held_finite, K, M, sub_finite}
use Rattle.section.specs.profile.Refusals.{axis_tests, refusal}
use Rattle.section.specs.profile.Replies.{OfValue, value}
use Rattle.section.proofs.profile.Each.{All, all_rest, cons, nil}
use Rattle.section.proofs.profile.Refusals.Passed.{NumberTaken, taken}
use Rattle.section.proofs.profile.Replies.{of_reply}
use Rattle.section.proofs.Demand.Accepted.{taken_at_most}
use Rattle.section.proofs.Demand.AtMost.{at_most_given}
use Rattle.walk.specs.settings.Settings.{finest}
use Rattle.walk.proofs.settings.Taken.{finest_taken, settings_taken, SettingsTaken}
use Rattle.walk.specs.bands.Axis.{axis}
use Rattle.walk.specs.bands.Band.{band_of, exchanged}
use Rattle.walk.specs.declared.bands.shapes.Axis.{Axis}
use Rattle.walk.specs.declared.bands.shapes.Axis.TheVariants.{Axial, AlongX, AlongY, Neither}
use Rattle.walk.specs.declared.bands.shapes.Cylinder.{Cylinder}
use Rattle.walk.specs.declared.shapes.CountedHit.{CountedHit}
use Rattle.walk.specs.cylinders.Cylinders.{cylinder_distance, cylinder_numbers, cylinder_own, cylinder_tests}
use Rattle.walk.specs.cylinders.Promised.{across_spindle}
use Rattle.walk.proofs.cylinders.Cover.Accepted.{Accepted, accepted}
use Rattle.walk.proofs.cylinders.Demand.Cylinders.{cylinder_at_most}
use Rattle.bodies.specs.declared.shapes.Body.TheVariants.{Cylinder as Bar}
use Rattle.bodies.specs.verdicts.Tilt.{judged_distance, less_tilt, tilt_length}
use Rattle.bodies.specs.verdicts.Verdicts.{body_verdict, collides}
use Rattle.bodies.specs.walk_verdicts.WalkVerdicts.{judged_walk, walk_verdict}
use Rattle.bodies.specs.declared.walk_verdicts.shapes.JudgedWalk.{JudgedWalk}
use Rattle.truth.specs.Exact.{origin, place, units}
use Rattle.truth.specs.Points.{full, Held, metre, Reach, WithinReach}
use Rattle.truth.specs.Boxes.{BoxTrue}
use Rattle.truth.specs.Cylinders.{Clear, CylinderWithin, Kept, KeptAcross, Leaning, LeaningOf, lost_of, Margin, PointOf}
use Rattle.truth.specs.Cylinders.{Straight}
use Rattle.truth.proofs.Points.Accepted.{unit_of}
use Rattle.truth.proofs.Places.{origin_is, place_is}
use Rattle.arith.proofs.Laws.OperationErrors.{add_close, sub_close}
use Rattle.arith.proofs.Laws.RoundingError.{Close}
use Rattle.truth.proofs.Points.Verdicts.{judged_clear}
use Rattle.truth.proofs.Walk.Accepted.{cylinder_within, tolerance}
use Rattle.truth.proofs.Walk.Answers.{cylinder_true, exchange_clear, lost, swapped}
use Rattle.truth.proofs.Walk.Boxed.{units_key}
use Rattle.truth.proofs.Walk.HalfWidths.{Scaled}
use Rattle.truth.proofs.Walk.Leaning.{half_lean_finite, half_lean_least, lean_kept}
use Rattle.truth.proofs.Walk.Scales.{scaled_limit, scaled_metre}

-- ---- where distance less h + 1e-9, rounded, is not below the clearance, the clearance and h are no more than the distance and
-- 2 ^ -23 mm
pub sum_close : {d : Float} → Finite 29 d → Close (K (d ⊕ e_9) + M) (K d + K e_9) (2 ^ 1050)
sum_close {d} D =
    let N = e_9_finite.bounded in
    add_close binary64 d e_9 D.bounded.sure N.sure 1050 (unfold mid in lit≤ tt)
    (close (K d) (K e_9) M (2 ^ 1103) (2 ^ 1074) (2 ^ 1104) D.bounded.lower D.bounded.upper N.lower N.upper
    (lit≤ tt))
  where
    close : (d n m w v x : ℕ) → m ≤ d + w → d ≤ m + w → m ≤ n + v → n ≤ m + v → w + v ≤ x → Close (d + n) (m + m) x
    close d n m w v x a b c f g = record { over = omega arith; under = omega arith }

pub e_9_small : K e_9 ≤ M + 2 ^ 1049
unfolding mid key magnitude unit of_bits
e_9_small = lit≤ tt

less_close : {d h : Float} → Finite 28 d → Finite 21 h → Close (K (d ⊖ h) + K h) (M + K d) (2 ^ 1049)
less_close {d} {h} D N =
    sub_close binary64 d h D.bounded.sure N.bounded.sure 1049 (unfold mid in lit≤ tt)
    (close (K d) (K h) M (2 ^ 1102) (2 ^ 1095) (2 ^ 1103) D.bounded.lower D.bounded.upper N.bounded.lower
    N.bounded.upper (lit≤ tt))
  where
    close : (d n m w v x : ℕ) → m ≤ d + w → d ≤ m + w → m ≤ n + v → n ≤ m + v → w + v ≤ x → Close d n x
    close d n m w v x a b c f g = record { over = omega arith; under = omega arith }

not_above : {d h clearance : Float} → Finite 28 d → Finite 21 h → Finite 20 clearance → T (not (collides (d ⊖ h) clearance))
    → place clearance + place h - (origin + origin) ≤ units d + 2 ^ 1051
not_above {d} {h} {clearance} D N C k =
    let x = d ⊖ h in
    let X : Finite 29 x = sub_finite D N tt in
    let l = nlt→key binary64 (x ⊕ e_9) clearance (finite_number_lem (add_finite X e_9_finite tt)) (finite_number_lem C) k in
    rw (units_key d, place_is clearance, place_is h, origin_is)
    (go (K clearance) (K (x ⊕ e_9)) (K x) (K e_9) M (K h) (K d) (2 ^ 1049) (2 ^ 1050) (2 ^ 1051) l (sum_close X).over e_9_small
    (less_close D N).over (lit≤ tt))
  where
    go : (c y x n m h d v w s : ℕ) → c ≤ y → y + m ≤ x + n + w → n ≤ m + v → x + h ≤ m + d + v → v + v + w ≤ s
        → c + h - (m + m) ≤ d - m + s
    go c y x n m h d v w s a b e f g = omega arith

-- ---- what is kept
module _ {Points : ℕ → ℕ → ℕ → ℕ → Type 0} {Counts : ℕ → ℕ → ℕ → Type 0} where
  clear_less : (ε δ μ w w' : ℕ) → w' ≤ w + μ → ε + μ ≤ δ → Clear ε w Points Counts → Clear δ w' Points Counts
  clear_less ε δ μ w w' h l c = record {
    proof = λ n X Y Z q z r X' Y' C t T'.
        let a : w' - δ ≤ w - ε = omega arith in
        let b = mul-le-mul_left (n * q) a in
        le_trans (mul-le-mul b b) (c.proof n X Y Z q z r X' Y' C t T');
  }

  module _ {radius tol : Float} {was_cut : Bool} where
    -- w', no more than μ above w, is kept but for μ more
    kept_less : (ε δ μ w w' : ℕ) → w' ≤ w + μ → ε + μ ≤ δ → Kept ε w radius tol was_cut Points Counts
        → Kept δ w' radius tol was_cut Points Counts
    kept_less ε δ μ w w' h l k = record {
      uncut = λ c v m. clear_less (v + ε) (v + δ) μ w w' h (sums v ε μ δ l) (k.uncut c v m);
      cut = λ c. clear_less ε δ μ w w' h l (k.cut c);
    }
      where
        sums : (v x y z : ℕ) → x + y ≤ z → v + x + y ≤ v + z
        sums v x y z h = omega arith

  -- cut or not, it is kept but for the margin
  pub kept_less_margin : (ε w : ℕ) (radius tol : Float) (was_cut : Bool) → Kept ε w radius tol was_cut Points Counts
      → (v : ℕ) → Margin radius tol v → Clear (v + ε) w Points Counts
  kept_less_margin ε w radius tol false k v m = k.uncut refl v m
  kept_less_margin ε w radius tol true k v m = clear_less ε (v + ε) 0 w w (omega arith) (omega arith) (k.cut refl)

exchange_kept : (Points : ℕ → ℕ → ℕ → ℕ → Type 0) {Counts : ℕ → ℕ → ℕ → Type 0} {radius tol : Float} {was_cut : Bool} {ε w : ℕ}
    → Kept ε w radius tol was_cut Points Counts → Kept ε w radius tol was_cut (λ n X Y Z. Points n Y X Z) Counts
exchange_kept Points {ε = ε} {w = w} k = record {
  uncut = λ c v n. exchange_clear (v + ε) w Points (k.uncut c v n);
  cut = λ c. exchange_clear ε w Points (k.cut c);
}

-- ---- the finest settings
at_finest : SettingsTaken finest
at_finest = settings_taken finest finest_taken

nano_held : T (fits binary64 e_9)
unfolding of_bits fits
nano_held = tt

-- ---- THE VERDICTS: every section, every cylinder of seven f64s, every clearance that is an f64
module _ (s : List Float) (c : Cylinder) (held : Held (cylinder_numbers c)) (clearance : Float)
    (c-held : T (fits binary64 clearance)) (Counts : ℕ → ℕ → ℕ → Type 0) (ε : ℕ) where
  abbrev walked : CountedHit
  walked = cylinder_distance s c finest

  abbrev judged : Bool
  judged = collides (judged_distance (Bar c) walked.hit.distance) clearance

  module _ (e : refusal (cylinder_tests s c (clearance ∷ []) []) ≡ 0) where
    A : Accepted s c
    A = accepted s c (clearance ∷ []) [] tt e

    clearance_finite : Finite 20 clearance
    clearance_finite =
        let t = taken 3 256 (s ∷ []) (s ++ (cylinder_numbers c ++ (clearance ∷ [])))
        (axis_tests s ++ cylinder_own c.radius (axis c)) tt e in
        last (all_rest (cylinder_numbers c) (clearance ∷ []) (all_rest s (cylinder_numbers c ++ (clearance ∷ [])) t.numbers))
      where
        last : All NumberTaken (clearance ∷ []) → Finite 20 clearance
        last (cons x nil) = held_finite (at_most_given (taken_at_most clearance x)) c-held

    -- ---- along X, or along Y with x and y exchanged
    module _ (f m : ℕ) (S : Scaled f m) (δ : ℕ) (l : lost f + 2 ^ 1051 + 5 * 2 ^ f ≤ δ) where
      abbrev Walked : (ℕ → ℕ → ℕ → ℕ → Type 0) → Type 0
      Walked Points = Kept (ε + lost f) (units walked.hit.distance) c.radius e_9 walked.cut Points Counts

      abbrev Clears : (ℕ → ℕ → ℕ → ℕ → Type 0) → Type 0
      Clears Points = Kept (ε + δ) (units clearance) c.radius e_9 walked.cut Points Counts

      along_x_lem : (b : Cylinder) → CylinderWithin f b → T (not (collides (less_tilt AlongX b walked.hit.distance) clearance))
          → Walked (Straight (band_of b)) → Clears (Straight (band_of b)) × Clears (Leaning b)
      along_x_lem b B h k =
          let d = (cylinder_at_most A.section at_finest A.cylinder).distance in
          let n = tilt_length AlongX b ⊗ ½ in
          let w = place clearance + place n - (origin + origin) in
          let both = kept_less (ε + lost f) (ε + lost f + 2 ^ 1051) (2 ^ 1051) _ w
          (not_above d (half_lean_finite f m S B) clearance_finite h) (le_refl _) k in
          let low = half_lean_least f m S B in
          let o = sums ε (lost f) (2 ^ 1051) (5 * 2 ^ f) δ l in (
            kept_less (ε + lost f + 2 ^ 1051) (ε + δ) 0 w (units clearance) (least n low) o.0 both,
            lean_kept f m S B (ε + lost f + 2 ^ 1051) (ε + δ) w (units clearance) (enough n low) o.1 both,
          )
        where
          least : (n : Float) → M ≤ K n → units clearance ≤ place clearance + place n - (origin + origin) + 0
          least n h = rw (units_key clearance, place_is clearance, place_is n, origin_is) (go (K clearance) (K n) M h)
            where
              go : (c n m : ℕ) → m ≤ n → c - m ≤ c + n - (m + m) + 0
              go c n m h = omega arith

          enough : (n : Float) → M ≤ K n
              → (units clearance ≡ 0) ⊎ (units clearance + units n ≤ place clearance + place n - (origin + origin))
          enough n h =
              rw (units_key clearance, units_key n, place_is clearance, place_is n, origin_is) (go (K clearance) (K n) M h)
            where
              go : (c n m : ℕ) → m ≤ n → (c - m ≡ 0) ⊎ (c - m + (n - m) ≤ c + n - (m + m))
              go c n m h = elim (decide c m) [ inl l ↦ inl (omega arith) | inr l ↦ inr (omega arith) ]

          sums : (x a b d c : ℕ) → a + b + d ≤ c → (x + a + b + 0 ≤ x + c) × (x + a + b + d ≤ x + c)
          sums x a b d c h = (omega arith, omega arith)

      by_axis : (a : Axis) → CylinderWithin f c → T (across_spindle a)
          → T (not (collides (less_tilt a c walked.hit.distance) clearance)) → Walked (PointOf a c)
          → Clears (PointOf a c) × Clears (LeaningOf a c)
      by_axis Axial C i h k = absurd i
      by_axis AlongX C i h k = along_x_lem c C h k
      by_axis AlongY C i h k =
          let x = along_x_lem (exchanged c) (swapped f C) h (exchange_kept (λ n X Y Z. Straight (band_of (exchanged c)) n Y X Z) k) in
          (exchange_kept (Straight (band_of (exchanged c))) x.0, exchange_kept (Leaning (exchanged c)) x.1)
      by_axis Neither C i h k = absurd i

      clear_at : CylinderWithin f c → BoxTrue ε f s Counts → T (not judged) → KeptAcross (ε + δ) c clearance Counts walked.cut
      clear_at C D h i =
          let t = tolerance finest at_finest nano_held in
          let x = by_axis (axis c) C i h (cylinder_true f m S s finest t at_finest.some_box Counts ε D A.section c C i) in
          record { straightened = x.0; leaning = x.1 }

    clear_reach : (m : Reach) → WithinReach m (cylinder_numbers c) → BoxTrue ε (unit_of m) s Counts → T (not judged)
        → KeptAcross (ε + lost_of m) c clearance Counts walked.cut
    clear_reach full R D = clear_at 1041 1060 scaled_limit (2 ^ 1071) (lit≤ tt) (cylinder_within full c held R A.cylinder) D
    clear_reach metre R D = clear_at 1031 1040 scaled_metre (2 ^ 1061) (lit≤ tt) (cylinder_within metre c held R A.cylinder) D

  -- ---- A CYLINDER ACROSS THAT IS JUDGED CLEAR keeps its clearance, less what a walk loses, the margin and what box distance may
  -- exceed
  pub cylinder_verdict_clear : (m : Reach) → WithinReach m (cylinder_numbers c) → BoxTrue ε (unit_of m) s Counts
      → body_verdict s (Bar c) clearance ≡ value false → KeptAcross (ε + lost_of m) c clearance Counts walked.cut
  unfolding body_verdict
  cylinder_verdict_clear m R D e =
      let h = judged_clear (refusal (cylinder_tests s c (clearance ∷ []) [])) judged e in
      clear_reach h.0 m R D h.1

  -- ---- the verdict that tells whether its walk was cut
  abbrev pub ClearKeeps : ℕ → JudgedWalk → Type 0
  ClearKeeps δ w = w.collision ≡ false → KeptAcross (ε + δ) c clearance Counts w.cut

  told : (δ : ℕ) → (refusal (cylinder_tests s c (clearance ∷ []) []) ≡ 0 → T (not judged)
      → KeptAcross (ε + δ) c clearance Counts walked.cut)
      → OfValue (ClearKeeps δ) (walk_verdict s c clearance)
  unfolding walk_verdict
  told δ f =
      of_reply (ClearKeeps δ) (refusal (cylinder_tests s c (clearance ∷ []) [])) (judged_walk (axis c) c clearance walked)
      (λ e h. f e (subst (λ (b : Bool). T (not b)) (sym h) tt))

  pub walk_verdict_clear : (m : Reach) → WithinReach m (cylinder_numbers c)
      → (refusal (cylinder_tests s c (clearance ∷ []) []) ≡ 0 → BoxTrue ε (unit_of m) s Counts)
      → OfValue (ClearKeeps (lost_of m)) (walk_verdict s c clearance)
  walk_verdict_clear m R D = told (lost_of m) (λ e. clear_reach e m R (D e))
