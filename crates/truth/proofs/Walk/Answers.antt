-- THE THEOREMS, in the words of specs/Straight.
use Prim.Native.Nat.{◌*◌, ◌+◌, ◌-◌, ◌<◌, ◌^◌, suc, ℕ, ◌≤◌}
use mathlib.Core.Bool.{false, true≢false}
use mathlib.Core.List.{List}
use mathlib.Core.Logic.{inl, inr, ◌⊎◌}
use mathlib.Core.Path.{◌≡◌, ap, refl, sym, ◌∙◌}
use native.Mathlib.Nat.{le_of_eq, le_trans, mul_assoc, mul-le-mul, mul-le-mul_left, mul-le-mul_right, not-le_of_lt}
use native.Mathlib.Omega.{arith}
use lib.Dec.{lit≤, not_T, T}
use lib.Ieee.{binary64, fits, Float, of_bits, prec}
use lib.Pow.{pow-add, pow_pos}
use Rattle.arith.proofs.roots.Rounding.Key.{finite_number, key, magnitude, mid, number_of, unit}
use Rattle.arith.proofs.roots.Rounding.KeyOrder.{lt→key}
use Rattle.arith.specs.F64.{◌⊖◌, ◌≺◌, ◌≼◌, 𝟘, ½, e_15}
use Rattle.arith.proofs.Laws.Bounded.{bounded_up, overflow}
use Rattle.arith.proofs.Laws.BoundedValue.{add_value, bounded→value, BoundedValue, mul_value}
use Rattle.arith.proofs.Laws.Sizes.{Given, K, M, max_keeps, min_keeps, zero_key, zero_number}
use Rattle.section.proofs.profile.Steps.{pick}
use Rattle.section.specs.boxes.Boxes.{box_distance}
use Rattle.section.proofs.Demand.Hits.{VerticesAtMost}
use Rattle.walk.specs.declared.settings.shapes.Settings.{Settings}
use Rattle.walk.specs.bands.Axis.{axis}
use Rattle.walk.specs.bands.Band.{band_of, exchanged, mean}
use Rattle.walk.specs.declared.bands.shapes.Axis.{Axis}
use Rattle.walk.specs.declared.bands.shapes.Axis.TheVariants.{Axial, AlongX, AlongY, Neither}
use Rattle.walk.specs.declared.bands.shapes.Cylinder.{Cylinder}
use Rattle.walk.specs.declared.bands.shapes.RadialBand.{RadialBand}
use Rattle.walk.proofs.bands.Limit.{band_of_in_limit, CylinderInLimit, InLimit}
use Rattle.walk.specs.pieces.Pieces.{piece_box, variation}
use Rattle.walk.specs.declared.pieces.shapes.Piece.{Piece}
use Rattle.walk.specs.Walk.{band_distance, reported, thin_box, Walk, walk_all, walked}
use Rattle.walk.specs.declared.shapes.CountedHit.{CountedHit}
use Rattle.walk.proofs.Cover.Covers.{Coverable}
use Rattle.walk.proofs.Cover.Depth.{Tolerance}
use Rattle.walk.specs.cylinders.Cylinders.{cylinder_distance}
use Rattle.walk.specs.cylinders.Promised.{across_spindle}
use Rattle.arith.specs.Whole.{apart}
use Rattle.truth.specs.Exact.{origin, size, sqd, units}
use Rattle.truth.specs.Points.{full, metre, Reach}
use Rattle.truth.specs.Boxes.{BoxTrue, Within}
use Rattle.truth.specs.Cylinders.{AnswerTrue, BandWithin, Clear, CylinderWithin, InSettledBox, lost_of, Margin, PointOf}
use Rattle.truth.specs.Cylinders.{RootMargin, space², Straight}
use Rattle.truth.proofs.Points.Accepted.{unit_of}
use Rattle.truth.proofs.Places.{origin_is, place_is}
use Rattle.truth.proofs.Walk.HalfWidths.{Scaled, size_is_key, size_of}
use Rattle.truth.proofs.Walk.Margin.{margin, PieceWithin}
use Rattle.truth.proofs.Walk.Boxed.{nearest, units_key}
use Rattle.truth.proofs.Walk.Scales.{band_sized, bounded_within, in_cylinder, roots, roots_enough, scaled_limit}
use Rattle.truth.proofs.Walk.Scales.{scaled_metre, size_key, within_bounded}
use Rattle.truth.proofs.Walk.Settled.{around_at, covered_at}
use Rattle.truth.proofs.Walk.Thin.{thin_far}
use Rattle.truth.proofs.Walk.Walk.{cut_true, tolerance_least, uncut_true}

half_value : BoundedValue binary64 1073 ½
unfolding mid key magnitude unit of_bits fits
half_value = bounded→value binary64 1073 ½ (record { sure = tt; lower = lit≤ tt; upper = lit≤ tt })

less_root : (k a c w : ℕ) → a ≤ c → k * (w - c) * (k * (w - c)) ≤ k * (w - a) * (k * (w - a))
less_root k a c w h = let l : w - c ≤ w - a = omega arith in let o = mul-le-mul_left k l in mul-le-mul o o

-- the size of what is not negative
over_mid : (x : Float) → M ≤ K x → K x - M ≡ size x
over_mid x h = go (K x) M (size_of x) (size_is_key x h) ∙ sym (size_key x)
  where
    go : (k m s : ℕ) → k ≡ m + s → k - m ≡ s
    go k m s q = omega arith

-- what the walk loses beside the margin and what box distance may exceed: seven eighths of 2 ^ 30 u
abbrev pub lost : ℕ → ℕ
lost e = 7 * 2 ^ (27 + e)

enough : (e : ℕ) → (2 * roots + 134217745) * 2 ^ e ≤ lost e
enough e =
    let f : 2 * roots + 134217745 ≤ 7 * 2 ^ 27 = lit≤ tt in
    le_trans (mul-le-mul_right (2 ^ e) f) (le_of_eq (mul_assoc 7 (2 ^ 27) (2 ^ e) ∙ ap (λ z. 7 * z) (sym (pow-add 2 27 e))))

-- a box about a point loses no more
one_more : (e ε : ℕ) → ε + (2 ^ e + ((roots + 2) * 2 ^ e + 2 * 2 ^ e + 2)) ≤ ε + lost e
one_more e ε = go ε roots (2 ^ e) (lost e) (pow_pos e) (enough e)
  where
    go : (x g u c : ℕ) → 0 < u → (2 * g + 134217745) * u ≤ c → x + (u + ((g + 2) * u + 2 * u + 2)) ≤ x + c
    go x g u c o h = omega arith

-- MARGIN: 2 ^ 29 u, for every piece whose width, as rounded, is at most the tolerance
pub root_margin : (e m : ℕ) → Scaled e m → {b : RadialBand} → InLimit b → BandWithin e b → {p : Piece} → PieceWithin e p
    → (tol : Float) → T (finite_number binary64 tol) → M ≤ K tol
    → T (p.z1 ⊖ p.z0 ≼ tol) → RootMargin (2 ^ (29 + e)) b tol p
root_margin e m S {b} L B {p} P tol f t h =
    rw (units_key (variation b p), size_key b.radius, ← over_mid tol t)
    (le_trans (small (K (variation b p) - M) (le_trans (mul-le-mul_right (2 ^ e) few) (le_of_eq (sym (pow-add 2 29 e)))))
    (margin e m S (band_sized e B) P L tol f t h roots roots_enough))
  where
    few : roots + 10 ≤ 2 ^ 29
    few = lit≤ tt

    small : (v : ℕ) → (roots + 10) * 2 ^ e ≤ 2 ^ (29 + e)
        → (v - 2 ^ (29 + e)) * (v - 2 ^ (29 + e)) ≤ (v - (roots + 10) * 2 ^ e) * (v - (roots + 10) * 2 ^ e)
    small v h = go ((roots + 10) * 2 ^ e) (2 ^ (29 + e)) h
      where
        go : (a c : ℕ) → a ≤ c → (v - c) * (v - c) ≤ (v - a) * (v - a)
        go a c h = let l : v - c ≤ v - a = omega arith in mul-le-mul l l

-- INSIDE: 2 ^ 29 u
pub inside_true : (e m : ℕ) → Scaled e m → (s : List Float) (b : RadialBand) (tol : Float) (cap n : ℕ)
    → Coverable b tol cap → BandWithin e b → (walk_all s b tol cap n).cut ≡ false
    → (k X Y Z : ℕ) → Straight b k X Y Z → InSettledBox (2 ^ (29 + e)) s b tol (walk_all s b tol cap n) k X Y Z
inside_true e m S s b tol cap n O B c k X Y Z C =
    let D = in_cylinder C in
    let v = covered_at e m S s b tol cap n O (band_sized e B) roots roots_enough D c in
    let x = piece_box b v.piece in
    let A = around_at e m S s b tol cap n O (band_sized e B) roots roots_enough D c in
    record {
      z = nearest e m S (band_sized e B) O.band roots roots_enough D;
      covered = v;
      inside = record {
        z_low = rw (place_is x.z0) (le_trans A.z_low (add Z (mul-le-mul_left k unit_less)));
        z_high = rw (place_is x.z1) (le_trans A.z_high (add (k * K x.z1) (mul-le-mul_left k unit_less)));
        r_low = rw (units_key x.r0, origin_is)
            (le_trans (less_root k ((roots + 2) * 2 ^ e + 2 * 2 ^ e) (2 ^ (29 + e)) (K x.r0 - M) wide)
            (le_trans A.r_low (le_of_eq squares)));
        r_high = rw (units_key x.r1, origin_is)
            (le_trans (le_of_eq (sym squares)) (le_trans A.r_high (more_root (K x.r1 - M) wide)));
      };
    }
  where
    wide : (roots + 2) * 2 ^ e + 2 * 2 ^ e ≤ 2 ^ (29 + e)
    wide = let f : roots + 4 ≤ 2 ^ 29 = lit≤ tt in
        le_trans (le_of_eq (four roots (2 ^ e))) (le_trans (mul-le-mul_right (2 ^ e) f) (le_of_eq (sym (pow-add 2 29 e))))
      where
        four : (g u : ℕ) → (g + 2) * u + 2 * u ≡ (g + 4) * u
        four g u = omega arith

    unit_less : 2 ^ e ≤ 2 ^ (29 + e)
    unit_less = le_trans (less roots (2 ^ e)) wide
      where
        less : (g u : ℕ) → u ≤ (g + 2) * u + 2 * u
        less g u = omega arith

    add : (a : ℕ) {b c : ℕ} → b ≤ c → a + b ≤ a + c
    add a h = omega arith

    squares : apart X (k * M) * apart X (k * M) + apart Y (k * M) * apart Y (k * M) ≡ sqd X (k * M) + sqd Y (k * M)
    squares = unfold sqd in refl

    more_root : (r : ℕ) {a c : ℕ} → a ≤ c → k * (r + a) * (k * (r + a)) ≤ k * (r + c) * (k * (r + c))
    more_root r h = let l = mul-le-mul_left k (add r h) in mul-le-mul l l

-- W: the loss beyond what box distance may exceed
pub walk_true : (e m : ℕ) → Scaled e m → (s : List Float) (b : RadialBand) (tol : Float) (cap n : ℕ)
    → Coverable b tol cap → BandWithin e b
    → (Counts : ℕ → ℕ → ℕ → Type 0) (ε : ℕ) → BoxTrue ε e s Counts → VerticesAtMost 23 s
    → AnswerTrue (ε + lost e) b.radius tol (walked (walk_all s b tol cap n)) (Straight b) Counts
walk_true e m S s b tol cap n O B Counts ε D numbers = record {
  uncut = λ c v h. record {
    proof = λ k X Y Z q z r X' Y' C t T'. le_trans
        (less_root (k * q) (v + (ε + (2 * roots + 134217745) * 2 ^ e)) (v + (ε + lost e)) (units (reported w)) (more v))
        (uncut_true e m S s b tol cap n O (band_sized e B) roots roots_enough Counts ε D numbers c v (margin_key v h)
        (in_cylinder C) q z r X' Y' t T');
  };
  cut = λ c. record {
    proof = λ k X Y Z q z r X' Y' C t T'. le_trans
        (less_root (k * q) (ε + (2 ^ e + ((roots + 2) * 2 ^ e + 2 * 2 ^ e + 2))) (ε + lost e) (units (reported w)) (one_more e ε))
        (cut_true e m S s b tol cap n O (band_sized e B) roots roots_enough Counts ε D numbers c
        (in_cylinder C) q z r X' Y' t T');
  };
}
  where
    w : Walk
    w = walk_all s b tol cap n

    τ : K tol - M ≡ size tol
    τ = over_mid tol (tolerance_least e m S s b tol cap n O (band_sized e B) roots roots_enough Counts ε D numbers)

    product : {a b c d : ℕ} → a ≡ b → c ≡ d → a * c ≡ b * d
    product p q = rw (p, q) refl

    margin_key : (v : ℕ) → Margin b.radius tol v
        → (size_of b.radius ≤ v) ⊎ ((K tol - M ≤ v) × (2 * (size_of b.radius * (K tol - M)) ≤ v * v))
    margin_key v (inl h) = inl (le_trans (le_of_eq (sym (size_key b.radius))) h)
    margin_key v (inr h) =
        inr (le_trans (le_of_eq τ) h.0, le_trans (le_of_eq (ap (λ z. 2 * z) (product (sym (size_key b.radius)) τ))) h.1)

    more : (v : ℕ) → v + (ε + (2 * roots + 134217745) * 2 ^ e) ≤ v + (ε + lost e)
    more v = go v ε ((2 * roots + 134217745) * 2 ^ e) (lost e) (enough e)
      where
        go : (v x a c : ℕ) → a ≤ c → v + (x + a) ≤ v + (x + c)
        go v x a c h = omega arith

less_clear : (ε v w : ℕ) {Points : ℕ → ℕ → ℕ → ℕ → Type 0} {Counts : ℕ → ℕ → ℕ → Type 0} → Clear ε w Points Counts
    → Clear (v + ε) w Points Counts
less_clear ε v w c =
    record {
      proof = λ n X Y Z q z r X' Y' C t T'. le_trans (less_root (n * q) ε (v + ε) w (let l : ε ≤ v + ε = omega arith in l))
          (c.proof n X Y Z q z r X' Y' C t T');
    }

-- a band: its walk, or its one box where it is thin
pub band_true : (e m : ℕ) → Scaled e m → (s : List Float) (b : RadialBand) (t : Settings) → Coverable b t.tolerance t.most
    → BandWithin e b
    → (Counts : ℕ → ℕ → ℕ → Type 0) (ε : ℕ) → BoxTrue ε e s Counts → VerticesAtMost 23 s
    → AnswerTrue (ε + lost e) b.radius t.tolerance (band_distance s b t) (Straight b) Counts
unfolding band_distance
band_true e m S s b t O B Counts ε D numbers =
    pick (λ (a : CountedHit). AnswerTrue (ε + lost e) b.radius t.tolerance a (Straight b) Counts) (b.radius ≼ e_15)
    (λ h. record {
      uncut = λ c v k. less_clear (ε + lost e) v (units (box_distance s (thin_box b)).distance) (thin h);
      cut =
          λ c. absurd (true≢false (sym c));
    })
    (λ h. walk_true e m S s b t.tolerance t.most t.intervals O B Counts ε D numbers)
  where
    thin : T (b.radius ≼ e_15) → Clear (ε + lost e) (units (box_distance s (thin_box b)).distance) (Straight b) Counts
    thin h = record {
      proof = λ k X Y Z q z r X' Y' C c T'. le_trans
          (less_root (k * q) (ε + (2 ^ e + ((roots + 2) * 2 ^ e + 2 * 2 ^ e + 2))) (ε + lost e)
          (units (box_distance s (thin_box b)).distance) (one_more e ε))
          (thin_far e m S (band_sized e B) O.band h roots roots_enough (in_cylinder C) s Counts ε D q z r X' Y' c T');
    }

-- ---- cylinders
pub cylinder_sized : (e m : ℕ) → Scaled e m → {c : Cylinder} → CylinderWithin e c → BandWithin e (band_of c)
unfolding band_of
cylinder_sized e m S {c} C = record {
  x0 = min_keeps (Within (2 ^ (53 + e))) C.ax C.bx;
  x1 = max_keeps (Within (2 ^ (53 + e))) C.ax C.bx;
  yc = mid_of C.ay C.by;
  zc = mid_of C.az C.bz;
  radius = C.radius;
  solid = C.solid;
}
  where
    mid_of : {x y : Float} → Within (2 ^ (53 + e)) x → Within (2 ^ (53 + e)) y → Within (2 ^ (53 + e)) (mean x y)
    mid_of {x} {y} X Y =
        bounded_within (53 + e) (mean x y)
        (mul_value binary64 (prec binary64 + suc e) 1073 (prec binary64 + e)
        (let l = S.range in let q : prec binary64 + e < overflow binary64 = omega arith in q) (omega arith)
        (bounded→value binary64 _ _
        (add_value binary64 (prec binary64 + e) (prec binary64 + e) (prec binary64 + suc e)
        (let l = S.range in let q : prec binary64 + suc e < overflow binary64 = omega arith in q) (omega arith) (omega arith)
        (bounded→value binary64 _ _ (within_bounded (53 + e) x X)) (bounded→value binary64 _ _ (within_bounded (53 + e) y Y))))
        half_value)

cylinder_limit : (e m : ℕ) → Scaled e m → {c : Cylinder} → CylinderWithin e c → CylinderInLimit c
cylinder_limit e m S {c} C = record {
  ax = given C.ax;
  ay = given C.ay;
  az = given C.az;
  bx = given C.bx;
  by = given C.by;
  bz = given C.bz;
  radius = given C.radius;
  solid = not_T (c.radius ≺ 𝟘)
      (λ h. not-le_of_lt
      (lt→key binary64 c.radius 𝟘 (number_of binary64 _ (within_bounded (53 + e) c.radius C.radius).sure) zero_number h)
      (le_trans (le_of_eq zero_key) (rw (place_is c.radius, origin_is) at C.solid)));
}
  where
    given : {x : Float} → Within (2 ^ (53 + e)) x → Given 20 x
    given {x} X =
        record {
          value =
              bounded→value binary64 1094 x
              (bounded_up binary64 (53 + e) 1094 x (let l = S.limit in let q : 53 + e ≤ 1094 = omega arith in q)
              (within_bounded (53 + e) x X));
        }

pub swapped : {c : Cylinder} (e : ℕ) → CylinderWithin e c → CylinderWithin e (exchanged c)
swapped e C =
    record { ax = C.ay; ay = C.ax; az = C.az; bx = C.by; by = C.bx; bz = C.bz; radius = C.radius; solid = C.solid }

pub exchange_clear : (ε w : ℕ) (Points : ℕ → ℕ → ℕ → ℕ → Type 0) {Counts : ℕ → ℕ → ℕ → Type 0} → Clear ε w Points Counts
    → Clear ε w (λ n X Y Z. Points n Y X Z) Counts
unfolding space²
exchange_clear ε w Points c = record {
  proof = λ n X Y Z q z r X' Y' C t T'. le_trans
      (c.proof n Y X Z q z r Y' X' C t
      (record { above = T'.above; circle = sum (sqd Y' (q * origin)) (sqd X' (q * origin)) ∙ T'.circle }))
      (le_of_eq (ap (λ y. sqd (q * Z) (n * z) + y) (sum (sqd (q * Y) (n * Y')) (sqd (q * X) (n * X')))));
}
  where
    sum : (a b : ℕ) → a + b ≡ b + a
    sum a b = omega arith

module _ (e m : ℕ) (S : Scaled e m) (s : List Float) (t : Settings) (τ : Tolerance t.tolerance) (one : 1 ≤ t.most) (Counts : ℕ
    → ℕ → ℕ → Type 0) (ε : ℕ) (D : BoxTrue ε e s Counts)
    (numbers : VerticesAtMost 23 s) where
  abbrev Answered : Cylinder → CountedHit → (ℕ → ℕ → ℕ → ℕ → Type 0) → Type 0
  Answered c a Points = AnswerTrue (ε + lost e) c.radius t.tolerance a Points Counts

  along_x_lem : (c : Cylinder) → CylinderWithin e c → Answered c (band_distance s (band_of c) t) (Straight (band_of c))
  unfolding band_of
  along_x_lem c C =
      band_true e m S s (band_of c) t
      (record {
        band = band_of_in_limit (cylinder_limit e m S C);
        held = (cylinder_sized e m S C).radius.held;
        tolerance =
            τ;
        some_box = one;
      }) (cylinder_sized e m S C) Counts ε D numbers

  along_y_lem : (c : Cylinder) → CylinderWithin e c
      → Answered c (band_distance s (band_of (exchanged c)) t) (λ n X Y Z. Straight (band_of (exchanged c)) n Y X Z)
  along_y_lem c C =
      let a = along_x_lem (exchanged c) (swapped e C) in
      let w = units (band_distance s (band_of (exchanged c)) t).hit.distance in
      record {
        uncut = λ q v k. exchange_clear (v + (ε + lost e)) w (Straight (band_of (exchanged c))) (a.uncut q v k);
        cut = λ q. exchange_clear (ε + lost e) w (Straight (band_of (exchanged c))) (a.cut q);
      }

  -- THE CYLINDER'S ANSWER: along X and along Y, at every setting that is taken
  pub cylinder_true : (c : Cylinder) → CylinderWithin e c → T (across_spindle (axis c))
      → Answered c (cylinder_distance s c t) (PointOf (axis c) c)
  unfolding cylinder_distance
  cylinder_true c C i = by (axis c) refl i
    where
      by : (a : Axis) → axis c ≡ a → T (across_spindle a) → Answered c (cylinder_distance s c t) (PointOf (axis c) c)
      by Axial j i = absurd i
      by AlongX j i = rw j (along_x_lem c C)
      by AlongY j i = rw j (along_y_lem c C)
      by Neither j i = absurd i

-- ---- at 01's limit, 1,048,576 mm: 2 ^ -3 mm beyond the margin and what box distance may exceed; within 1,024 mm: 2 ^ -13 mm
clear_wider : {ε δ w : ℕ} {Points : ℕ → ℕ → ℕ → ℕ → Type 0} {Counts : ℕ → ℕ → ℕ → Type 0} → ε ≤ δ → Clear ε w Points Counts
    → Clear δ w Points Counts
clear_wider {ε} {δ} {w} h c =
    record { proof = λ n X Y Z q z r X' Y' C t T'. le_trans (less_root (n * q) ε δ w h) (c.proof n X Y Z q z r X' Y' C t T') }

lost_less : (e : ℕ) → lost e ≤ 2 ^ (30 + e)
lost_less e =
    let l : 7 ≤ 2 ^ 3 = lit≤ tt in
    let q : 3 + (27 + e) ≡ 30 + e = omega arith in
    le_trans (mul-le-mul_right (2 ^ (27 + e)) l) (le_of_eq (sym (pow-add 2 3 (27 + e)) ∙ ap (λ z. 2 ^ z) q))

abbrev pub CylindersTrue : ℕ → ℕ → ℕ → List Float → Settings → (ℕ → ℕ → ℕ → Type 0) → Type 0
CylindersTrue e ε δ s t Counts = (c : Cylinder) → CylinderWithin e c → T (across_spindle (axis c))
    → AnswerTrue (ε + δ) c.radius t.tolerance (cylinder_distance s c t) (PointOf (axis c) c) Counts

module _ (s : List Float) (t : Settings) (τ : Tolerance t.tolerance) (one : 1 ≤ t.most) (Counts : ℕ → ℕ → ℕ
    → Type 0) (ε : ℕ) (numbers : VerticesAtMost 23 s) where
  wider : (e m : ℕ) → Scaled e m → BoxTrue ε e s Counts → CylindersTrue e ε (2 ^ (30 + e)) s t Counts
  wider e m S D c C i =
      let a = cylinder_true e m S s t τ one Counts ε D numbers c C i in
      record {
        uncut = λ q v k. clear_wider (sums v ε (lost e) (2 ^ (30 + e)) (lost_less e)) (a.uncut q v k);
        cut = λ q. clear_wider (sum ε (lost e) (2 ^ (30 + e)) (lost_less e)) (a.cut q);
      }
    where
      sum : (x a c : ℕ) → a ≤ c → x + a ≤ x + c
      sum x a c h = omega arith

      sums : (v x a c : ℕ) → a ≤ c → v + (x + a) ≤ v + (x + c)
      sums v x a c h = omega arith

-- at both reaches
pub across_true : (m : Reach) (s : List Float) (t : Settings) → Tolerance t.tolerance → 1 ≤ t.most
    → (Counts : ℕ → ℕ → ℕ → Type 0)
    (ε : ℕ) → VerticesAtMost 23 s → BoxTrue ε (unit_of m) s Counts → CylindersTrue (unit_of m) ε (lost_of m) s t Counts
across_true full s t τ one Counts ε numbers = wider s t τ one Counts ε numbers 1041 1060 scaled_limit
across_true metre s t τ one Counts ε numbers = wider s t τ one Counts ε numbers 1031 1040 scaled_metre
