-- The walk depends on its band only through zc, radius and the spans at half widths: two bands that agree in these have the same
-- distance, witness, counts and mark. By induction over the walk.
use Prim.Native.Nat.{◌*◌, zero, suc, ℕ}
use mathlib.Core.Bool.{Bool, cond, false, not, true, ◌||◌}
use mathlib.Core.List.{List, [], ◌∷◌}
use mathlib.Core.Path.{ap, refl, subst, sym, ◌∙◌, ◌≡◌}
use lib.Dec.{T}
use lib.Ieee.{binary64, eq, fin, fits, Float, inf, le, lt, nan, of_bits}
use lib.Ieee.Fits.{inf-fits, nan-fits}
use lib.IntN.{ℤ, pos}
use Rattle.arith.specs.F64.{◌⊖◌, ◌⊗◌, ◌≼◌, 𝟘, e_15, ∞}
use Rattle.arith.specs.Num.{clamp}
use Rattle.arith.specs.roots.Roots.{root, sqrt}
use Rattle.arith.proofs.roots.Rounding.Key.{magnitude, negative, unit}
use Rattle.arith.proofs.Laws.NearestRoot.{root_plus}
use Rattle.arith.proofs.Laws.RootKey.{root_fits}
use Rattle.arith.proofs.Laws.Order.{zeros_equal}
use Rattle.arith.proofs.Laws.Hypot.{sqrt_root}
use Rattle.symmetry.proofs.Floats.Like.{or_true}
use Rattle.symmetry.proofs.Floats.Signs.{zero_is}
use Rattle.section.specs.profile.Vertices.{hit, nearer, on, upto, vertex}
use Rattle.section.specs.declared.profile.shapes.Aabb.{Aabb}
use Rattle.section.specs.declared.profile.shapes.CollisionHit.{CollisionHit}
use Rattle.section.specs.declared.profile.shapes.Vertex.{Vertex}
use Rattle.section.proofs.profile.Steps.{pick}
use Rattle.section.specs.boxes.Boxes.{box_distance}
use Rattle.section.specs.points.Points.{point_distance}
use Rattle.walk.specs.declared.settings.shapes.Settings.{Settings}
use Rattle.walk.specs.bands.Band.{half_width, span_at}
use Rattle.walk.specs.pieces.Pieces.{narrowest, piece_box, variation, whole_width, widest}
use Rattle.walk.specs.declared.pieces.shapes.Piece.{Piece}
use Rattle.walk.specs.Walk.{band_distance, measured, one_box, sampled, sample_vertex, sample_z, start, thin_box, waiting}
use Rattle.walk.specs.Walk.{Walk, walk, walk_all, walked}
use Rattle.walk.specs.declared.shapes.CountedHit.{CountedHit}
use Rattle.walk.specs.declared.bands.shapes.RadialBand.{RadialBand}
use Rattle.walk.specs.declared.bands.shapes.Span.{Span}

-- ---- half widths: f64 without a minus sign
pub record Width (ρ : Float) : Type 0 where
  pub held : T (fits binary64 ρ)
  pub plus : negative ρ ≡ false

zero_width : Width 𝟘
zero_width = unfold of_bits fits in record { held = tt; plus = refl }

minus_zero_lem : (e : ℤ) → (fin true 0 e ≼ 𝟘) ≡ true
minus_zero_lem e =
    unfold le in
    ap (λ (z : Bool). lt (fin true 0 e) 𝟘 || z)
    (subst (λ (y : Float). eq (fin true 0 e) y ≡ true) (sym zero_is) (zeros_equal true false e (pos 0)))
    ∙ or_true (lt (fin true 0 e) 𝟘)

root_width : (n : ℕ) → Width (root binary64 n)
root_width n = record { held = root_fits binary64 n; plus = root_plus binary64 n }

sqrt_width : (v : Float) → T (not (v ≼ 𝟘)) → Width (sqrt binary64 v)
unfolding sqrt
sqrt_width nan h = record { held = nan-fits binary64; plus = refl }
sqrt_width (inf false) h = record { held = inf-fits binary64 false; plus = refl }
sqrt_width (inf true) h = record { held = nan-fits binary64; plus = refl }
sqrt_width (fin false m e) h =
    subst Width (sym (sqrt_root binary64 m e)) (root_width (magnitude binary64 (fin false m e) * unit binary64))
sqrt_width (fin true zero e) h = absurd (subst (λ (b : Bool). T (not b)) (minus_zero_lem e) h)
sqrt_width (fin true (suc m) e) h = record { held = nan-fits binary64; plus = refl }

half_width_lem : (b : RadialBand) (z : Float) → Width (half_width b z)
unfolding half_width
half_width_lem b z = pick Width (v ≼ 𝟘) (λ h. zero_width) (λ h. sqrt_width v h)
  where
    v : Float
    v = b.radius ⊗ b.radius ⊖ (z ⊖ b.zc) ⊗ (z ⊖ b.zc)

-- ---- what the walk sees of a band
pub record Agree (b b' : RadialBand) : Type 0 where
  pub zc : b.zc ≡ b'.zc
  pub radius : b.radius ≡ b'.radius
  pub spans : (ρ : Float) → Width ρ → span_at b ρ ≡ span_at b' ρ

upto_same : {A : Type 0} (f g : ℕ → A → A) {a a' : A} → a ≡ a' → ((k : ℕ) (x : A) → f k x ≡ g k x) → (n : ℕ)
    → upto f a n ≡ upto g a' n
unfolding upto
upto_same f g e h zero = e
upto_same f g {a} {a'} e h (suc n) = h n (upto f a n) ∙ ap (g n) (upto_same f g e h n)

module _ (b b' : RadialBand) (h : Agree b b') where
  half_same : (z : Float) → half_width b z ≡ half_width b' z
  unfolding half_width
  half_same z = rw (h.zc, h.radius)

  span_same : (z z' : Float) → z ≡ z' → span_at b (half_width b z) ≡ span_at b' (half_width b' z')
  span_same z z' e =
      h.spans (half_width b z) (half_width_lem b z) ∙ ap (span_at b') (half_same z ∙ ap (half_width b') e)

  widest_same : (p : Piece) → widest b p ≡ widest b' p
  unfolding widest
  widest_same p = span_same _ _ (ap (λ (c : Float). clamp c p.z0 p.z1) h.zc)

  narrowest_same : (p : Piece) → narrowest b p ≡ narrowest b' p
  unfolding narrowest
  narrowest_same p =
      h.spans _
      (pick Width (half_width b p.z0 ≼ half_width b p.z1) (λ t. half_width_lem b p.z0) (λ t. half_width_lem b p.z1))
      ∙ ap (span_at b') (rw (half_same p.z0, half_same p.z1))

  box_same : (p : Piece) → piece_box b p ≡ piece_box b' p
  unfolding piece_box
  box_same p = rw (widest_same p, narrowest_same p)

  variation_same : (p : Piece) → variation b p ≡ variation b' p
  unfolding variation
  variation_same p = rw (widest_same p, narrowest_same p)

  width_same : whole_width b ≡ whole_width b'
  width_same = rw (h.zc, h.radius)

  sample_same : (z z' : Float) → z ≡ z' → (j : ℕ) → sample_vertex b z j ≡ sample_vertex b' z' j
  unfolding sample_vertex
  sample_same z z' e j = rw (e, span_same z' z' refl)

  place_same : (n i : ℕ) → sample_z b n i ≡ sample_z b' n i
  place_same n i = rw (h.zc, h.radius)

  thin_same : thin_box b ≡ thin_box b'
  thin_same = ap (λ (z : Float). from z (span_at b 𝟘)) h.zc ∙ ap (from b'.zc) (h.spans 𝟘 zero_width)
    where
      from : Float → Span → Aabb
      from z r = record { z0 = z; z1 = z; r0 = r.lo; r1 = r.hi }

  module _ (s : List Float) where
    sampled_same : (n : ℕ) → sampled s b n ≡ sampled s b' n
    unfolding sampled
    sampled_same n =
        upto_same _ _ (ap (λ (z : Float). hit ∞ (on 0 (vertex z 𝟘))) h.zc)
        (λ i best. upto_same _ _ refl
        (λ j x. ap (λ (v : Vertex). nearer x (point_distance s v))
        (sample_same (sample_z b n i) (sample_z b' n i) (place_same n i) j)) 3) (suc n)

    module _ (tol : Float) where
      waiting_same : (p : Piece) (ps : List Piece) (best : CollisionHit)
          → waiting s b tol p ps best ≡ waiting s b' tol p ps best
      waiting_same p ps best = rw (box_same p, variation_same p)

      measured_same : (p : Piece) (ps : List Piece) (w : Walk) → measured s b tol p ps w ≡ measured s b' tol p ps w
      measured_same p ps w = rw (box_same p, variation_same p)

      walk_same : (n : ℕ) (ps : List Piece) (w : Walk) → walk s b tol n ps w ≡ walk s b' tol n ps w
      unfolding walk
      walk_same zero [] w = refl
      walk_same zero (p ∷ ps) w = refl
      walk_same (suc n) [] w = refl
      walk_same (suc n) (p ∷ ps) w =
          walk_same n (waiting s b tol p ps w.best) (measured s b tol p ps w)
          ∙ ap (λ (q : List Piece). walk s b' tol n q (measured s b tol p ps w)) (waiting_same p ps w.best)
          ∙ ap (λ (v : Walk). walk s b' tol n (waiting s b' tol p ps w.best) v) (measured_same p ps w)

      pub walk_all_same : (cap n : ℕ) → walk_all s b tol cap n ≡ walk_all s b' tol cap n
      unfolding walk_all
      walk_all_same cap n =
          walk_same cap (whole_width b ∷ []) (start (sampled s b n))
          ∙ ap (λ (p : Piece). walk s b' tol cap (p ∷ []) (start (sampled s b n))) width_same
          ∙ ap (λ (x : CollisionHit). walk s b' tol cap (whole_width b' ∷ []) (start x)) (sampled_same n)

    pub band_distance_same : (t : Settings) → band_distance s b t ≡ band_distance s b' t
    unfolding band_distance
    band_distance_same t =
        by h.radius (ap (λ (x : Aabb). one_box (box_distance s x)) thin_same)
        (ap walked (walk_all_same t.tolerance t.most t.intervals))
      where
        by : {r r' : Float} {x x' y y' : CountedHit} → r ≡ r' → x ≡ x' → y ≡ y' → cond (r ≼ e_15) x y ≡ cond (r' ≼ e_15) x' y'
        by p q u = rw (p, q, u)
