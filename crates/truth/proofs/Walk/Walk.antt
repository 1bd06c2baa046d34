-- THE WALK'S ANSWER IS TRUE OF THE CYLINDER, if box distance is true of boxes. Uncut, what is reported exceeds the exact distance
-- between a point of the straightened cylinder and a point of the turned section by no more than a margin of max(τ, √(2 R τ)),
-- what box distance may exceed it by, and 2 ^ 30 u. Cut, there is no margin: it is the least of the boxes, and the first is that
-- of the whole width.
use Prim.Native.Nat.{◌*◌, ◌+◌, ◌-◌, ◌<◌, ◌^◌, suc, ℕ, ◌≤◌}
use mathlib.Core.Bool.{◌||◌, Bool, cond, false, true}
use mathlib.Core.List.{◌∷◌, [], List}
use mathlib.Core.Logic.{inl, inr, ◌⊎◌}
use mathlib.Core.Path.{◌≡◌, ap, subst, sym, ◌∙◌}
use native.Mathlib.Nat.{le_of_eq, le_of_lt, le_refl, le_trans, mul-le-mul, mul-le-mul_left, mul-le-mul_right, two-pow-succ}
use native.Mathlib.Omega.{arith}
use lib.Dec.{lit≤, T}
use lib.Ieee.{binary64, Float, of_bits, prec}
use lib.Pow.{pow-add, pow_mono, pow_pos}
use Rattle.arith.proofs.roots.Rounding.Key.{key, magnitude, mid, number, number_of, unit}
use Rattle.arith.proofs.roots.Rounding.KeyOrder.{key→le, le→key, lt→key}
use Rattle.arith.proofs.roots.Rounding.Sum.{add_number}
use Rattle.arith.specs.F64.{◌⊕◌, ◌⊖◌, ◌≺◌, ◌≼◌, e_9}
use Rattle.arith.proofs.Laws.Bounded.{Bounded, bounded_up, mid_lt, overflow}
use Rattle.arith.proofs.Laws.Sizes.{e_9_finite, Finite, finite_number_lem, K, M, Number}
use Rattle.section.proofs.Demand.Hits.{VerticesAtMost}
use Rattle.section.proofs.Numbers.{box_number}
use Rattle.walk.specs.declared.bands.shapes.RadialBand.{RadialBand}
use Rattle.walk.proofs.bands.Limit.{InLimit}
use Rattle.walk.specs.pieces.Pieces.{box_hit, piece_box, variation, whole_width}
use Rattle.walk.specs.declared.pieces.shapes.Piece.{Piece}
use Rattle.walk.specs.Walk.{reported, sampled, start, Walk, walk_all}
use Rattle.walk.proofs.Cover.Boxes.{box_inner, box_outer}
use Rattle.walk.proofs.Cover.Covers.{Coverable, covers}
use Rattle.walk.proofs.Cover.Depth.{whole}
use Rattle.walk.proofs.Cover.Found.{best_keeps}
use Rattle.walk.proofs.Demand.Pieces.{variation_finite}
use Rattle.walk.proofs.Demand.Samples.{sampled_number}
use Rattle.truth.proofs.Points.Coordinate.{power}
use Rattle.arith.proofs.Laws.RoundingError.{Close}
use Rattle.arith.proofs.Laws.OperationErrors.{add_close, half}
use Rattle.truth.specs.Exact.{Turned, units}
use Rattle.truth.specs.Boxes.{BoxTrue}
use Rattle.truth.specs.Cylinders.{space²}
use Rattle.truth.proofs.Walk.HalfWidths.{BandSized, Scaled, size_of}
use Rattle.truth.proofs.Walk.Margin.{margin, narrow, narrow_half, PieceWithin, variation_least, variation_most}
use Rattle.truth.proofs.Walk.Margin.{variation_radius, wide, wide_half}
use Rattle.truth.proofs.Walk.Place.{from, to, whole_within}
use Rattle.truth.proofs.Walk.Squares.{root_le}
use Rattle.truth.proofs.Walk.Inside.{InCylinder, near}
use Rattle.truth.proofs.Walk.Boxed.{box_far, box_within, Holds, nearest, nearest_bounded, units_key}
use Rattle.truth.proofs.Walk.Seen.{sound, whole_seen}
use Rattle.truth.proofs.Walk.Settled.{covered_at, held_at, holds}
use Rattle.truth.proofs.Walk.Bounded.{box_bounded}
use Rattle.truth.proofs.Walk.Scales.{within_bounded}

either : (a b : Bool) → T (a || b) → T a ⊎ T b
either true b h = inl tt
either false b h = inr h

e_9_positive : M ≤ K e_9
unfolding mid key magnitude unit of_bits
e_9_positive = lit≤ tt

module _ (e m : ℕ) (S : Scaled e m) (s : List Float) (b : RadialBand) (tol : Float) (cap k : ℕ) (O : Coverable b tol cap)
    (B : BandSized e b)
    (g : ℕ) (G : 30 * half binary64 ≤ g * g) (Counts : ℕ → ℕ → ℕ → Type 0) (εb : ℕ) (D : BoxTrue εb e s Counts)
    (numbers : VerticesAtMost 23 s) where
  abbrev u : ℕ
  u = 2 ^ e

  abbrev L : InLimit b
  L = O.band

  abbrev w : Walk
  w = walk_all s b tol cap k

  pub tolerance_least : M ≤ K tol
  tolerance_least =
      le_trans e_9_positive
      (le→key binary64 e_9 tol (finite_number_lem e_9_finite) (number_of binary64 tol O.tolerance.finite) O.tolerance.least)

  abbrev τ : ℕ
  τ = K tol - M

  abbrev R : ℕ
  R = size_of b.radius

  number_at : {j : ℕ} {x : Float} → Bounded binary64 j x → T (number binary64 x)
  number_at {x = x} X = number_of binary64 x X.sure

  module _ {n X Y Z : ℕ} (C : InCylinder b n X Y Z) where
    abbrev z : Float
    z = nearest e m S B L g G C

    Z' : Bounded binary64 (prec binary64 + suc e) z
    Z' = nearest_bounded e m S B L g G C

    abbrev lost : ℕ
    lost = u + ((g + 2) * u + 2 * u + 2)

    abbrev Far : ℕ → Type 0
    Far W = (q z' r X' Y' : ℕ) → Counts q z' r → Turned q r X' Y' → n * q * W * (n * q * W) ≤ space² n X Y Z q z' X' Y'

    far_less : (W W' : ℕ) → W ≤ W' → Far W' → Far W
    far_less W W' h f q z' r X' Y' c t = let l = mul-le-mul_left (n * q) h in le_trans (mul-le-mul l l) (f q z' r X' Y' c t)

    far_box : (p : Piece) → Holds e m S B L g G C p → Far (units (box_hit s b p).distance - (εb + lost))
    far_box p H = box_far e m S B L g G C H s Counts εb D

    -- ---- the margin of one box
    module _ (V' : ℕ) (enough : (R ≤ V') ⊎ ((τ ≤ V') × (2 * (R * τ) ≤ V' * V'))) where
      narrow_margin : (p : Piece) → PieceWithin e p → τ ≤ V' → 2 * (R * τ) ≤ V' * V'
          → T (variation b p ≼ tol) ⊎ T (p.z1 ⊖ p.z0 ≼ tol) → K (variation b p) - M ≤ V' + (g + 10) * u
      narrow_margin p W τ⁺ root⁺ h = go h
        where
          small : K (variation b p) ≤ K tol → K (variation b p) - M ≤ V' + (g + 10) * u
          small l = step (K (variation b p)) (K tol) M ((g + 10) * u) l τ⁺
            where
              step : (v t m w : ℕ) → v ≤ t → t - m ≤ V' → v - m ≤ V' + w
              step v t m w h k = omega arith

          go : T (variation b p ≼ tol) ⊎ T (p.z1 ⊖ p.z0 ≼ tol) → K (variation b p) - M ≤ V' + (g + 10) * u
          go (inl l) =
              small (le→key binary64 (variation b p) tol (finite_number_lem (variation_finite L (sound e m S W)))
              (number_of binary64 tol O.tolerance.finite) l)
          go (inr l) = back (root_le _ V' (le_trans (margin e m S B W L tol O.tolerance.finite tolerance_least l g G) root⁺))
            where
              back : K (variation b p) - M - (g + 10) * u ≤ V' → K (variation b p) - M ≤ V' + (g + 10) * u
              back h = step (K (variation b p) - M) ((g + 10) * u) h
                where
                  step : (v w : ℕ) → v - w ≤ V' → v ≤ V' + w
                  step v w h = omega arith

      variation_small : (p : Piece) → PieceWithin e p → T ((variation b p ≼ tol) || (p.z1 ⊖ p.z0 ≼ tol))
          → K (variation b p) - M ≤ V' + (g + 10) * u
      variation_small p W h = by enough
        where
          by : (R ≤ V') ⊎ ((τ ≤ V') × (2 * (R * τ) ≤ V' * V')) → K (variation b p) - M ≤ V' + (g + 10) * u
          by (inl l) = step (K (variation b p) - M) R u l (variation_radius e m S B W L g G)
            where
              step : (v r u : ℕ) → r ≤ V' → v ≤ r + (g + 9) * u → v ≤ V' + (g + 10) * u
              step v r u h k = omega arith
          by (inr l) = narrow_margin p W l.0 l.1 (either (variation b p ≼ tol) (p.z1 ⊖ p.z0 ≼ tol) h)

      -- distance + variation, added in f64
      variation_sized : (p : Piece) (W : PieceWithin e p) → K (variation b p) ≤ M + 2 ^ (prec binary64 + (27 + e))
      variation_sized p W =
          let a = variation_most e m S B W L in
          let c = (wide_half e m S B W).bounded.upper in
          let d = (narrow_half e m S B W).least in
          le_trans (step (K (variation b p)) (K (wide e m S B W)) (K (narrow e m S B W)) M u (2 ^ (prec binary64 + e)) a c d
          eight) (more M (pow_mono (let l : prec binary64 + suc e ≤ prec binary64 + (27 + e) = omega arith in l)) double)
        where
          eight : 8 * u ≤ 2 ^ (prec binary64 + e)
          eight = let l : 8 ≤ 2 * half binary64 =
              unfold half in lit≤ tt in le_trans (mul-le-mul_right u l) (le_of_eq (sym (power binary64 e)))

          double : 2 ^ (prec binary64 + suc e) ≡ 2 ^ (prec binary64 + e) + 2 ^ (prec binary64 + e)
          double = ap (λ z. 2 ^ z) (let q : prec binary64 + suc e ≡ suc (prec binary64 + e) = omega arith in q)
              ∙ two-pow-succ (prec binary64 + e)

          step : (v a c m u w : ℕ) → v ≤ m + (a - c + 2 * u + 4 * u + 2 * u) → a ≤ m + w → m ≤ c → 8 * u ≤ w → v ≤ m + (w + w)
          step v a c m u w h i j k = omega arith

          more : (m : ℕ) {x y w : ℕ} → x ≤ y → x ≡ w → m + w ≤ m + y
          more m h q = omega arith

      sum_most : (p : Piece) → Holds e m S B L g G C p → T (reported w ≼ (box_hit s b p).distance ⊕ variation b p)
          → Number (reported w)
          → K (reported w) - M ≤ K (box_hit s b p).distance - M + (K (variation b p) - M) + 134217728 * u
      sum_most p H h N =
          let d = within_bounded (80 + e) (box_hit s b p).distance
          (box_bounded e m S numbers (piece_box b p) (box_within e m S B L g G C H)) in
          let v = variation_finite L (sound e m S H.within) in
          let c = add_close binary64 (box_hit s b p).distance (variation b p) d.sure v.bounded.sure (27 + e) range
          (close (K (box_hit s b p).distance) (K (variation b p)) M (2 ^ (80 + e)) (2 ^ (prec binary64 + (27 + e))) _ d.lower
          d.upper (variation_least e m S B H.within L) (variation_sized p H.within) same double) in
          let l = le→key binary64 (reported w) ((box_hit s b p).distance ⊕ variation b p) N
          (add_number binary64 _ _ d.sure v.bounded.sure) h in
          last (K (reported w)) (K ((box_hit s b p).distance ⊕ variation b p)) (K (box_hit s b p).distance) (K (variation b p)) M u
          (2 ^ (27 + e)) l c.over (pow-add 2 27 e) (variation_least e m S B H.within L)
        where
          range : 2 ^ (prec binary64 + suc (27 + e)) ≤ M
          range = le_of_lt
              (mid_lt binary64 (prec binary64 + suc (27 + e))
              (let l = S.limit in let q : prec binary64 + suc (27 + e) < overflow binary64 = omega arith in q))

          same : 2 ^ (80 + e) ≡ 2 ^ (prec binary64 + (27 + e))
          same = ap (λ z. 2 ^ z) (let q : 80 + e ≡ prec binary64 + (27 + e) = omega arith in q)

          double : 2 ^ (prec binary64 + suc (27 + e)) ≡ 2 ^ (prec binary64 + (27 + e)) + 2 ^ (prec binary64 + (27 + e))
          double = ap (λ z. 2 ^ z) (let q : prec binary64 + suc (27 + e) ≡ suc (prec binary64 + (27 + e)) = omega arith in q)
              ∙ two-pow-succ (prec binary64 + (27 + e))

          close : (d v m w' w x : ℕ) → m ≤ d + w' → d ≤ m + w' → m ≤ v → v ≤ m + w → w' ≡ w → x ≡ w + w → Close (d + v) (m + m) x
          close d v m w' w x h i j k q r = record { over = omega arith; under = omega arith }

          last : (r a d v m u w : ℕ) → r ≤ a → a + m ≤ d + v + w → w ≡ 134217728 * u → m ≤ v
              → r - m ≤ d - m + (v - m) + 134217728 * u
          last r a d v m u w h i j l = omega arith

      abbrev total : ℕ
      total = V' + (εb + (2 * g + 134217745) * u)

      -- what a settled box says
      settled_far : (p : Piece) → Holds e m S B L g G C p → Number (reported w)
          → T (reported w ≺ (box_hit s b p).distance)
          ⊎ (T ((variation b p ≼ tol) || (p.z1 ⊖ p.z0 ≼ tol)) × T (reported w ≼ (box_hit s b p).distance ⊕ variation b p))
          → Far (units (reported w) - total)
      settled_far p H N (inl h) =
          far_less _ _ (rw (units_key (reported w), units_key (box_hit s b p).distance)
          (step (K (reported w)) (K (box_hit s b p).distance) M εb g u (lt→key binary64 _ _ N (box_number s (piece_box b p)) h)
          (pow_pos e))) (far_box p H)
        where
          step : (r d m x g u : ℕ) → r < d → 0 < u
              → r - m - (V' + (x + (2 * g + 134217745) * u)) ≤ d - m - (x + (u + ((g + 2) * u + 2 * u + 2)))
          step r d m x g u h o = let l : r - m ≤ d - m = omega arith in go (r - m) (d - m) l
            where
              go : (r d : ℕ) → r ≤ d → r - (V' + (x + (2 * g + 134217745) * u)) ≤ d - (x + (u + ((g + 2) * u + 2 * u + 2)))
              go r d l = omega arith
      settled_far p H N (inr h) =
          far_less _ _ (rw (units_key (reported w), units_key (box_hit s b p).distance)
          (step (K (reported w) - M) (K (box_hit s b p).distance - M) (K (variation b p) - M) εb g u (sum_most p H h.1 N)
          (variation_small p H.within h.0) (pow_pos e))) (far_box p H)
        where
          step : (r d v x g u : ℕ) → r ≤ d + v + 134217728 * u → v ≤ V' + (g + 10) * u → 0 < u
              → r - (V' + (x + (2 * g + 134217745) * u)) ≤ d - (x + (u + ((g + 2) * u + 2 * u + 2)))
          step r d v x g u h i o = omega arith

      uncut_far : w.cut ≡ false → Number (reported w) → Far (units (reported w) - total)
      uncut_far c N = settled_far (covered_at e m S s b tol cap k O B g G C c).piece (held_at e m S s b tol cap k O B g G C c) N
          (covered_at e m S s b tol cap k O B g G C c).settled

    -- ---- cut: the whole width's box
    whole_holds : Holds e m S B L g G C (whole_width b)
    whole_holds =
        let P' = whole_within e m S B in
        let Q = sound e m S P' in
        let F : Finite 21 z =
        record {
          bounded =
              bounded_up binary64 (prec binary64 + suc e) 1095 z (let l = S.limit in let q : prec binary64 + suc e ≤ 1095 =
              omega arith in q) Z';
        } in
        let h = from e m S B n Z C.some (near e m S B g G C) in
        let i = to e m S B n Z C.some (near e m S B g G C) in
        holds e m S s b tol cap k O B g G C (whole_width b) P'
        (unfold piece_box in key→le binary64 (whole_width b).z0 z (number_at P'.z0) (number_at Z') h)
        (unfold piece_box in key→le binary64 z (whole_width b).z1 (number_at Z') (number_at P'.z1) i)
        (box_inner L Q F h i) (box_outer L Q F h i)

    cut_far : w.cut ≡ true → Far (units (reported w) - (εb + lost))
    cut_far c =
        let l = (covers s b tol cap k O).cut c in
        let N : Number (reported w) = subst Number (sym l.equal) (box_number s (piece_box b l.piece)) in
        let h = le→key binary64 (reported w) (box_hit s b (whole_width b)).distance N (box_number s (piece_box b (whole_width b)))
        (l.below (whole_width b) (whole_seen e m S s b tol cap k O.some_box)) in
        far_less _ _
        (rw (units_key (reported w), units_key (box_hit s b (whole_width b)).distance)
        (step (K (reported w)) (K (box_hit s b (whole_width b)).distance) M (εb + lost) h))
        (far_box (whole_width b) whole_holds)
      where
        step : (r d m x : ℕ) → r ≤ d → r - m - x ≤ d - m - x
        step r d m x h = omega arith

  -- the best distance is a number
  best_number : Number w.best.distance
  unfolding walk_all
  best_number = (best_keeps s b tol L O.tolerance (K (sampled s b k).distance) cap (whole_width b ∷ []) (start (sampled s b k))
      (whole L O.held, tt) (sampled_number s b k, le_refl _)).0

  reported_number : w.cut ≡ false → Number (reported w)
  reported_number c = subst (λ (x : Bool). Number (cond x w.least w.best.distance)) (sym c) best_number

  pub uncut_true : w.cut ≡ false → (V' : ℕ) → (R ≤ V') ⊎ ((τ ≤ V') × (2 * (R * τ) ≤ V' * V')) → {n X Y Z : ℕ}
      → InCylinder b n X Y Z
      → (q z r X' Y' : ℕ) → Counts q z r → Turned q r X' Y'
      → n * q * (units (reported w) - (V' + (εb + (2 * g + 134217745) * u))) *
      (n * q * (units (reported w) - (V' + (εb + (2 * g + 134217745) * u)))) ≤ space² n X Y Z q z X' Y'
  uncut_true c V' h C = uncut_far C V' h c (reported_number c)

  pub cut_true : w.cut ≡ true → {n X Y Z : ℕ} → InCylinder b n X Y Z → (q z r X' Y' : ℕ) → Counts q z r → Turned q r X' Y'
      → n * q * (units (reported w) - (εb + (u + ((g + 2) * u + 2 * u + 2)))) *
      (n * q * (units (reported w) - (εb + (u + ((g + 2) * u + 2 * u + 2))))) ≤ space² n X Y Z q z X' Y'
  cut_true c C = cut_far C c
