-- THE TWO CORNERS OF A SIDE: what the code reports where it moves a place to a corner is that corner's distance to the edge, true
-- within 256 u.
use Prim.Native.Nat.{◌*◌, ◌+◌, ◌-◌, ◌<◌, ◌^◌, suc, ℕ, ◌≤◌}
use mathlib.Core.Bool.{not}
use mathlib.Core.Logic.{inl, inr, ◌⊎◌}
use mathlib.Core.Path.{◌≡◌, ap, refl}
use native.Mathlib.Nat.{le_of_eq, le_trans, mul-le-mul, mul-le-mul_left, mul-le-mul_right}
use native.Mathlib.Omega.{arith}
use lib.Dec.{leb→le, T}
use lib.Ieee.{binary64, Float, neg, of_bits, prec}
use lib.Pow.{pow_pos}
use Rattle.arith.specs.roots.Roots.{hypot}
use Rattle.arith.proofs.roots.Numbers.{decide}
use Rattle.arith.proofs.roots.Rounding.Key.{key, magnitude, mid, unit, unit_pos}
use Rattle.arith.proofs.roots.Rounding.Sum.{neg_key}
use Rattle.arith.specs.F64.{◌⊕◌, ◌⊖◌, ◌⊗◌, ◌⊘◌, ◌≼◌, 𝟘, 𝟙, e_24}
use Rattle.arith.proofs.Laws.Bounded.{Bounded, bounded_up}
use Rattle.arith.proofs.Laws.Order.{nle→key}
use Rattle.arith.proofs.Laws.Quotients.{div_finite, InUnit, one_in_unit, over_e_24, zero_in_unit}
use Rattle.arith.proofs.Laws.Sizes.{add_finite, e_24_finite, Finite, finite_number_lem, finite_raise, K, M, mul_finite, neg_finite}
use Rattle.arith.proofs.Laws.Sizes.{sub_finite, zero_key}
use Rattle.section.specs.declared.profile.shapes.Vertex.{Vertex}
use Rattle.section.specs.segments.Segments.{along, dot, minus, places, unit_clamp}
use Rattle.arith.specs.Whole.{apart}
use Rattle.truth.proofs.Points.Closest.{Within}
use Rattle.truth.proofs.Points.Foot.{Loss}
use Rattle.truth.proofs.Points.Coordinate.{power, power_4, sized}
use Rattle.arith.proofs.Laws.RoundingError.{Close}
use Rattle.truth.proofs.Points.Lagrange.{apart_split}
use Rattle.arith.proofs.Laws.OperationErrors.{apart_most, apart_over, apart_under, half, hypot_close, RootClose}
use Rattle.truth.proofs.Boxes.Lengths.{Slim}
use Rattle.truth.proofs.Boxes.Beside.{FromCorner}
use Rattle.truth.proofs.Boxes.Corner.{from_corner, Upright, upright_down, upright_up}
use Rattle.truth.proofs.Boxes.Floats.{difference_of, exact_difference, H, product_of, sum_of, U, way_of}
use Rattle.truth.proofs.Boxes.Nearest.{Nearest, nearest}
use Rattle.truth.proofs.Boxes.Points.{gap, gap_size, leg, point, Point}
use Rattle.truth.proofs.Boxes.Relative.{Dotted, dotted, dotted_less, Reach, Span}
use Rattle.section.specs.declared.segments.shapes.Places.{Places}
use Rattle.truth.proofs.Boxes.Signed.{Near}
use Rattle.truth.proofs.Boxes.Taken.{one_key}

-- what was reported for two places
abbrev pub distance_at : Vertex → Vertex → Vertex → Vertex → Places → Float
distance_at p p'' q q' at = hypot binary64 ((along p p'' at.s).z ⊖ (along q q' at.t).z)
    ((along p p'' at.s).r ⊖ (along q q' at.t).r)

pub turned_corner : (δ w A B Q a b q : ℕ) → FromCorner δ w A B Q a b q → FromCorner δ w a b q A B Q
turned_corner δ w A B Q a b q f = record { proof = λ i j. le_trans (f.proof i j) (le_of_eq (swap _ _)) }
  where
    swap : (x y : ℕ) → x + y ≡ y + x
    swap x y = omega arith

-- the edge, made to run upwards
pub record Stands (A B q D : ℕ) : Type 0 where
  pub C : ℕ
  pub P : ℕ
  pub upright : Upright A B q C D P

pub stands : (A B q : ℕ) → Stands A B q (apart B A)
stands A B q = go A B (apart B A) (apart_split B A)
  where
    go : (A B D : ℕ) → (A ≡ B + D) ⊎ (B ≡ A + D) → Stands A B q D
    go A B D (inl e) = rw e (record { C = q; P = B + D; upright = upright_down B D q })
    go A B D (inr e) = rw e (record { C = A; P = q; upright = upright_up A D q })

module _ (e h : ℕ) (slim : Slim e h) where
  abbrev pub u : ℕ
  u = 2 ^ e

  pub digits : 1024 ≤ H
  digits = slim.small.digits

  abbrev Coordinate : Float → Type 0
  Coordinate = Bounded binary64 (prec binary64 + e)

  finite : {x : Float} → Coordinate x → Finite 23 x
  finite {x} X = record { bounded = bounded_up binary64 (prec binary64 + e) 1097 x slim.most X }

  up : {x : Float} → Coordinate x → Finite 200 x
  up X = finite_raise (finite X) {m = 200} tt

  less : {x y : Float} → Coordinate x → Coordinate y → Finite 24 (x ⊖ y)
  less X Y = sub_finite (finite X) (finite Y) tt

  less_up : {x y : Float} → Coordinate x → Coordinate y → Finite 200 (x ⊖ y)
  less_up X Y = finite_raise (less X Y) {m = 200} tt

  far : (x y : Float) → Coordinate x → Coordinate y → Close (K x) (K y) (4 * H * u)
  far x y X Y = go (K x) (K y) M H u (sized binary64 _ 2 u x (power binary64 e) X) (sized binary64 _ 2 u y (power binary64 e) Y)
    where
      go : (a b m K u : ℕ) → Close a m (2 * K * u) → Close b m (2 * K * u) → Close a b (4 * K * u)
      go a b m K u s t = record { over = omega (arith, s.over, t.under); under = omega (arith, s.under, t.over) }

  span : (x y : Float) → Coordinate x → Coordinate y → Span M U u H digits (K (x ⊖ y)) (K x) (K y) (apart (K x) (K y))
  span x y X Y = record {
    near = go (K (x ⊖ y)) (K x) (K y) M H _ (exact_difference x y (up X) (up Y));
    exact = record { over = apart_over (K x) (K y); under = apart_under (K x) (K y) };
  }
    where
      go : (k a b m c g : ℕ) → Close (2 * c * (k + b)) (2 * c * (m + a)) g
          → Close (k * (2 * c) + 2 * c * b) (m * (2 * c) + 2 * c * a) g
      go k a b m c g s = record { over = omega (arith, s.over); under = omega (arith, s.under) }

  reach : (x y : Float) → Coordinate x → Coordinate y → Reach M U u H digits (K (x ⊖ y)) (K x) (K y)
  reach x y X Y = let w = way_of x y (up X) (up Y) e h slim.small slim.range (far x y X Y) in record {
    near = w.near;
    exact = w.exact;
  }

  products : {x y x' y' : Float} → Coordinate x → Coordinate y → Coordinate x' → Coordinate y' → Finite 48 ((x ⊖ y) ⊗ (x' ⊖ y'))
  products X Y X' Y' = mul_finite (less X Y) (less X' Y') tt

  module _ (p p'' q q' : Vertex) (P : Within e p) (P' : Within e p'') (Q : Within e q) (Q' : Within e q') where
    abbrev pub d : Vertex
    d = minus p'' p

    abbrev pub Dz : ℕ
    Dz = apart (K p''.z) (K p.z)

    abbrev pub Dr : ℕ
    Dr = apart (K p''.r) (K p.r)

    abbrev pub E : ℕ
    E = u * Dz + u * Dr

    -- a dot product of the edge's direction
    pub dots : (x y : Vertex) → (X : Within e x) → (Y : Within e y)
        → Dotted M U u H digits (K (dot d (minus x y)))
        (K p''.z * K x.z + K p.z * K y.z + (K p''.r * K x.r + K p.r * K y.r))
        (K p''.z * K y.z + K p.z * K x.z + (K p''.r * K y.r + K p.r * K x.r)) E
    dots x y X Y = dotted M U u H digits _ _ _ Dz _ _ _ (span p''.z p.z P'.z P.z) (reach x.z y.z X.z Y.z) _
        _ _ Dr _ _ _ (span p''.r p.r P'.r P.r) (reach x.r y.r X.r Y.r)
        _ _ _ (product_of _ _ (less_up P'.z P.z) (less_up X.z Y.z))
        (product_of _ _ (less_up P'.r P.r) (less_up X.r Y.r))
        (sum_of _ _ (finite_raise (products P'.z P.z X.z Y.z) {m = 200} tt)
        (finite_raise (products P'.r P.r X.r Y.r) {m = 200} tt))

    pub dots_finite : (x y : Vertex) → Within e x → Within e y → Finite 49 (dot d (minus x y))
    dots_finite x y X Y = add_finite (products P'.z P.z X.z Y.z) (products P'.r P.r X.r Y.r) tt

    abbrev a : Float
    a = dot d d

    abbrev c : Float
    c = dot d (minus p q)

    abbrev b : Float
    b = dot d (minus q' q)

    below : (k m c : ℕ) → k ≤ m + c → k - m ≤ c
    below k m c l = omega arith

    parts : (k m : ℕ) → m ≤ k → k ≡ m + (k - m)
    parts k m l = omega arith

    unit_most : (x : Float) → InUnit x → K x - M ≤ U
    unit_most x X = below (K x) M U (unfold unit in X.most.bounded.upper)

    -- ---- the two points at the places s and t, and their distance
    module _ (s t : Float) (i : InUnit s) (t⁺ : InUnit t) where
      at : (x y w : Float) → Coordinate x → Coordinate y → (w⁺ : InUnit w)
          → Point M U u H h slim.small (pow_pos e) (K (x ⊕ (y ⊖ x) ⊗ w)) (K x) (K y) (K w - M)
      at x y w X Y w⁺ = point M U u H h slim.small (pow_pos e) (K (y ⊖ x)) (K x) (K y) (K w - M) (unit_most w w⁺)
          (way_of y x (up Y) (up X) e h slim.small slim.range (far y x Y X))
          (sized binary64 _ 2 u x (power binary64 e) X) (K ((y ⊖ x) ⊗ w)) (K (x ⊕ (y ⊖ x) ⊗ w))
          (rw (parts (K w) M w⁺.least) at (product_of (y ⊖ x) w (less_up Y X) (finite_raise w⁺.most {m = 200} tt)))
          (sum_of x ((y ⊖ x) ⊗ w) (up X) (finite_raise (mul_finite (less Y X) w⁺.most tt) {m = 200} tt))

      at_finite : (x y w : Float) → Coordinate x → Coordinate y → InUnit w → Finite 26 (x ⊕ (y ⊖ x) ⊗ w)
      at_finite x y w X Y w⁺ = finite_raise (add_finite (finite X) (mul_finite (less Y X) w⁺.most tt) tt) {m = 26} tt

      module _ (x y x' y' : Float) (X : Coordinate x) (Y : Coordinate y) (X' : Coordinate x') (Y' : Coordinate y') where
        abbrev way : Float
        way = (x ⊕ (y ⊖ x) ⊗ s) ⊖ (x' ⊕ (y' ⊖ x') ⊗ t)

        way_finite : Finite 200 way
        way_finite = finite_raise (sub_finite (at_finite x y s X Y i) (at_finite x' y' t X' Y' t⁺) tt) {m = 200} tt

        way_size : apart (K way) M ≤ 13 * H * u
        way_size = gap_size M U u H h slim.small (pow_pos e) _ (K x) (K y) (K s - M) _ (K x') (K y') (K t - M) (K way)
            (unit_pos binary64) (at x y s X Y i) (at x' y' t X' Y' t⁺)
            (difference_of (x ⊕ (y ⊖ x) ⊗ s) (x' ⊕ (y' ⊖ x') ⊗ t) (finite_raise (at_finite x y s X Y i) {m = 200} tt)
            (finite_raise (at_finite x' y' t X' Y' t⁺) {m = 200} tt))

        pub way_leg : (g : ℕ) → U * K x' + K y' * (K t - M) ≡ U * g + K x' * (K t - M)
            → U * apart (K way) M ≤ apart ((U - (K s - M)) * K x + (K s - M) * K y)
            ((K s - M + (U - (K s - M))) * g) + 25 * (u * U)
        way_leg g f = le_trans (le_of_eq (swap U (apart (K way) M)))
            (leg (K way) M U _ _ _ (gap M U u H h slim.small (pow_pos e) _ (K x) (K y) (K s - M) _ (K x') (K y') (K t - M)
            (K way) (at x y s X Y i) (at x' y' t X' Y' t⁺)
            (difference_of (x ⊕ (y ⊖ x) ⊗ s) (x' ⊕ (y' ⊖ x') ⊗ t) (finite_raise (at_finite x y s X Y i) {m = 200} tt)
            (finite_raise (at_finite x' y' t X' Y' t⁺) {m = 200} tt)))
            _ (seen (K x) (K y) (K x') (K y') g (K s - M) (K t - M) U (U - (K s - M)) f (split U (K s - M) (unit_most s i))))
          where
            swap : (x y : ℕ) → x * y ≡ y * x
            swap x y = omega arith

            split : (v t : ℕ) → t ≤ v → v ≡ t + (v - t)
            split v t l = omega arith

            seen : (A B q q' g T W U S : ℕ) → U * q + q' * W ≡ U * g + q * W → U ≡ T + S
                → Close (U * A + B * T + q * W) (A * T + U * q + q' * W) (apart (S * A + T * B) ((T + S) * g))
            seen A B q q' g T W U S f o = go (apart (S * A + T * B) ((T + S) * g)) (apart_over _ _) (apart_under _ _)
              where
                go : (m : ℕ) → S * A + T * B ≤ (T + S) * g + m → (T + S) * g ≤ S * A + T * B + m
                    → Close (U * A + B * T + q * W) (A * T + U * q + q' * W) m
                go m k l = record {
                  over = omega (arith, ap (λ z. z * A) o, ap (λ z. z * g) o);
                  under = omega (arith, ap (λ z. z * A) o, ap (λ z. z * g) o);
                }

      abbrev pub wz : Float
      wz = (p.z ⊕ (p''.z ⊖ p.z) ⊗ s) ⊖ (q.z ⊕ (q'.z ⊖ q.z) ⊗ t)

      abbrev pub wr : Float
      wr = (p.r ⊕ (p''.r ⊖ p.r) ⊗ s) ⊖ (q.r ⊕ (q'.r ⊖ q.r) ⊗ t)

      pub root : RootClose (apart (K wz) M * apart (K wz) M + apart (K wr) M * apart (K wr) M) (K (hypot binary64 wz wr) - M)
          (8 * u)
      root = rw (← eight) (hypot_close binary64 wz wr (suc (suc (suc e)))
          (way_finite p.z p''.z q.z q'.z P.z P'.z Q.z Q'.z).bounded.sure
          (way_finite p.r p''.r q.r q'.r P.r P'.r Q.r Q'.r).bounded.sure slim.hypots
          (sizes H u _ (power_4 binary64 e) _ _ (way_size p.z p''.z q.z q'.z P.z P'.z Q.z Q'.z)
          (way_size p.r p''.r q.r q'.r P.r P'.r Q.r Q'.r)))
        where
          eight : 2 ^ suc (suc (suc e)) ≡ 8 * 2 ^ e
          eight = omega arith

          sizes : (c u B : ℕ) → B ≡ 32 * c * u → (x y : ℕ) → x ≤ 13 * c * u → y ≤ 13 * c * u → x * x + y * y ≤ B * B
          sizes c u B e x y h l = rw e (let a = mul-le-mul h h in let b = mul-le-mul l l in omega arith)

    -- ---- one corner, at gz and gr: N is the numerator, t the place on the side
    module _ (long : T (not (a ≼ e_24))) (N t : Float) (N' : Finite 60 N) (t⁺ : InUnit t) (gz gr nP nN : ℕ)
        (n-near : Near M U (K N) nP nN (27 * E + 7 * U))
        (n_is : nP + (K p''.z * K p.z + K p.z * gz + (K p''.r * K p.r + K p.r * gr))
        ≡ nN + (K p''.z * gz + K p.z * K p.z + (K p''.r * gr + K p.r * K p.r)))
        (z-is : U * K q.z + K q'.z * (K t - M) ≡ U * gz + K q.z * (K t - M))
        (r_is : U * K q.r + K q'.r * (K t - M) ≡ U * gr + K q.r * (K t - M)) where
      sz : Stands (K p.z) (K p''.z) gz Dz
      sz = stands (K p.z) (K p''.z) gz

      sr : Stands (K p.r) (K p''.r) gr Dr
      sr = stands (K p.r) (K p''.r) gr

      long_key : M + (12 * H + 30) < K a
      long_key = le_trans (le_of_eq refl) (go (M + (12 * H + 30)) (K e_24) (K a) big
          (nle→key binary64 a e_24 (finite_number_lem (dots_finite p'' p P' P)) (finite_number_lem e_24_finite) long))
        where
          go : (x y z : ℕ) → x ≤ y → y < z → x < z
          go x y z l m = omega arith

          big : M + (12 * H + 30) ≤ K e_24
          big = unfold half mid key magnitude unit of_bits in leb→le _ _ tt

      abbrev L : ℕ
      L = Dz * Dz + Dr * Dr

      spans : L ≤ 4 * H * E
      spans = go H u Dz Dr (most (far p''.z p.z P'.z P.z)) (most (far p''.r p.r P'.r P.r))
        where
          most : {x y g : ℕ} → Close x y g → apart x y ≤ g
          most {x} {y} {g} s = apart_most x y g s.over s.under

          go : (K u D d : ℕ) → D ≤ 4 * K * u → d ≤ 4 * K * u → D * D + d * d ≤ 4 * K * (u * D + u * d)
          go K u D d l m = omega (arith, mul-le-mul_right D l, mul-le-mul_right d m)

      place : Nearest (sz.P * Dz + sr.P * Dr) (sz.C * Dz + sr.C * Dr) L E (unit_clamp (N ⊘ a))
      place = nearest E _ _ L nP nN _ _ N a (finite_raise N' {m = 200} tt) (finite_raise (dots_finite p'' p P' P) {m = 200} tt)
          digits n-near (dots p'' p P' P).near
          (sums nP nN (K p''.z) (K p.z) gz (K p''.r) (K p.r) gr Dz sz.C sz.P Dr sr.C sr.P n_is
          sz.upright.dots sr.upright.dots)
          (squares (K p''.z) (K p.z) (K p''.r) (K p.r) (Dz * Dz) (Dr * Dr) sz.upright.squares
          sr.upright.squares) spans long_key
          (finite_raise (div_finite N' (dots_finite p'' p P' P) (over_e_24 (dots_finite p'' p P' P) long) tt tt) {m = 200} tt)
        where
          sums : (nP nN B A g b a k D C P d c p : ℕ)
              → nP + (B * A + A * g + (b * a + a * k)) ≡ nN + (B * g + A * A + (b * k + a * a))
              → B * g + A * A + D * C ≡ B * A + A * g + D * P
              → b * k + a * a + d * c ≡ b * a + a * k + d * p → nP + (C * D + c * d) ≡ nN + (P * D + p * d)
          sums nP nN B A g b a k D C P d c p x y z = omega arith

          squares : (B A b a D d : ℕ) → B * B + A * A ≡ B * A + A * B + D → b * b + a * a ≡ b * a + a * b + d
              → B * B + A * A + (b * b + a * a) ≡ B * A + A * B + (b * a + a * b) + (D + d)
          squares B A b a D d x y = omega arith

      place_wide : 3 * U ≤ 4 * E
      place_wide = place.wide

      abbrev s : Float
      s = unit_clamp (N ⊘ a)

      i : InUnit s
      i = place.in_unit

      -- the edge is not a point
      some : 0 < Dz + Dr
      some = elim (decide (Dz + Dr) 0) [ inl l ↦ absurd (clash Dz Dr u U (unit_pos binary64) l wide_enough) | inr l ↦ l ]
        where
          wide_enough : 3 * U ≤ 4 * E
          wide_enough = place_wide

          clash : (D d u U : ℕ) → 0 < U → D + d ≤ 0 → 3 * U ≤ 4 * (u * D + u * d) → ⊥
          clash D d u U v l m = omega (arith, mul-le-mul_left u l)

      corner : FromCorner (64 * (4 * u)) (K (hypot binary64 (wz s t i t⁺) (wr s t i t⁺)) - M) (K p.z) (K p''.z) gz (K p.r)
          (K p''.r) gr
      corner = from_corner U u (K s - M) _ (K p.z) (K p''.z) gz (K p.r) (K p''.r) gr sz.C Dz sz.P sr.C Dr
          sr.P (apart (K (wz s t i t⁺)) M) (apart (K (wr s t i t⁺)) M) (unit_pos binary64) (unit_most s i)
          sz.upright sr.upright some (root s t i t⁺)
          (way_leg s t i t⁺ p.z p''.z q.z q'.z P.z P'.z Q.z Q'.z gz z-is)
          (way_leg s t i t⁺ p.r p''.r q.r q'.r P.r P'.r Q.r Q'.r gr r_is)
          (λ n j o. loss n j (place.loss n j o))
        where
          bound : 27 * (U * (4 * E)) ≡ 27 * (U * (4 * u)) * (Dz + Dr)
          bound = go U u Dz Dr
            where
              go : (v u D d : ℕ) → 27 * (v * (4 * (u * D + u * d))) ≡ 27 * (v * (4 * u)) * (D + d)
              go v u D d = omega arith

          loss : (n j : ℕ) → Loss U (K s - M) (sz.P * Dz + sr.P * Dr) (sz.C * Dz + sr.C * Dr) L (27 * (U * (4 * E))) n j
              → Loss U (K s - M) (sz.P * Dz + sr.P * Dr) (sz.C * Dz + sr.C * Dr) L (27 * (U * (4 * u)) * (Dz + Dr)) n j
          loss n j l = rw (← bound) l

    -- ---- the first corner and the last
    pub first_corner : T (not (a ≼ e_24)) → FromCorner (64 * (4 * u))
        (K (distance_at p p'' q q' (places (unit_clamp (neg c ⊘ a)) 𝟘)) - M) (K p.z) (K p''.z) (K q.z) (K p.r) (K p''.r)
        (K q.r)
    first_corner long = corner long (neg c) 𝟘 (finite_raise (neg_finite (dots_finite p q P Q)) {m = 60} tt) zero_in_unit (K q.z)
        (K q.r) _ _
        (turn (K (neg c)) (K c) M U E _ _ (neg_key binary64 c (finite_number_lem (dots_finite p q P Q))) (dots p q P Q).near)
        (swap _ _)
        (stay U (K q.z) (K q'.z) (K 𝟘) M zero_key) (stay U (K q.r) (K q'.r) (K 𝟘) M zero_key)
      where
        turn : (k j m v E x y : ℕ) → k + j ≡ m + m → Near m v j x y (11 * E + 3 * v) → Near m v k y x (27 * E + 7 * v)
        turn k j m v E x y f s = record {
          over = omega (arith, s.under, ap (λ z. z * v) f);
          under = omega (arith, s.over, ap (λ z. z * v) f);
        }

        swap : (x y : ℕ) → x + y ≡ y + x
        swap x y = omega arith

        stay : (v q q' k m : ℕ) → k ≡ m → v * q + q' * (k - m) ≡ v * q + q * (k - m)
        stay v q q' k m f = let g : k - m ≡ 0 = omega arith in rw g (omega arith)

    pub last_corner : T (not (a ≼ e_24)) → FromCorner (64 * (4 * u))
        (K (distance_at p p'' q q' (places (unit_clamp ((b ⊖ c) ⊘ a)) 𝟙)) - M) (K p.z) (K p''.z) (K q'.z) (K p.r)
        (K p''.r) (K q'.r)
    last_corner long = corner long (b ⊖ c) 𝟙
        (finite_raise (sub_finite (dots_finite q' q Q' Q) (dots_finite p q P Q) tt) {m = 60} tt) one_in_unit (K q'.z)
        (K q'.r) _ _
        (dotted_less M U u H digits (K (b ⊖ c)) (K b) (K c) _ _ _ _ E (dots q' q Q' Q) (dots p q P Q)
        (difference_of b c (finite_raise (dots_finite q' q Q' Q) {m = 200} tt) (finite_raise (dots_finite p q P Q) {m = 200} tt)))
        (sums (K p''.z) (K p.z) (K q.z) (K q'.z) (K p''.r) (K p.r) (K q.r) (K q'.r))
        (move U (K q.z) (K q'.z) (K 𝟙) M one_key) (move U (K q.r) (K q'.r) (K 𝟙) M one_key)
      where
        sums : (B A q g b a k l : ℕ) → B * g + A * q + (b * l + a * k) + (B * q + A * A + (b * k + a * a)) +
            (B * A + A * g + (b * a + a * l)) ≡ B * q + A * g + (b * k + a * l) + (B * A + A * q + (b * a + a * k)) +
            (B * g + A * A + (b * l + a * a))
        sums B A q g b a k l = omega arith

        move : (v q q' k m : ℕ) → k ≡ m + v → v * q + q' * (k - m) ≡ v * q' + q * (k - m)
        move v q q' k m f = let g : k - m ≡ v = omega arith in rw g (omega arith)
