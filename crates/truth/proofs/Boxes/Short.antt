-- AN EDGE SO SHORT THAT 1e-24 COUNTS: 32 u at most in either coordinate, so that its first end stands for it, across a side and
-- at a corner.
use Prim.Native.Nat.{◌*◌, ◌+◌, ◌-◌, ◌<◌, ◌^◌, ℕ, ◌≤◌}
use mathlib.Core.Logic.{inl, inr, ◌⊎◌}
use mathlib.Core.Path.{◌≡◌, ap, refl, ◌∙◌}
use native.Mathlib.Nat.{le_of_lt, le_trans, mul-le-mul, mul-le-mul_left, mul-le-mul_right, mul-pos}
use native.Mathlib.Omega.{arith}
use lib.Dec.{T}
use lib.Ieee.{binary64, Float}
use lib.Pow.{pow_pos}
use Rattle.arith.specs.roots.Roots.{hypot}
use Rattle.arith.proofs.roots.Numbers.{decide}
use Rattle.arith.proofs.roots.Rounding.Key.{unit_pos}
use Rattle.arith.proofs.roots.Rounding.KeyOrder.{le→key}
use Rattle.arith.specs.F64.{◌≼◌, 𝟘, 𝟙, e_24}
use Rattle.arith.proofs.Laws.Quotients.{InUnit, one_in_unit, zero_in_unit}
use Rattle.arith.proofs.Laws.Sizes.{e_24_finite, finite_number_lem, K, M, zero_key}
use Rattle.section.specs.declared.profile.shapes.Vertex.{Vertex}
use Rattle.section.specs.segments.Segments.{dot, minus, places}
use Rattle.arith.specs.Whole.{apart}
use Rattle.truth.specs.Exact.{sqd}
use Rattle.truth.proofs.Points.Closest.{Within}
use Rattle.truth.proofs.Points.Lagrange.{apart_split, sqd_comm, sqd_is}
use Rattle.truth.proofs.Points.Reported.{never_more_short}
use Rattle.arith.proofs.Laws.OperationErrors.{apart_over, apart_under, RootClose}
use Rattle.truth.proofs.Boxes.Lengths.{Slim}
use Rattle.truth.proofs.Boxes.Beside.{FromCorner, root_le}
use Rattle.truth.proofs.Boxes.Corners.{distance_at, dots, dots_finite, root, stands, way_leg, wr, wz}
use Rattle.truth.proofs.Boxes.Floats.{H, U}
use Rattle.truth.proofs.Boxes.Taken.{Good, one_key}

-- ---- what the first end loses to any other point of the edge: at most the edge's extent
loss : (v A B Q i j D : ℕ) → A ≤ B + D → B ≤ A + D
    → (i + j) * apart (v * A) (v * Q) ≤ v * (apart (j * A + i * B) ((i + j) * Q) + (i + j) * D)
loss v A B Q i j D h k =
    go (apart (v * A) (v * Q)) (apart (j * A + i * B) ((i + j) * Q)) (apart_split (v * A) (v * Q))
    (apart_over (j * A + i * B) ((i + j) * Q)) (apart_under (j * A + i * B) ((i + j) * Q))
  where
    go : (X Z : ℕ) → (v * Q ≡ v * A + X) ⊎ (v * A ≡ v * Q + X) → j * A + i * B ≤ (i + j) * Q + Z → (i + j) * Q ≤ j * A + i * B + Z
        → (i + j) * X ≤ v * (Z + (i + j) * D)
    go X Z (inl e) o u = omega (arith, ap (λ z. (i + j) * z) e, mul-le-mul_left v u, mul-le-mul_left (v * i) k)
    go X Z (inr e) o u = omega (arith, ap (λ z. (i + j) * z) e, mul-le-mul_left v o, mul-le-mul_left (v * i) h)

-- ---- how short it is
extent : (X v u D d : ℕ) → 2 * X + 4 * v ≤ 403 * (u * u) → 0 < u → D * D + d * d ≤ X + (11 * (u * D + u * d) + 3 * v) → D ≤ 32 * u
extent X v u D d l p h = elim (decide D (32 * u)) [
  | inl k ↦ k
  | inr k ↦ absurd (clash (mul-le-mul_right D (le_of_lt k)) (mul-le-mul_left u (le_of_lt k)) (sqd_is (2 * d) (11 * u))
      (mul-pos p p))
]
  where
    clash : 32 * u * D ≤ D * D → u * (32 * u) ≤ u * D
        → sqd (2 * d) (11 * u) + 2 * (2 * d * (11 * u)) ≡ 2 * d * (2 * d) + 11 * u * (11 * u) → 0 < u * u → ⊥
    clash a b c q = omega (arith, l, h)

module _ (e h : ℕ) (slim : Slim e h) (p p'' q q' : Vertex) (P : Within e p) (P' : Within e p'') (Q : Within e q) (Q' : Within e q')
    (short : T (dot (minus p'' p) (minus p'' p) ≼ e_24)) where
  abbrev a : Float
  a = dot (minus p'' p) (minus p'' p)

  abbrev Dz : ℕ
  Dz = apart (K p''.z) (K p.z)

  abbrev Dr : ℕ
  Dr = apart (K p''.r) (K p.r)

  squared : Dz * Dz + Dr * Dr ≤ (K e_24 - M) * U + (11 * (2 ^ e * Dz + 2 ^ e * Dr) + 3 * U)
  squared = go (K a) (K e_24) M U (11 * (2 ^ e * Dz + 2 ^ e * Dr) + 3 * U) _ _ (Dz * Dz + Dr * Dr)
      (le→key binary64 a e_24 (finite_number_lem (dots_finite e h slim p p'' q q' P P' Q Q' p'' p P' P)) (finite_number_lem e_24_finite)
      short)
      (dots e h slim p p'' q q' P P' Q Q' p'' p P' P).near.under
      (sums (K p''.z) (K p.z) (K p''.r) (K p.r) (Dz * Dz) (Dr * Dr) (stands (K p.z) (K p''.z) 0).upright.squares
      (stands (K p.r) (K p''.r) 0).upright.squares)
    where
      go : (k c m v g P N L : ℕ) → k ≤ c → m * v + P ≤ k * v + N + g → P ≡ N + L → L ≤ (c - m) * v + g
      go k c m v g P N L l n e = step (c - m) (let z : k ≤ m + (c - m) = omega arith in z)
        where
          step : (w : ℕ) → k ≤ m + w → L ≤ w * v + g
          step w o = omega (arith, mul-le-mul_right v o, n, e)

      sums : (B A b a D d : ℕ) → B * B + A * A ≡ B * A + A * B + D → b * b + a * a ≡ b * a + a * b + d
          → B * B + A * A + (b * b + a * a) ≡ B * A + A * B + (b * a + a * b) + (D + d)
      sums B A b a D d x y = omega arith

  pub short_z : Dz ≤ 32 * 2 ^ e
  short_z = extent ((K e_24 - M) * U) U (2 ^ e) Dz Dr slim.little (pow_pos e) squared

  pub short_r : Dr ≤ 32 * 2 ^ e
  short_r = extent ((K e_24 - M) * U) U (2 ^ e) Dr Dz slim.little (pow_pos e)
      (turn (Dz * Dz) (Dr * Dr) (2 ^ e * Dz) (2 ^ e * Dr) ((K e_24 - M) * U) U squared)
    where
      turn : (a b c d x v : ℕ) → a + b ≤ x + (11 * (c + d) + 3 * v) → b + a ≤ x + (11 * (d + c) + 3 * v)
      turn a b c d x v h = omega arith

  -- ---- across a side
  module _ (ε : ℕ) (ε⁺ : 1024 * (H * 2 ^ e * 2 ^ e) ≤ ε * ε) where
    pub short_good : (A B Q : ℕ) → apart B A ≤ 32 * 2 ^ e → Good ε A B Q 𝟘
    short_good A B Q l = record {
      in_unit = zero_in_unit;
      best = record {
        proof = λ i j. at_zero ε A B Q (U - (K 𝟘 - M)) (K 𝟘 - M) i j (none (K 𝟘) M zero_key)
            (le_trans (loss (U - (K 𝟘 - M)) A B Q i j (apart B A) (apart_under B A) (apart_over B A))
            (mul-le-mul_left (U - (K 𝟘 - M)) (more (apart (j * A + i * B) ((i + j) * Q))
            (mul-le-mul_left (i + j) (le_trans l small)))));
      };
    }
      where
        none : (k m : ℕ) → k ≡ m → k - m ≡ 0
        none k m e = omega arith

        more : (z : ℕ) {x y : ℕ} → x ≤ y → z + x ≤ z + y
        more z h = omega arith

        small : 32 * 2 ^ e ≤ ε
        small = root_le (32 * 2 ^ e) ε (le_trans (go H (2 ^ e) slim.small.digits) ε⁺)
          where
            go : (c u : ℕ) → 1024 ≤ c → 32 * u * (32 * u) ≤ 1024 * (c * u * u)
            go c u h = omega (arith, mul-le-mul_right (u * u) h)

        at_zero : (ε A B Q S T i j : ℕ) → T ≡ 0 → (i + j) * apart (S * A) (S * Q)
            ≤ S * (apart (j * A + i * B) ((i + j) * Q) + (i + j) * ε)
            → (i + j) * apart (S * A + T * B) ((S + T) * Q) ≤ (S + T) * (apart (j * A + i * B) ((i + j) * Q) + (i + j) * ε)
        at_zero ε A B Q S T i j e h = rw (e, first S A B, second S) h
          where
            first : (S A B : ℕ) → S * A + 0 * B ≡ S * A
            first S A B = omega arith

            second : (S : ℕ) → S + 0 ≡ S
            second S = omega arith

  -- ---- at a corner, gz and gr, to which t belongs
  module _ (t : Float) (t⁺ : InUnit t) (gz gr : ℕ) (z-is : U * K q.z + K q'.z * (K t - M) ≡ U * gz + K q.z * (K t - M))
      (r_is : U * K q.r + K q'.r * (K t - M) ≡ U * gr + K q.r * (K t - M)) where
    abbrev legz : Float
    legz = wz e h slim p p'' q q' P P' Q Q' 𝟘 t zero_in_unit t⁺

    abbrev legr : Float
    legr = wr e h slim p p'' q q' P P' Q Q' 𝟘 t zero_in_unit t⁺

    near : (A B g s : ℕ) → U * s ≤ apart ((U - (K 𝟘 - M)) * A + (K 𝟘 - M) * B)
        ((K 𝟘 - M + (U - (K 𝟘 - M))) * g) + 25 * (2 ^ e * U)
        → U * s ≤ apart (U * A) (U * g) + 8 * (4 * 2 ^ e * U)
    near A B g s l = go (K 𝟘 - M) (none (K 𝟘) M zero_key) l
      where
        none : (k m : ℕ) → k ≡ m → k - m ≡ 0
        none k m e = omega arith

        go : (k : ℕ) → k ≡ 0 → U * s ≤ apart ((U - k) * A + k * B) ((k + (U - k)) * g) + 25 * (2 ^ e * U)
            → U * s ≤ apart (U * A) (U * g) + 8 * (4 * 2 ^ e * U)
        go k f = rw (f, first U A B, second U) (λ h. room (apart (U * A) (U * g)) (2 ^ e) U (U * s) h)
          where
            first : (S A B : ℕ) → (S - 0) * A + 0 * B ≡ S * A
            first S A B = let g : S - 0 ≡ S = omega arith in rw g (omega arith)

            second : (S : ℕ) → 0 + (S - 0) ≡ S
            second S = omega arith

            room : (X u v y : ℕ) → y ≤ X + 25 * (u * v) → y ≤ X + 8 * (4 * u * v)
            room X u v y h = omega arith

    moved : (A B g i j : ℕ) → apart B A ≤ 32 * 2 ^ e
        → (i + j) * apart (U * A) (U * g) ≤ U * apart (j * A + i * B) ((i + j) * g) + 31 * ((i + j) * U * (4 * 2 ^ e))
    moved A B g i j l = go (i + j) U (2 ^ e) (apart (j * A + i * B) ((i + j) * g)) (apart B A) l
        (loss U A B g i j (apart B A) (apart_under B A) (apart_over B A))
      where
        go : (n v u Z D : ℕ) {x : ℕ} → D ≤ 32 * u → x ≤ v * (Z + n * D) → x ≤ v * Z + 31 * (n * v * (4 * u))
        go n v u Z D l h = omega (arith, mul-le-mul_left (v * n) l)

    short_corner : FromCorner (64 * (4 * 2 ^ e)) (K (hypot binary64 legz legr) - M) (K p.z) (K p''.z) gz (K p.r)
        (K p''.r) gr
    short_corner = record {
      proof = λ i j. never_more_short U (4 * 2 ^ e) (i + j) _ (apart (K legz) M) (apart (K legr) M)
          (apart (U * K p.z) (U * gz)) (apart (U * K p.r) (U * gr))
          (sqd ((i + j) * gz) (j * K p.z + i * K p''.z) + sqd ((i + j) * gr) (j * K p.r + i * K p''.r))
          (wider (2 ^ e) _ _ (root e h slim p p'' q q' P P' Q Q' 𝟘 t zero_in_unit t⁺))
          (near (K p.z) (K p''.z) gz _ (way_leg e h slim p p'' q q' P P' Q Q' 𝟘 t zero_in_unit t⁺ p.z p''.z q.z q'.z
          P.z P'.z Q.z Q'.z gz z-is))
          (near (K p.r) (K p''.r) gr _ (way_leg e h slim p p'' q q' P P' Q Q' 𝟘 t zero_in_unit t⁺ p.r p''.r q.r q'.r
          P.r P'.r Q.r Q'.r gr r_is))
          (unit_pos binary64) (apart (j * K p.z + i * K p''.z) ((i + j) * gz))
          (apart (j * K p.r + i * K p''.r) ((i + j) * gr))
          (both (square ((i + j) * gz) (j * K p.z + i * K p''.z)) (square ((i + j) * gr) (j * K p.r + i * K p''.r)))
          (moved (K p.z) (K p''.z) gz i j short_z) (moved (K p.r) (K p''.r) gr i j short_r);
    }
      where
        wider : (u s w : ℕ) → RootClose s w (8 * u) → RootClose s w (8 * (4 * u))
        wider u s w r = record {
          least = le_trans (mono (w - 8 * (4 * u)) (w - 8 * u) (let z : w - 8 * (4 * u) ≤ w - 8 * u = omega arith in z))
              r.least;
          most = le_trans r.most (mono (w + 8 * u) (w + 8 * (4 * u)) (let z : w + 8 * u ≤ w + 8 * (4 * u) = omega arith in z));
        }
          where
            mono : (g h : ℕ) → g ≤ h → g * g ≤ h * h
            mono g h l = mul-le-mul l l

        square : (x y : ℕ) → sqd x y ≡ apart y x * apart y x
        square x y = sqd_comm x y ∙ (unfold sqd in refl)

        both : {a b c d : ℕ} → a ≡ b → c ≡ d → a + c ≡ b + d
        both e f = rw (e, f) refl

  pub short_first : FromCorner (64 * (4 * 2 ^ e)) (K (distance_at p p'' q q' (places 𝟘 𝟘)) - M) (K p.z) (K p''.z) (K q.z)
      (K p.r) (K p''.r) (K q.r)
  short_first = short_corner 𝟘 zero_in_unit (K q.z) (K q.r) (stay U (K q.z) (K q'.z) (K 𝟘) M zero_key)
      (stay U (K q.r) (K q'.r) (K 𝟘) M zero_key)
    where
      stay : (v q q' k m : ℕ) → k ≡ m → v * q + q' * (k - m) ≡ v * q + q * (k - m)
      stay v q q' k m f = let g : k - m ≡ 0 = omega arith in rw g (omega arith)

  pub short_last : FromCorner (64 * (4 * 2 ^ e)) (K (distance_at p p'' q q' (places 𝟘 𝟙)) - M) (K p.z) (K p''.z) (K q'.z)
      (K p.r) (K p''.r) (K q'.r)
  short_last = short_corner 𝟙 one_in_unit (K q'.z) (K q'.r) (move U (K q.z) (K q'.z) (K 𝟙) M one_key)
      (move U (K q.r) (K q'.r) (K 𝟙) M one_key)
    where
      move : (v q q' k m : ℕ) → k ≡ m + v → v * q + q' * (k - m) ≡ v * q' + q * (k - m)
      move v q q' k m f = let g : k - m ≡ v = omega arith in rw g (omega arith)
