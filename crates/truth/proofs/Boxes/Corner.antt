-- A CORNER AGAINST THE EDGE, in whole numbers: from the residual of the rounded place on the edge, in the form truth's Foot has
-- it, the corner's distance to the edge. The edge runs from A to B, the corner lies at q, in one coordinate; small letters in the
-- other. One that runs downwards is turned: then q takes the place of A and A that of q.
use Prim.Native.Nat.{◌*◌, ◌+◌, ◌-◌, ◌<◌, ℕ, ◌≤◌}
use mathlib.Core.Path.{◌≡◌, ap, ap₂, refl, sym, ◌∙◌}
use native.Mathlib.Nat.{le_of_eq, le_trans, mul-le-mul}
use native.Mathlib.Omega.{arith}
use Rattle.arith.specs.Whole.{apart}
use Rattle.truth.specs.Exact.{sqd}
use Rattle.truth.proofs.Points.Foot.{Loss, nearly}
use Rattle.truth.proofs.Points.Lagrange.{apart²}
use Rattle.arith.proofs.Laws.OperationErrors.{RootClose}
use Rattle.truth.proofs.Points.Reported.{never_more}
use Rattle.truth.proofs.Boxes.Beside.{FromCorner}

pub apart_comm : (x y : ℕ) → apart x y ≡ apart y x
unfolding apart
apart_comm x y = omega arith

apart_shift : (x y k : ℕ) → apart x y ≡ apart (x + k) (y + k)
unfolding apart
apart_shift x y k = omega arith

-- the edge from A to B, the corner at q: P is seen from an edge that runs up by D from C
pub record Upright (A B q C D P : ℕ) : Type 0 where
  pub leg : (i j : ℕ) → apart (j * A + i * B) ((i + j) * q) ≡ apart ((i + j) * P) ((i + j) * C + i * D)
  pub dots : B * q + A * A + D * C ≡ B * A + A * q + D * P
  pub squares : B * B + A * A ≡ B * A + A * B + D * D

pub upright_up : (A D q : ℕ) → Upright A (A + D) q A D q
upright_up A D q = record {
  leg = λ i j. ap (λ z. apart z ((i + j) * q)) (along i j) ∙ apart_comm _ _;
  dots = omega arith;
  squares = omega arith;
}
  where
    along : (i j : ℕ) → j * A + i * (A + D) ≡ (i + j) * A + i * D
    along i j = omega arith

pub upright_down : (B D q : ℕ) → Upright (B + D) B q q D (B + D)
upright_down B D q = record {
  leg = λ i j. apart_shift (j * (B + D) + i * B) ((i + j) * q) (i * D) ∙ ap (λ z. apart z ((i + j) * q + i * D)) (along i j);
  dots = omega arith;
  squares = omega arith;
}
  where
    along : (i j : ℕ) → j * (B + D) + i * B + i * D ≡ (i + j) * (B + D)
    along i j = omega arith

module _ (U u T w A B Q a b q C D P c d p sx sy : ℕ) (U⁺ : 0 < U) (T⁺ : T ≤ U) (x : Upright A B Q C D P) (y : Upright a b q c d p)
    (long : 0 < D + d)
    (root : RootClose (sx * sx + sy * sy) w (8 * u))
    (x_leg : U * sx ≤ apart ((U - T) * A + T * B) ((T + (U - T)) * Q) + 25 * (u * U))
    (y_leg : U * sy ≤ apart ((U - T) * a + T * b) ((T + (U - T)) * q) + 25 * (u * U))
    (loss : (n i : ℕ) → i ≤ n → Loss U T (P * D + p * d) (C * D + c * d) (D * D + d * d) (27 * (U * (4 * u)) * (D + d)) n i) where
  abbrev X : ℕ
  X = apart (U * P) (U * C + T * D)

  abbrev Y : ℕ
  Y = apart (U * p) (U * c + T * d)

  whole : T + (U - T) ≡ U
  whole = omega (arith, T⁺)

  at_place : {A B Q C D P : ℕ} → Upright A B Q C D P
      → apart ((U - T) * A + T * B) ((T + (U - T)) * Q) ≡ apart (U * P) (U * C + T * D)
  at_place {A} {B} {Q} {C} {D} {P} z = z.leg T (U - T) ∙ ap (λ n. apart (n * P) (n * C + T * D)) whole

  room : (s X Z : ℕ) → Z ≡ X → U * s ≤ Z + 25 * (u * U) → U * s ≤ X + 8 * (4 * u * U)
  room s X Z e h = omega (arith, h)

  wider : RootClose (sx * sx + sy * sy) w (8 * (4 * u))
  wider = record {
    least = le_trans (mono (w - 8 * (4 * u)) (w - 8 * u) (let z : w - 8 * (4 * u) ≤ w - 8 * u = omega arith in z))
        root.least;
    most = le_trans root.most
        (mono (w + 8 * u) (w + 8 * (4 * u)) (let z : w + 8 * u ≤ w + 8 * (4 * u) = omega arith in z));
  }
    where
      mono : (g h : ℕ) → g ≤ h → g * g ≤ h * h
      mono g h l = mul-le-mul l l

  exact : (i j : ℕ) → apart² C D P c d p (i + j) i ≡ sqd ((i + j) * Q) (j * A + i * B) + sqd ((i + j) * q) (j * a + i * b)
  unfolding apart² sqd
  exact i j = ap₂ ◌+◌ (one i j x) (one i j y)
    where
      one : {A B Q C D P : ℕ} (i j : ℕ) → Upright A B Q C D P
          → apart ((i + j) * P) ((i + j) * C + i * D) * apart ((i + j) * P) ((i + j) * C + i * D)
          ≡ apart ((i + j) * Q) (j * A + i * B) * apart ((i + j) * Q) (j * A + i * B)
      one {A} {B} {Q} i j z = ap (λ v. v * v) (sym (z.leg i j) ∙ apart_comm (j * A + i * B) ((i + j) * Q))

  here : apart² C D P c d p U T ≡ X * X + Y * Y
  unfolding apart² sqd
  here = refl

  -- the corner's distance to the edge is true within 256 u
  pub from_corner : FromCorner (64 * (4 * u)) w A B Q a b q
  from_corner = record {
    proof = λ i j. le_trans
        (never_more U (4 * u) (i + j) w sx sy X Y (apart² C D P c d p (i + j) i) wider (room sx X _ (at_place x) x_leg)
        (room sy Y _ (at_place y) y_leg) U⁺
        (rw here at (nearly C D P c d p U T (27 * (U * (4 * u))) long (i + j) i
        (loss (i + j) i (let l : i ≤ i + j = omega arith in l)))))
        (le_of_eq (exact i j));
  }
