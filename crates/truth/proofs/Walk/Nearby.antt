-- FROM THE BOX TO THE CYLINDER'S POINT: what is true of every point of a box is true of a point near it, but for how near. z and
-- the radius from the spindle each are moved into the box; in space no point of a circle about the spindle is closer than the one
-- straight above (truth's Space).
use Prim.Native.Nat.{◌*◌, ◌+◌, ◌-◌, ◌<◌, ℕ, ◌≤◌}
use mathlib.Core.Logic.{inl, inr}
use mathlib.Core.Path.{◌≡◌, ap, ap₂, refl, sym, ◌∙◌}
use native.Mathlib.Nat.{le_of_eq, le_of_lt, le_refl, le_trans, mul-le-mul, mul-le-mul_left, mul-le-mul_right, mul-sub}
use native.Mathlib.Omega.{arith}
use Rattle.arith.proofs.roots.Numbers.{decide}
use Rattle.arith.proofs.roots.Root.Sticky.{whole_root, whole_root_is}
use Rattle.arith.specs.Whole.{apart}
use Rattle.truth.specs.Exact.{sqd}
use Rattle.arith.proofs.Laws.RoundingError.{Close}
use Rattle.truth.proofs.Points.Lagrange.{sqd_at, sqd_more, sqd_scale, sqd_shift}
use Rattle.arith.proofs.Laws.OperationErrors.{apart_most, apart_over, apart_under, RootClose}
use Rattle.truth.proofs.Points.Circle.{leg_lost, plane_least, unsigned_closer}

-- k of a range from a to c, which lies t beyond it at most
pub record Moved (a c k t : ℕ) : Type 0 where
  pub value : ℕ
  pub from : a ≤ value
  pub to : value ≤ c
  pub close : Close value k t

pub move : (a c k t : ℕ) → a ≤ c → a ≤ k + t → k ≤ c + t → Moved a c k t
move a c k t o h l = elim (decide a k) [
  | inr i ↦ record { value = a; from = le_refl a; to = o; close = record { over = h; under = more a (le_of_lt i) } }
  | inl i ↦ elim (decide k c) [
    | inl j ↦ record { value = k; from = i; to = j; close = record { over = more k (le_refl k); under = more k (le_refl k) } }
    | inr j ↦ record { value = c; from = o; to = le_refl c; close = record { over = more k (le_of_lt j); under = l } }
  ]
]
  where
    more : (x : ℕ) {y : ℕ} → y ≤ x → y ≤ x + t
    more x h = omega arith

module _ (m n q X Y Z z r X' Y' u ε : ℕ) (n⁺ : 0 < n) (above : q * m ≤ r)
    (circle : sqd X' (q * m) + sqd Y' (q * m) ≡ sqd r (q * m)) where
  abbrev Xs : ℕ
  Xs = apart X (n * m)

  abbrev Ys : ℕ
  Ys = apart Y (n * m)

  abbrev h : ℕ
  h = whole_root (Xs * Xs + Ys * Ys)

  root : RootClose (Xs * Xs + Ys * Ys) h 1
  root =
      let k = whole_root_is (Xs * Xs + Ys * Ys) in
      record { least = le_trans (mul-le-mul (less h) (less h)) k.least; most = le_of_lt k.most }
    where
      less : (x : ℕ) → x - 1 ≤ x
      less x = omega arith

  abbrev Rs : ℕ
  Rs = r - q * m

  r_is : r ≡ q * m + Rs
  r_is = go r (q * m) above
    where
      go : (x y : ℕ) → y ≤ x → x ≡ y + (x - y)
      go x y l = omega arith

  abbrev Ξ : ℕ
  Ξ = apart (n * X') (q * (n * m))

  abbrev Υ : ℕ
  Υ = apart (n * Y') (q * (n * m))

  turned : Ξ * Ξ + Υ * Υ ≡ n * Rs * (n * Rs)
  turned =
      let f : (x : ℕ) → sqd (n * x) (q * (n * m)) ≡ n * n * sqd x (q * m) = λ x. sqd_at refl swap ∙ sqd_scale n x (q * m) in
      let g : Ξ * Ξ + Υ * Υ ≡ sqd (n * X') (q * (n * m)) + sqd (n * Y') (q * (n * m)) = unfold sqd in refl in
      let k : sqd (n * X') (q * (n * m)) + sqd (n * Y') (q * (n * m)) ≡ n * n * (sqd X' (q * m) + sqd Y' (q * m)) =
      ap₂ ◌+◌ (f X') (f Y') ∙ sym (add (n * n) (sqd X' (q * m)) (sqd Y' (q * m))) in
      let l : sqd r (q * m) ≡ Rs * Rs = ap (λ w. sqd w (q * m)) r_is ∙ sqd_more (q * m) Rs in
      g ∙ k ∙ ap (λ w. n * n * w) (circle ∙ l) ∙ four n Rs
    where
      swap : q * (n * m) ≡ n * (q * m)
      swap = omega arith

      add : (a b c : ℕ) → a * (b + c) ≡ a * b + a * c
      add a b c = omega arith

      four : (n k : ℕ) → n * n * (k * k) ≡ n * k * (n * k)
      four n k = omega arith

  abbrev plane : ℕ
  plane = sqd (q * X) (n * X') + sqd (q * Y) (n * Y')

  plane_far : (apart (q * h) (n * Rs) - q * 1) * (apart (q * h) (n * Rs) - q * 1) ≤ plane
  plane_far =
      le_trans (plane_least q Xs Ys Ξ Υ (n * Rs) h 1 turned root (one))
      (both (unsigned_closer (n * m) q X (n * X')) (unsigned_closer (n * m) q Y (n * Y')))
    where
      one : 0 < 1
      one = omega arith

      both : {a b c d : ℕ} → a ≤ c → b ≤ d → a + b ≤ c + d
      both h k = omega arith

  -- zb and m + hb are the point of the box
  module _ (W zb hb : ℕ) (z_close : Close zb Z (n * u)) (h-close : Close hb h (n * ε + 1))
      (box : n * q * W * (n * q * W) ≤ sqd (q * zb) (n * z) + sqd (q * (n * m + hb)) (n * r)) where
    A : ℕ
    A = apart (q * zb) (n * z)

    A₀ : ℕ
    A₀ = apart (q * Z) (n * z)

    C : ℕ
    C = apart (q * hb) (n * Rs)

    upper : sqd (q * (n * m + hb)) (n * r) ≡ C * C
    unfolding C
    upper = ap (λ w. sqd (q * (n * m + hb)) (n * w)) r_is ∙ sqd_at first second ∙ sqd_shift (q * hb) (n * Rs) (q * n * m)
        ∙ unfold sqd in refl
      where
        first : q * (n * m + hb) ≡ q * hb + q * n * m
        first = omega arith

        second : n * (q * m + Rs) ≡ n * Rs + q * n * m
        second = go Rs
          where
            go : (k : ℕ) → n * (q * m + k) ≡ n * k + q * n * m
            go k = omega arith

    box' : n * q * W * (n * q * W) ≤ C * C + A * A
    unfolding A
    box' = le_trans box
        (le_of_eq
        (ap (λ w. sqd (q * zb) (n * z) + w) upper
        ∙ (let e : sqd (q * zb) (n * z) + C * C ≡ A * A + C * C = unfold sqd in refl in e) ∙ swap (A * A) (C * C)))
      where
        swap : (a b : ℕ) → a + b ≡ b + a
        swap a b = omega arith

    A_near : (A - n * q * u) * (A - n * q * u) ≤ A₀ * A₀
    unfolding A A₀
    A_near = let l : apart (q * zb) (n * z) - n * q * u ≤ apart (q * Z) (n * z) =
        less (apart_most (q * zb) (n * z) (apart (q * Z) (n * z) + n * q * u)
        (up (apart (q * Z) (n * z)) (mul-le-mul_left q z_close.over) (apart_over (q * Z) (n * z)))
        (down (apart (q * Z) (n * z)) (mul-le-mul_left q z_close.under) (apart_under (q * Z) (n * z)))) in mul-le-mul l l
      where
        less : {a b : ℕ} → a ≤ b + n * q * u → a - n * q * u ≤ b
        less {a} {b} h = go a b (n * q * u) h
          where
            go : (a b c : ℕ) → a ≤ b + c → a - c ≤ b
            go a b c h = omega arith

        up : (a : ℕ) → q * zb ≤ q * (Z + n * u) → q * Z ≤ n * z + a → q * zb ≤ n * z + (a + n * q * u)
        up a h k = omega arith

        down : (a : ℕ) → q * Z ≤ q * (zb + n * u) → n * z ≤ q * Z + a → n * z ≤ q * zb + (a + n * q * u)
        down a h k = omega arith

    C_near : (C - n * q * (ε + 2)) * (C - n * q * (ε + 2)) ≤ plane
    unfolding C
    C_near = le_trans (let l = less (apart_most (q * hb) (n * Rs) (apart (q * h) (n * Rs) + q * (n * ε + 1))
        (up h Rs (apart (q * h) (n * Rs)) (mul-le-mul_left q h-close.over) (apart_over (q * h) (n * Rs)))
        (down h Rs (apart (q * h) (n * Rs)) (mul-le-mul_left q h-close.under) (apart_under (q * h) (n * Rs)))) in
        mul-le-mul l l) plane_far
      where
        less : apart (q * hb) (n * Rs) ≤ apart (q * h) (n * Rs) + q * (n * ε + 1)
            → apart (q * hb) (n * Rs) - n * q * (ε + 2) ≤ apart (q * h) (n * Rs) - q * 1
        less k = go (apart (q * hb) (n * Rs)) (apart (q * h) (n * Rs)) k (mul-le-mul_right q n⁺)
          where
            go : (a b : ℕ) → a ≤ b + q * (n * ε + 1) → 1 * q ≤ n * q → a - n * q * (ε + 2) ≤ b - q * 1
            go a b h k = let l : a ≤ b + n * q * ε + q = omega arith in let o : n * q * (ε + 2) ≡ n * q * ε + 2 * (n * q) =
                omega arith in rw o (last a b (n * q * ε) (n * q) l k)
              where
                last : (a b c d : ℕ) → a ≤ b + c + q → 1 * q ≤ d → a - (c + 2 * d) ≤ b - q * 1
                last a b c d l k = omega arith

        up : (h R a : ℕ) → q * hb ≤ q * (h + (n * ε + 1)) → q * h ≤ n * R + a → q * hb ≤ n * R + (a + q * (n * ε + 1))
        up h R a k l = omega arith

        down : (h R a : ℕ) → q * h ≤ q * (hb + (n * ε + 1)) → n * R ≤ q * h + a → n * R ≤ q * hb + (a + q * (n * ε + 1))
        down h R a k l = omega arith

    pub point_far : n * q * (W - (u + (ε + 2))) * (n * q * (W - (u + (ε + 2)))) ≤ sqd (q * Z) (n * z) + plane
    point_far =
        let a = leg_lost (n * q * W) (n * q * u) C A (A₀ * A₀) box' A_near in
        let c = leg_lost (n * q * W - n * q * u) (n * q * (ε + 2)) A₀ C plane (le_trans a (le_of_eq (swap (C * C) (A₀ * A₀))))
        C_near in
        rw (turn (n * q) W u (ε + 2)) (le_trans c (le_of_eq (ap (λ w. w + plane) (unfold A₀ sqd in refl))))
      where
        swap : (a b : ℕ) → a + b ≡ b + a
        swap a b = omega arith

        turn : (k w a b : ℕ) → k * (w - (a + b)) ≡ k * w - k * a - k * b
        turn k w a b = ap (λ y. k * y) (let q : w - (a + b) ≡ w - a - b = omega arith in q) ∙ mul-sub k (w - a) b
            ∙ ap (λ y. y - k * b) (mul-sub k w a)
