-- FROM THE STRAIGHTENED CYLINDER TO THE LEANING ONE: what keeps w and half the lean from the straightened cylinder keeps w from
-- the leaning one, but for 5 u. A disc of the leaning one is a disc of the straightened one, moved by no more than half the lean.
use Prim.Native.Nat.{◌*◌, ◌+◌, ◌-◌, ◌<◌, ◌^◌, min, max, suc, ℕ, ◌≤◌, zero-le}
use mathlib.Core.Bool.{Bool}
use mathlib.Core.Logic.{inl, inr, ◌⊎◌}
use mathlib.Core.Path.{◌≡◌, ap, sym, ◌∙◌}
use native.Mathlib.Nat.{le_of_eq, le_of_lt, le_trans, mul-le-mul, mul-le-mul_left, mul-sub, two-pow-succ}
use native.Mathlib.Omega.{arith}
use lib.Dec.{T}
use lib.Ieee.{binary64, Float, of_bits, prec}
use lib.Pow.{pow_pos}
use Rattle.arith.specs.roots.Roots.{hypot}
use Rattle.arith.proofs.roots.Rounding.Key.{finite_number}
use Rattle.arith.specs.F64.{◌⊕◌, ◌⊖◌, ◌⊗◌, ½}
use Rattle.arith.specs.Num.{max as max_of, min as min_of}
use Rattle.arith.proofs.Laws.Bounded.{Bounded, bounded_up, mid_lt, overflow}
use Rattle.arith.proofs.Laws.BoundedValue.{add_value, bounded→value, sub_value}
use Rattle.arith.proofs.Laws.Middle.{half as one_half, half_is, half_near, IsHalf}
use Rattle.arith.proofs.Laws.SizedOrder.{half_not_negative, hypot_not_negative, max_finite_key, min_finite_key}
use Rattle.arith.proofs.Laws.Sizes.{Finite, finite_given, half_finite, hypot_finite, K, M, sub_finite}
use Rattle.walk.specs.bands.Band.{band_of, mean}
use Rattle.walk.specs.declared.bands.shapes.Cylinder.{Cylinder}
use Rattle.arith.specs.Whole.{apart}
use Rattle.truth.specs.Exact.{origin, place, size, sqd, units}
use Rattle.truth.specs.Boxes.{Within}
use Rattle.truth.specs.Cylinders.{Clear, CylinderWithin, Kept, Leaning, space², Straight}
use Rattle.truth.proofs.Places.{origin_is, place_is}
use Rattle.arith.proofs.Laws.RoundingError.{Close}
use Rattle.arith.proofs.Laws.OperationErrors.{add_close, apart_most, apart_over, apart_under, hypot_close, sub_close}
use Rattle.truth.proofs.Walk.Answers.{cylinder_sized}
use Rattle.truth.proofs.Walk.Boxed.{units_key}
use Rattle.truth.proofs.Walk.HalfWidths.{Scaled}
use Rattle.truth.proofs.Walk.Scales.{within_bounded}
use Rattle.truth.proofs.Walk.Squares.{root_le}
use Rattle.truth.proofs.Walk.Triangle.{apart_through, apart_times, both_longer, off_middle, shift, Shifted, triangle}

half_half : IsHalf binary64 ½
unfolding of_bits one_half
half_half = half_is binary64

module _ (f m : ℕ) (S : Scaled f m) where
  abbrev u : ℕ
  u = 2 ^ f

  abbrev Given : Float → Type 0
  Given x = Within (2 ^ (53 + f)) x

  range : 2 ^ (prec binary64 + suc f) ≤ M
  range = le_of_lt (mid_lt binary64 (prec binary64 + suc f)
      (let l = S.range in let q : prec binary64 + suc f < overflow binary64 = omega arith in q))

  double : 2 ^ (prec binary64 + suc f) ≡ 2 ^ (53 + f) + 2 ^ (53 + f)
  double = ap (λ z. 2 ^ z) (let q : prec binary64 + suc f ≡ suc (53 + f) = omega arith in q) ∙ two-pow-succ (53 + f)

  module _ {x y : Float} (X : Given x) (Y : Given y) where
    abbrev X' : Bounded binary64 (53 + f) x
    X' = within_bounded (53 + f) x X

    abbrev Y' : Bounded binary64 (53 + f) y
    Y' = within_bounded (53 + f) y Y

    small : prec binary64 + suc f < overflow binary64
    small = let l = S.range in let q : prec binary64 + suc f < overflow binary64 = omega arith in q

    -- ---- the middle
    sum_bounded : Bounded binary64 (prec binary64 + suc f) (x ⊕ y)
    sum_bounded = add_value binary64 (53 + f) (53 + f) (prec binary64 + suc f) small (omega arith) (omega arith)
        (bounded→value binary64 _ _ X') (bounded→value binary64 _ _ Y')

    mean_close : Close (2 * place (mean x y)) (place x + place y) (u + 1)
    mean_close =
        let a = add_close binary64 x y X'.sure Y'.sure f range
        (sizes (K x) (K y) M (2 ^ (53 + f)) _ X'.lower X'.upper Y'.lower Y'.upper double) in
        let h = half_near binary64 (x ⊕ y) ½ sum_bounded.sure half_half in
        rw (place_is (mean x y), place_is x, place_is y)
        (go (K (mean x y)) (K (x ⊕ y)) (K x) (K y) M u a.over a.under h.0 h.1)
      where
        sizes : (x y m w v : ℕ) → m ≤ x + w → x ≤ m + w → m ≤ y + w → y ≤ m + w → v ≡ w + w → Close (x + y) (m + m) v
        sizes x y m w v a b c d e = record { over = omega arith; under = omega arith }

        go : (h s x y m u : ℕ) → s + m ≤ x + y + u → x + y ≤ s + m + u → h + h ≤ m + s + 1 → m + s ≤ h + h + 1
            → Close (2 * h) (x + y) (u + 1)
        go h s x y m u a b c d = record { over = omega arith; under = omega arith }

    -- ---- the difference
    sub_bounded : Bounded binary64 (prec binary64 + suc f) (x ⊖ y)
    sub_bounded = sub_value binary64 (53 + f) (53 + f) (prec binary64 + suc f) small (omega arith) (omega arith)
        (bounded→value binary64 _ _ X') (bounded→value binary64 _ _ Y')

    abbrev d : ℕ
    d = apart (K (x ⊖ y)) M

    sub_size : d ≤ 2 ^ (prec binary64 + suc f)
    sub_size = apart_most (K (x ⊖ y)) M _ sub_bounded.upper sub_bounded.lower

    sub_apart : apart (place x) (place y) ≤ d + u
    sub_apart =
        let a = sub_close binary64 x y X'.sure Y'.sure f range
        (sizes (K x) (K y) M (2 ^ (53 + f)) _ X'.lower X'.upper Y'.lower Y'.upper double) in
        rw (place_is x, place_is y)
        (apart_most (K x) (K y) (d + u) (up (K (x ⊖ y)) (K x) (K y) M u d a.under (apart_over (K (x ⊖ y)) M))
        (down (K (x ⊖ y)) (K x) (K y) M u d a.over (apart_under (K (x ⊖ y)) M)))
      where
        sizes : (x y m w v : ℕ) → m ≤ x + w → x ≤ m + w → m ≤ y + w → y ≤ m + w → v ≡ w + w → Close x y v
        sizes x y m w v a b c d e = record { over = omega arith; under = omega arith }

        up : (k x y m u d : ℕ) → m + x ≤ k + y + u → k ≤ m + d → x ≤ y + (d + u)
        up k x y m u d h l = omega arith

        down : (k x y m u d : ℕ) → k + y ≤ m + x + u → m ≤ k + d → y ≤ x + (d + u)
        down k x y m u d h l = omega arith

  -- ---- the lean, from a to b in one coordinate and from a' to b' in the other; H is half of it, as computed
  module _ {a b a' b' : Float} (A : Given a) (B : Given b) (A' : Given a') (B' : Given b') where
    abbrev t : Float
    t = hypot binary64 (a ⊖ b) (a' ⊖ b')

    abbrev H : ℕ
    H = units (t ⊗ ½)

    root : d A B * d A B + d A' B' * d A' B' ≤ (K t - M + 2 * u) * (K t - M + 2 * u)
    root = rw (← two) (hypot_close binary64 (a ⊖ b) (a' ⊖ b') (suc f) (sub_bounded A B).sure (sub_bounded A' B').sure wide
        (sizes (d A B) (d A' B') (2 ^ (prec binary64 + suc f)) _ (sub_size A B) (sub_size A' B') power)).most
      where
        two : 2 ^ suc f ≡ 2 * u
        two = two-pow-succ f ∙ (let q : (x : ℕ) → x + x ≡ 2 * x = λ x. omega arith in q u)

        wide : 2 ^ (prec binary64 + suc (suc f)) ≤ M
        wide = le_of_lt (mid_lt binary64 (prec binary64 + suc (suc f))
            (let l = S.range in let q : prec binary64 + suc (suc f) < overflow binary64 = omega arith in q))

        power : 2 ^ (prec binary64 + suc (suc f)) ≡ 2 ^ (prec binary64 + suc f) + 2 ^ (prec binary64 + suc f)
        power = ap (λ z. 2 ^ z) (let q : prec binary64 + suc (suc f) ≡ suc (prec binary64 + suc f) = omega arith in q)
            ∙ two-pow-succ (prec binary64 + suc f)

        sizes : (x y w v : ℕ) → x ≤ w → y ≤ w → v ≡ w + w → x * x + y * y ≤ v * v
        sizes x y w v h k e = let p = mul-le-mul h h in let q = mul-le-mul k k in rw e (omega arith)

    module _ (t-sure : T (finite_number binary64 t)) (positive : M ≤ K (t ⊗ ½)) where
      pub lean_most : (apart (place a) (place b) + (u + 1)) * (apart (place a) (place b) + (u + 1))
          + (apart (place a') (place b') + (u + 1)) * (apart (place a') (place b') + (u + 1))
          ≤ 2 * (H + 5 * u) * (2 * (H + 5 * u))
      lean_most =
          let h = half_near binary64 t ½ t-sure half_half in
          let l = both_longer (d A B) (d A' B') (2 * u + 1) (K t - M + 2 * u) root in
          let k = last (K t) (K (t ⊗ ½)) M u (units (t ⊗ ½)) h.1 positive (units_key (t ⊗ ½)) (pow_pos f) in
          le_trans (squares (longer _ _ u (sub_apart A B)) (longer _ _ u (sub_apart A' B'))) (le_trans l (mul-le-mul k k))
        where
          longer : (x d u : ℕ) → x ≤ d + u → x + (u + 1) ≤ d + (2 * u + 1)
          longer x d u h = omega arith

          squares : {x y p q : ℕ} → x ≤ p → y ≤ q → x * x + y * y ≤ p * p + q * q
          squares h k = let a = mul-le-mul h h in let b = mul-le-mul k k in omega arith

          last : (t h m u v : ℕ) → m + t ≤ h + h + 1 → m ≤ h → v ≡ h - m → 0 < u
              → t - m + 2 * u + 2 * (2 * u + 1) ≤ 2 * (v + 5 * u)
          last t h m u v a b e o = omega arith

  -- ---- along X
  module _ {c : Cylinder} (C : CylinderWithin f c) where
    abbrev lean : Float
    lean = hypot binary64 (c.a.y ⊖ c.b.y) (c.a.z ⊖ c.b.z)

    abbrev half_lean : ℕ
    half_lean = units (lean ⊗ ½)

    R : ℕ
    R = size c.radius

    finite_in : {x : Float} → Given x → Finite 20 x
    finite_in {x} X =
        let l = S.limit in
        let q : 53 + f ≤ 1094 = omega arith in
        record { bounded = bounded_up binary64 (53 + f) 1094 x q (within_bounded (53 + f) x X) }

    -- x between the ends
    from_least : (i j n : ℕ) → n ≡ i + j → n * place (min_of c.a.x c.b.x) ≤ j * place c.a.x + i * place c.b.x
    from_least i j n e =
        let k = min_finite_key (finite_in C.ax) (finite_in C.bx) in
        rw (place_is (min_of c.a.x c.b.x), place_is c.a.x, place_is c.b.x, k, e) (go (K c.a.x) (K c.b.x))
      where
        go : (a b : ℕ) → (i + j) * min a b ≤ j * a + i * b
        go a b =
            let p = mul-le-mul_left j (let l : min a b ≤ a = omega arith in l) in
            let q = mul-le-mul_left i (let l : min a b ≤ b = omega arith in l) in
            sum (min a b) p q
          where
            sum : (w : ℕ) → j * w ≤ j * a → i * w ≤ i * b → (i + j) * w ≤ j * a + i * b
            sum w p q = omega arith

    to_most : (i j n : ℕ) → n ≡ i + j → j * place c.a.x + i * place c.b.x ≤ n * place (max_of c.a.x c.b.x)
    to_most i j n e =
        let k = max_finite_key (finite_in C.ax) (finite_in C.bx) in
        rw (place_is (max_of c.a.x c.b.x), place_is c.a.x, place_is c.b.x, k, e) (go (K c.a.x) (K c.b.x))
      where
        go : (a b : ℕ) → j * a + i * b ≤ (i + j) * max a b
        go a b =
            let p = mul-le-mul_left j (let l : a ≤ max a b = omega arith in l) in
            let q = mul-le-mul_left i (let l : b ≤ max a b = omega arith in l) in
            sum (max a b) p q
          where
            sum : (w : ℕ) → j * a ≤ j * w → i * b ≤ i * w → j * a + i * b ≤ (i + j) * w
            sum w p q = omega arith

    -- the middle lies farther above than the radius is long
    above : {x : Float} → Given x → R ≤ place x
    unfolding R
    above {x} X = go (place x) (size x) origin (size c.radius) (2 ^ (53 + f)) (unfold size in apart_under (place x) origin)
        X.most C.radius.most (rw origin_is (le_trans (le_of_eq (sym double)) range))
      where
        go : (p s o r w : ℕ) → o ≤ p + s → s ≤ w → r ≤ w → w + w ≤ o → r ≤ p
        go p s o r w a b c d = omega arith

    module _ {n X Y Z : ℕ} (L : Leaning c n X Y Z) where
      abbrev y₀ : ℕ
      y₀ = L.j * place c.a.y + L.i * place c.b.y

      abbrev z₀ : ℕ
      z₀ = L.j * place c.a.z + L.i * place c.b.z

      abbrev yc : Float
      yc = mean c.a.y c.b.y

      abbrev zc : Float
      zc = mean c.a.z c.b.z

      reach : (p v : ℕ) (x : Float) → Given x → sqd p v ≤ n * R * (n * R) → v ≤ p + n * place x
      reach p v x X h =
          go (apart p v) (n * R) (n * place x) (apart_under p v) (root_le (apart p v) (n * R) (unfold sqd in h))
          (mul-le-mul_left n (above X))
        where
          go : (d a b : ℕ) → v ≤ p + d → d ≤ a → a ≤ b → v ≤ p + b
          go d a b h k l = omega arith

      sized : (sqd Y y₀ ≤ n * R * (n * R)) × (sqd Z z₀ ≤ n * R * (n * R))
      unfolding R
      sized = parts (sqd Y y₀) (sqd Z z₀) L.disc
        where
          parts : (a b : ℕ) {c : ℕ} → a + b ≤ c → (a ≤ c) × (b ≤ c)
          parts a b h = (omega arith, omega arith)

      yc_given : Given yc
      unfolding band_of
      yc_given = (cylinder_sized f m S C).yc

      zc_given : Given zc
      unfolding band_of
      zc_given = (cylinder_sized f m S C).zc

      ys : Shifted Y y₀ (n * place yc)
      ys = shift Y y₀ (n * place yc) (reach Y y₀ yc yc_given sized.0)

      zs : Shifted Z z₀ (n * place zc)
      zs = shift Z z₀ (n * place zc) (reach Z z₀ zc zc_given sized.1)

      -- the point moved into the straightened cylinder
      straight : Straight (band_of c) n X ys.value zs.value
      unfolding band_of
      straight = record {
        some = L.some;
        from = rw L.at_x (from_least L.i L.j n L.parts);
        to = rw L.at_x (to_most L.i L.j n L.parts);
        disc = rw (ys.about, zs.about) L.disc;
      }

      module _ (t-sure : T (finite_number binary64 lean)) (positive : M ≤ K (lean ⊗ ½)) where
        -- how far
        moved_most : apart Y ys.value * apart Y ys.value + apart Z zs.value * apart Z zs.value
            ≤ n * (half_lean + 5 * u) * (n * (half_lean + 5 * u))
        moved_most =
            rw (ys.moved, zs.moved)
            (quarter (apart y₀ (n * place yc)) (apart z₀ (n * place zc)) n _ _ (half_lean + 5 * u)
            (off C.ay C.by) (off C.az C.bz) (lean_most C.ay C.by C.az C.bz t-sure positive))
          where
            off : {a b : Float} → Given a → Given b → 2 * apart (L.j * place a + L.i * place b) (n * place (mean a b))
                ≤ n * (apart (place a) (place b) + (u + 1))
            off {a} {b} A B =
                off_middle (place a) (place b) (place (mean a b)) L.i L.j n (u + 1) L.parts (mean_close A B)

            quarter : (a b n p q g : ℕ) → 2 * a ≤ n * p → 2 * b ≤ n * q → p * p + q * q ≤ 2 * g * (2 * g)
                → a * a + b * b ≤ n * g * (n * g)
            quarter a b n p q g h k l =
                let x = mul-le-mul h h in
                let y = mul-le-mul k k in
                let w = mul-le-mul_left (n * n) l in
                omega arith

        abbrev away : ℕ
        away = half_lean + 5 * u

        -- seen from a point of the turned section
        far : (W q z X' Y' : ℕ) → n * q * W * (n * q * W) ≤ space² n X ys.value zs.value q z X' Y'
            → n * q * (W - away) * (n * q * (W - away)) ≤ space² n X Y Z q z X' Y'
        unfolding space²
        far W q z X' Y' h =
            let E = sqd (q * X) (n * X') in
            le_trans (le_of_eq (ap (λ w. w * w) (mul-sub (n * q) W away)))
            (le_trans (triangle (n * q * W) (n * q * away) E α β η ζ (le_trans h (grown E)) steps) (le_of_eq (back E)))
          where
            α : ℕ
            α = apart (q * Y) (n * Y')

            β : ℕ
            β = apart (q * Z) (n * z)

            η : ℕ
            η = apart (q * Y) (q * ys.value)

            ζ : ℕ
            ζ = apart (q * Z) (q * zs.value)

            grown : (E : ℕ) → sqd (q * zs.value) (n * z) + (E + sqd (q * ys.value) (n * Y'))
                ≤ E + ((α + η) * (α + η) + (β + ζ) * (β + ζ))
            grown E = sum E (one (q * ys.value) (q * Y) (n * Y')) (one (q * zs.value) (q * Z) (n * z))
              where
                one : (a b c : ℕ) → sqd a c ≤ (apart b c + apart b a) * (apart b c + apart b a)
                one a b c = unfold sqd in mul-le-mul (apart_through a b c) (apart_through a b c)

                sum : (e : ℕ) {a b c d : ℕ} → a ≤ c → b ≤ d → b + (e + a) ≤ e + (c + d)
                sum e h k = omega arith

            steps : η * η + ζ * ζ ≤ n * q * away * (n * q * away)
            steps =
                rw (apart_times q Y ys.value, apart_times q Z zs.value)
                (go (apart Y ys.value) (apart Z zs.value) away moved_most)
              where
                go : (a b g : ℕ) → a * a + b * b ≤ n * g * (n * g) → q * a * (q * a) + q * b * (q * b) ≤ n * q * g * (n * q * g)
                go a b g h = let k = mul-le-mul_left (q * q) h in omega arith

            back : (E : ℕ) → E + (α * α + β * β) ≡ sqd (q * Z) (n * z) + (E + sqd (q * Y) (n * Y'))
            back E = unfold sqd in go E (α * α) (β * β)
              where
                go : (e a b : ℕ) → e + (a + b) ≡ b + (e + a)
                go e a b = omega arith

    -- ---- w and half the lean from the straightened cylinder are w from the leaning one
    across_y : Finite 21 (c.a.y ⊖ c.b.y)
    across_y = sub_finite (finite_in C.ay) (finite_in C.by) tt

    across_z : Finite 21 (c.a.z ⊖ c.b.z)
    across_z = sub_finite (finite_in C.az) (finite_in C.bz) tt

    lean_finite : Finite 22 lean
    lean_finite = hypot_finite across_y across_z tt

    pub half_lean_finite : Finite 21 (lean ⊗ ½)
    half_lean_finite = half_finite lean_finite tt

    pub half_lean_least : M ≤ K (lean ⊗ ½)
    half_lean_least = half_not_negative lean_finite (hypot_not_negative (finite_given across_y) (finite_given across_z))

    module _ {Counts : ℕ → ℕ → ℕ → Type 0} where
      lean_clear : (ε δ w⁺ w : ℕ) → (w ≡ 0) ⊎ (w + half_lean ≤ w⁺) → ε + 5 * u ≤ δ → Clear ε w⁺ (Straight (band_of c)) Counts
          → Clear δ w (Leaning c) Counts
      lean_clear ε δ w⁺ w h l k = record {
        proof = λ n X Y Z q z r X' Y' L t T'.
            let b = mul-le-mul_left (n * q) (less h) in
            le_trans (mul-le-mul b b) (far L lean_finite.bounded.sure half_lean_least (w⁺ - ε) q z X' Y'
            (k.proof n X (ys L).value (zs L).value q z r X' Y' (straight L) t T'));
      }
        where
          less : (w ≡ 0) ⊎ (w + half_lean ≤ w⁺) → w - δ ≤ w⁺ - ε - (half_lean + 5 * u)
          less (inl e) = none w δ e
            where
              none : (w d : ℕ) → w ≡ 0 → w - d ≤ w⁺ - ε - (half_lean + 5 * u)
              none w d e = let q : w - d ≡ 0 = omega arith in rw q zero-le
          less (inr h) = go half_lean (5 * u) h l
            where
              go : (b v : ℕ) → w + b ≤ w⁺ → ε + v ≤ δ → w - δ ≤ w⁺ - ε - (b + v)
              go b v h l = omega arith

      pub lean_kept : (ε δ w⁺ w : ℕ) {radius tol : Float} {was_cut : Bool} → (w ≡ 0) ⊎ (w + half_lean ≤ w⁺) → ε + 5 * u ≤ δ
          → Kept ε w⁺ radius tol was_cut (Straight (band_of c)) Counts → Kept δ w radius tol was_cut (Leaning c) Counts
      lean_kept ε δ w⁺ w h l k = record {
        uncut = λ e v n. lean_clear (v + ε) (v + δ) w⁺ w h (sums v ε (5 * u) δ l) (k.uncut e v n);
        cut = λ e. lean_clear ε δ w⁺ w h l (k.cut e);
      }
        where
          sums : (v x y z : ℕ) → x + y ≤ z → v + x + y ≤ v + z
          sums v x y z h = omega arith
