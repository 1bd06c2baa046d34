-- ONE COORDINATE of the closest point in floats of a format: the operations that document 01's closest point makes, each with its
-- error. The ends are at most 2 ^ (prec + e) smallest values, the point twice that, and t lies from 0 to 1.
use Prim.Native.Nat.{◌*◌, ◌+◌, ◌-◌, ◌<◌, ◌^◌, suc, zero-le, ℕ, ◌≤◌}
use mathlib.Core.Path.{◌≡◌, ap, sym, ◌∙◌}
use native.Mathlib.Nat.{le_of_eq, le_of_lt, le_trans, mul-le-mul, mul-le-mul_right, two-pow-succ}
use native.Mathlib.Omega.{arith}
use lib.Dec.{T}
use lib.Ieee.{add, Float, Format, low, mul, prec, sub}
use lib.Pow.{pow-add}
use Rattle.arith.proofs.roots.Rounding.Key.{finite_number, key, mid, unit}
use Rattle.arith.proofs.Laws.Bounded.{Bounded, bounded_up, mid_lt, overflow}
use Rattle.arith.proofs.Laws.BoundedValue.{add_value, bounded→value, mul_value, sub_value}
use Rattle.arith.proofs.Laws.RoundingError.{Close}
use Rattle.arith.specs.Whole.{apart}
use Rattle.arith.proofs.Laws.OperationErrors.{add_close, apart_most, half, half_twice, mul_close, mul_share, sub_close, sub_share}
use Rattle.truth.proofs.Points.Side.{Keys, Laid, laid, Rounded}

-- a format and a size for which nothing overflows: k bounds the exponents of the products
pub record Scale (f : Format) (e k : ℕ) : Type 0 where
  pub digits : 8 ≤ half f
  pub one : half f ≤ unit f
  pub one_lt : unit f < mid f
  pub range : suc (suc (suc (suc (prec f + e)))) < overflow f
  pub products : suc (prec f + e) + suc (suc (prec f + e)) ≤ k + low f
  pub sums : suc (suc k) < overflow f
  pub wide : 32 * (half f * 2 ^ e * (half f * 2 ^ e)) + half f * unit f ≤ mid f * unit f

-- ---- powers of two as multiples of half f * 2 ^ e
module _ (f : Format) where
  pub power : (e : ℕ) → 2 ^ (prec f + e) ≡ 2 * half f * 2 ^ e
  power e = pow-add 2 (prec f) e ∙ ap (λ z. z * 2 ^ e) (half_twice f)

  more : (c e : ℕ) → c * half f * 2 ^ suc e ≡ 2 * c * half f * 2 ^ e
  more c e = ap (λ z. c * half f * z) (two-pow-succ e) ∙ go (half f) (2 ^ e)
    where
      go : (K u : ℕ) → c * K * (u + u) ≡ 2 * c * K * u
      go K u = omega arith

  pub power_1 : (e : ℕ) → 2 ^ (prec f + suc e) ≡ 4 * half f * 2 ^ e
  power_1 e = power (suc e) ∙ more 2 e

  pub power_2 : (e : ℕ) → 2 ^ (prec f + suc (suc e)) ≡ 8 * half f * 2 ^ e
  power_2 e = power_1 (suc e) ∙ more 4 e

  pub power_3 : (e : ℕ) → 2 ^ (prec f + suc (suc (suc e))) ≡ 16 * half f * 2 ^ e
  power_3 e = power_2 (suc e) ∙ more 8 e

  pub power_4 : (e : ℕ) → 2 ^ (prec f + suc (suc (suc (suc e)))) ≡ 32 * half f * 2 ^ e
  power_4 e = power_3 (suc e) ∙ more 16 e

-- a bounded value's key, in steps of half f * 2 ^ e
pub sized : (f : Format) (j c w : ℕ) (x : Float) → 2 ^ j ≡ c * half f * w → Bounded f j x
    → Close (key f x) (mid f) (c * half f * w)
sized f j c w x h b = record {
  over = le_trans b.upper (le_of_eq (ap (λ z. mid f + z) h));
  under = le_trans b.lower (le_of_eq (ap (λ z. key f x + z) h));
}

module _ (f : Format) (e k : ℕ) (S : Scale f e k) where
  inside : (j : ℕ) → j ≤ suc (suc (suc (suc (prec f + e)))) → 2 ^ j ≤ mid f
  inside j h = le_of_lt (mid_lt f j (let l = S.range in let m : j < overflow f = omega arith in m))

  module _ (a b p t : Float) (A : Bounded f (prec f + e) a) (B : Bounded f (prec f + e) b) (P : Bounded f (prec f + suc e) p)
      (t⁺ : Bounded f (low f) t) (t-least : mid f ≤ key f t) where
    abbrev d : Float
    d = sub f b a

    abbrev w : Float
    w = sub f p a

    abbrev m : Float
    m = mul f d t

    abbrev q : Float
    q = add f a m

    abbrev x : Float
    x = sub f p q

    over : (j : ℕ) → j ≤ suc (suc (suc (suc (prec f + e)))) → j < overflow f
    over j h = let l = S.range in let m : j < overflow f = omega arith in m

    D : Bounded f (prec f + suc e) d
    D = sub_value f (prec f + e) (prec f + e) (prec f + suc e) (over _ (omega arith)) (omega arith) (omega arith)
        (bounded→value f _ b B) (bounded→value f _ a A)

    W : Bounded f (prec f + suc (suc e)) w
    W = sub_value f (prec f + suc e) (prec f + e) (prec f + suc (suc e)) (over _ (omega arith)) (omega arith) (omega arith)
        (bounded→value f _ p P) (bounded→value f _ a A)

    M' : Bounded f (prec f + suc e) m
    M' = mul_value f (prec f + suc e) (low f) (prec f + suc e) (over _ (omega arith)) (omega arith) (bounded→value f _ d D)
        (bounded→value f _ t t⁺)

    Q : Bounded f (prec f + suc (suc e)) q
    Q = add_value f (prec f + e) (prec f + suc e) (prec f + suc (suc e)) (over _ (omega arith)) (omega arith) (omega arith)
        (bounded→value f _ a A) (bounded→value f _ m M')

    pub X : Bounded f (prec f + suc (suc (suc e))) x
    X = sub_value f (prec f + suc e) (prec f + suc (suc e)) (prec f + suc (suc (suc e))) (over _ (omega arith)) (omega arith)
        (omega arith)
        (bounded→value f _ p P) (bounded→value f _ q Q)

    -- their keys
    a_size : Close (key f a) (mid f) (2 * half f * 2 ^ e)
    a_size = sized f _ 2 (2 ^ e) a (power f e) A

    b_size : Close (key f b) (mid f) (2 * half f * 2 ^ e)
    b_size = sized f _ 2 (2 ^ e) b (power f e) B

    p_size : Close (key f p) (mid f) (4 * half f * 2 ^ e)
    p_size = sized f _ 4 (2 ^ e) p (power_1 f e) P

    d_size : Close (key f d) (mid f) (4 * half f * 2 ^ e)
    d_size = sized f _ 4 (2 ^ e) d (power_1 f e) D

    w_size : Close (key f w) (mid f) (8 * half f * 2 ^ e)
    w_size = sized f _ 8 (2 ^ e) w (power_2 f e) W

    m_size : Close (key f m) (mid f) (4 * half f * 2 ^ e)
    m_size = sized f _ 4 (2 ^ e) m (power_1 f e) M'

    q_size : Close (key f q) (mid f) (8 * half f * 2 ^ e)
    q_size = sized f _ 8 (2 ^ e) q (power_2 f e) Q

    pub x_size : Close (key f x) (mid f) (16 * half f * 2 ^ e)
    x_size = sized f _ 16 (2 ^ e) x (power_3 f e) X

    double : 2 ^ suc e ≡ 2 * 2 ^ e
    double = omega arith

    double_double : 2 ^ suc (suc e) ≡ 4 * 2 ^ e
    double_double = omega arith

    fewer : (c c' K u : ℕ) → c ≤ c' → c * K * u ≤ c' * K * u
    fewer c c' K u h = mul-le-mul_right u (mul-le-mul_right K h)

    -- x less y, of two that are so far from zero
    difference : (x y M g h : ℕ) → Close x M g → Close y M h → Close x y (g + h)
    difference x y M g h c d = record { over = omega (arith, c.over, d.under); under = omega (arith, c.under, d.over) }

    wider : (x y g h : ℕ) → g ≤ h → Close x y g → Close x y h
    wider x y g h l c = record { over = omega (arith, c.over); under = omega (arith, c.under) }

    d_close : Close (key f d + key f a) (mid f + key f b) (2 ^ e)
    d_close = sub_close f b a B.sure A.sure e (inside _ (omega arith))
        (wider _ _ _ _ (le_of_eq (go (half f) (2 ^ e) ∙ sym (power_1 f e))) (difference _ _ _ _ _ b_size a_size))
      where
        go : (K u : ℕ) → 2 * K * u + 2 * K * u ≡ 4 * K * u
        go K u = omega arith

    w_close : Close (key f w + key f a) (mid f + key f p) (2 * 2 ^ e)
    w_close = rw (← double) (sub_close f p a P.sure A.sure (suc e) (inside _ (omega arith))
        (wider _ _ _ _ (le_trans (go (half f) (2 ^ e)) (le_of_eq (sym (power_2 f e)))) (difference _ _ _ _ _ p_size a_size)))
      where
        go : (K u : ℕ) → 4 * K * u + 2 * K * u ≤ 8 * K * u
        go K u = omega arith

    q_close : Close (key f q + mid f) (key f a + key f m) (2 * 2 ^ e)
    q_close = rw (← double) (add_close f a m A.sure M'.sure (suc e) (inside _ (omega arith))
        (wider _ _ _ _ (le_trans (go (half f) (2 ^ e)) (le_of_eq (sym (power_2 f e)))) (sum _ _ _ _ _ a_size m_size)))
      where
        go : (K u : ℕ) → 2 * K * u + 4 * K * u ≤ 8 * K * u
        go K u = omega arith

        sum : (x y M g h : ℕ) → Close x M g → Close y M h → Close (x + y) (M + M) (g + h)
        sum x y M g h c d = record { over = omega (arith, c.over, d.over); under = omega (arith, c.under, d.under) }

    x_close : Close (key f x + key f q) (mid f + key f p) (4 * 2 ^ e)
    x_close = rw (← double_double) (sub_close f p q P.sure Q.sure (suc (suc e)) (inside _ (omega arith))
        (wider _ _ _ _ (le_trans (go (half f) (2 ^ e)) (le_of_eq (sym (power_3 f e)))) (difference _ _ _ _ _ p_size q_size)))
      where
        go : (K u : ℕ) → 4 * K * u + 8 * K * u ≤ 16 * K * u
        go K u = omega arith

    size_of : (x y g : ℕ) → Close x y g → apart x y ≤ g
    size_of x y g c = apart_most x y g c.over c.under

    d_share : Close (2 * half f * (key f d + key f a)) (2 * half f * (mid f + key f b)) (apart (key f b) (key f a))
    d_share = sub_share f b a B.sure A.sure
        (le_trans (size_of _ _ _ (difference _ _ _ _ _ b_size a_size))
        (le_trans (le_of_eq (go (half f) (2 ^ e) ∙ sym (power_1 f e))) (inside _ (omega arith))))
      where
        go : (K u : ℕ) → 2 * K * u + 2 * K * u ≡ 4 * K * u
        go K u = omega arith

    -- products: c K u bounds the other factor
    product_share : (c : ℕ) (y : Float) → c ≤ 8 → T (finite_number f y) → Close (key f y) (mid f) (c * half f * 2 ^ e)
        → Close (2 * half f * (key f (mul f y d) * unit f + (mid f * key f y + mid f * key f d)))
        (2 * half f * (mid f * unit f + (key f y * key f d + mid f * mid f)))
        (apart (key f d) (mid f) * (c * half f * 2 ^ e) + half f * unit f)
    product_share c y c⁺ Y s =
        mul_share f y d Y D.sure (apart (key f d) (mid f) * (c * half f * 2 ^ e) + half f * unit f)
        (first (apart (key f y) (mid f)) (mul-le-mul_right (apart (key f d) (mid f)) (size_of _ _ _ s)))
        (second (apart (key f d) (mid f) * (c * half f * 2 ^ e)) (half f * unit f))
        (le_trans
        (third (half f) (2 ^ e) (apart (key f d) (mid f)) (c * half f * 2 ^ e)
        (mul-le-mul (size_of _ _ _ d_size) (fewer c 8 (half f) (2 ^ e) c⁺))) S.wide)
      where
        first : (x : ℕ) → x * apart (key f d) (mid f) ≤ c * half f * 2 ^ e * apart (key f d) (mid f)
            → x * apart (key f d) (mid f) ≤ apart (key f d) (mid f) * (c * half f * 2 ^ e) + half f * unit f
        first x h = omega arith

        second : (x y : ℕ) → y ≤ x + y
        second x y = omega arith

        third : (K u x y : ℕ) → x * y ≤ 4 * K * u * (8 * K * u)
            → x * y + half f * unit f ≤ 32 * (K * u * (K * u)) + half f * unit f
        third K u x y h = omega arith

    m_close : Close (key f m * unit f + mid f * (key f t - mid f)) (mid f * unit f + key f d * (key f t - mid f)) (2 ^ e * unit f)
    m_close = go (key f t - mid f) (let h : key f t ≡ mid f + (key f t - mid f) = omega (arith, t-least) in h)
        (mul_close f d t D.sure t⁺.sure e (inside _ (omega arith))
        (mul-le-mul (le_trans (size_of _ _ _ d_size) (le_of_eq (sym (power_1 f e))))
        (unfold unit in (size_of _ _ _ (record { over = t⁺.upper; under = t⁺.lower })))))
      where
        go : (z : ℕ) → key f t ≡ mid f + z
            → Close (key f m * unit f + (mid f * key f d + mid f * key f t))
            (mid f * unit f + (key f d * key f t + mid f * mid f)) (2 ^ e * unit f)
            → Close (key f m * unit f + mid f * z) (mid f * unit f + key f d * z) (2 ^ e * unit f)
        go z h c = step (key f t) (key f m * unit f) (mid f * unit f) (mid f) (key f d) (2 ^ e * unit f) h c
          where
            step : (t X O M d g : ℕ) → t ≡ M + z → Close (X + (M * d + M * t)) (O + (d * t + M * M)) g
                → Close (X + M * z) (O + d * z) g
            step t X O M d g h c = record {
              over = omega (arith, c.over, ap (λ y. M * y) h, ap (λ y. d * y) h);
              under = omega (arith, c.under, ap (λ y. M * y) h, ap (λ y. d * y) h);
            }

    rounded : Rounded (mid f) (unit f) (2 ^ e) (half f) (key f t - mid f) (key f a) (key f b) (key f p) (key f d) (key f w)
        (key f (mul f d d))
        (key f (mul f w d)) (key f m) (key f q) (key f x)
    rounded = record {
      span = wider _ _ _ _ (le_of_eq (four (half f) (2 ^ e))) (difference _ _ _ _ _ a_size b_size);
      reach = wider _ _ _ _ (le_of_eq (six (half f) (2 ^ e))) (difference _ _ _ _ _ p_size a_size);
      d_share = d_share;
      d_close = d_close;
      w_close = w_close;
      n_share = product_share 8 w (omega arith) W.sure w_size;
      l_share = product_share 4 d (omega arith) D.sure d_size;
      m_close = m_close;
      q_close = q_close;
      x_close = x_close;
    }
      where
        four : (K u : ℕ) → 2 * K * u + 2 * K * u ≡ 4 * K * u
        four K u = omega arith

        six : (K u : ℕ) → 4 * K * u + 2 * K * u ≡ 6 * K * u
        six K u = omega arith

    keys : Keys (mid f) (key f a) (key f b) (key f p) (key f d) (key f w) (key f m) (key f q) (key f x)
    keys = record {
      a = within A (omega arith);
      b = within B (omega arith);
      p = within P (omega arith);
      d = within D (omega arith);
      w = within W (omega arith);
      m = within M' (omega arith);
      q = within Q (omega arith);
      x = within X (omega arith);
    }
      where
        within : {j : ℕ} {x : Float} → Bounded f j x → j ≤ suc (suc (suc (suc (prec f + e)))) → key f x ≤ mid f + mid f
        within {j} {x} b h = let l = inside j h in omega (arith, b.upper)

    pub coordinate : Laid (mid f) (unit f) (2 ^ e) (half f) (key f t - mid f) (key f a) (key f b) (key f p) (key f (mul f d d))
        (key f (mul f w d)) (key f x)
    coordinate =
        laid (mid f) (unit f) (2 ^ e) (half f) (key f t - mid f) S.digits
        (unfold unit in omega (arith, t⁺.upper)) (key f (mul f d d)) (key f (mul f w d))
        (key f a) (key f b) (key f p) (key f d) (key f w) (key f m) (key f q) (key f x) keys rounded

    -- ---- the first end in place of the foot
    rounded_start : Rounded (mid f) (unit f) (2 ^ e) (half f) 0 (key f a) (key f b) (key f p) (key f d) (key f w)
        (key f (mul f d d))
        (key f (mul f w d)) (mid f) (key f a) (key f w)
    rounded_start = record {
      span = rounded.span;
      reach = rounded.reach;
      d_share = d_share;
      d_close = d_close;
      w_close = w_close;
      n_share = rounded.n_share;
      l_share = rounded.l_share;
      m_close = record { over = omega arith; under = omega arith };
      q_close = record { over = omega arith; under = omega arith };
      x_close = wider _ _ _ _ (two (2 ^ e)) w_close;
    }
      where
        two : (u : ℕ) → 2 * u ≤ 4 * u
        two u = omega arith

    pub at_start : Laid (mid f) (unit f) (2 ^ e) (half f) 0 (key f a) (key f b) (key f p) (key f (mul f d d)) (key f (mul f w d))
        (key f w)
    at_start = laid (mid f) (unit f) (2 ^ e) (half f) 0 S.digits zero-le (key f (mul f d d)) (key f (mul f w d))
        (key f a) (key f b) (key f p) (key f d) (key f w) (mid f) (key f a) (key f w)
        (record { a = keys.a; b = keys.b; p = keys.p; d = keys.d; w = keys.w; m = omega arith; q = keys.a; x = keys.w })
        rounded_start

    pub w_raised : Bounded f (prec f + suc (suc (suc e))) w
    w_raised = bounded_up f (prec f + suc (suc e)) (prec f + suc (suc (suc e))) w (omega arith) W
