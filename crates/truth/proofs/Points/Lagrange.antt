-- Squares of differences of whole numbers, and the distance from a point to the points of a line: Lagrange's identity.
use Prim.Native.Nat.{◌*◌, ◌+◌, ◌-◌, ℕ, ◌≤◌}
use mathlib.Core.Logic.{inl, inr, ◌⊎◌}
use mathlib.Core.Path.{◌≡◌, ap, ap₂, ◌∙◌}
use native.Mathlib.Nat.{le_of_lt}
use native.Mathlib.Omega.{arith}
use Rattle.arith.proofs.roots.Numbers.{decide}
use Rattle.arith.specs.Whole.{apart}
use Rattle.truth.specs.Exact.{sqd}

-- one is the other and as much more as they are apart
pub apart_split : (a b : ℕ) → (b ≡ a + apart a b) ⊎ (a ≡ b + apart a b)
unfolding apart
apart_split a b = elim (decide a b) [ inl l ↦ inl (up l) | inr l ↦ inr (down (le_of_lt l)) ]
  where
    up : a ≤ b → b ≡ a + ((a - b) + (b - a))
    up l = omega arith

    down : b ≤ a → a ≡ b + ((a - b) + (b - a))
    down l = omega arith

-- the binomial, with nothing subtracted
pub sqd_is : (a b : ℕ) → sqd a b + 2 * (a * b) ≡ a * a + b * b
unfolding sqd
sqd_is a b = go a b (apart a b) (apart_split a b)
  where
    go : (a b k : ℕ) → (b ≡ a + k) ⊎ (a ≡ b + k) → k * k + 2 * (a * b) ≡ a * a + b * b
    go a b k (inl e) = rw e (omega arith)
    go a b k (inr e) = rw e (omega arith)

sqd_by : (a b s : ℕ) → s + 2 * (a * b) ≡ a * a + b * b → sqd a b ≡ s
sqd_by a b s h = omega (arith, sqd_is a b)

pub sqd_shift : (a b k : ℕ) → sqd (a + k) (b + k) ≡ sqd a b
sqd_shift a b k = sqd_by (a + k) (b + k) (sqd a b) (omega (arith, sqd_is a b))

pub sqd_scale : (n a b : ℕ) → sqd (n * a) (n * b) ≡ n * n * sqd a b
sqd_scale n a b = sqd_by (n * a) (n * b) (n * n * sqd a b) (omega (arith, ap (λ z. n * n * z) (sqd_is a b)))

pub sqd_comm : (a b : ℕ) → sqd a b ≡ sqd b a
sqd_comm a b = sqd_by a b (sqd b a) (omega (arith, sqd_is b a))

pub sqd_more : (a k : ℕ) → sqd (a + k) a ≡ k * k
sqd_more a k = sqd_by (a + k) a (k * k) (omega arith)

pub sqd_less : (a k : ℕ) → sqd a (a + k) ≡ k * k
sqd_less a k = sqd_comm a (a + k) ∙ sqd_more a k

pub sqd_at : {a b a' b' : ℕ} → a ≡ a' → b ≡ b' → sqd a b ≡ sqd a' b'
sqd_at = ap₂ sqd

-- the product of two sums of two squares, the second of differences
module _ (D d : ℕ) where
  pub same_way : (X x : ℕ) → (D * D + d * d) * (X * X + x * x) ≡ sqd (X * d) (x * D) + (X * D + x * d) * (X * D + x * d)
  same_way X x = omega (arith, sqd_is (X * d) (x * D))

  other_way : (X x : ℕ) → (D * D + d * d) * (X * X + x * x) ≡ (X * d + x * D) * (X * d + x * D) + sqd (X * D) (x * d)
  other_way X x = omega (arith, sqd_is (X * D) (x * d))

  abbrev Brahmagupta : ℕ → ℕ → ℕ → ℕ → Type 0
  Brahmagupta a b a' b' = (D * D + d * d) * (sqd a b + sqd a' b')
      ≡ sqd (a * d + b' * D) (b * d + a' * D) + sqd (a * D + a' * d) (b * D + b' * d)

  both_up : (b b' X x : ℕ) → Brahmagupta (b + X) b (b' + x) b'
  both_up b b' X x =
      let p : sqd ((b + X) * d + b' * D) (b * d + (b' + x) * D) ≡ sqd (X * d) (x * D) = sqd_at (omega arith) (omega arith)
      ∙ sqd_shift (X * d) (x * D) (b * d + b' * D) in
      let q : sqd ((b + X) * D + (b' + x) * d) (b * D + b' * d) ≡ (X * D + x * d) * (X * D + x * d) =
      sqd_at (omega arith) (omega arith) ∙ sqd_more (b * D + b' * d) (X * D + x * d) in
      rw (p, q, sqd_more b X, sqd_more b' x) (same_way X x)

  up_down : (b a' X x : ℕ) → Brahmagupta (b + X) b a' (a' + x)
  up_down b a' X x =
      let p : sqd ((b + X) * d + (a' + x) * D) (b * d + a' * D) ≡ (X * d + x * D) * (X * d + x * D) =
      sqd_at (omega arith) (omega arith) ∙ sqd_more (b * d + a' * D) (X * d + x * D) in
      let q : sqd ((b + X) * D + a' * d) (b * D + (a' + x) * d) ≡ sqd (X * D) (x * d) = sqd_at (omega arith) (omega arith)
      ∙ sqd_shift (X * D) (x * d) (b * D + a' * d) in
      rw (p, q, sqd_more b X, sqd_less a' x) (other_way X x)

  flipped : (a b a' b' : ℕ) → Brahmagupta b a b' a' → Brahmagupta a b a' b'
  flipped a b a' b' h = rw (
    sqd_comm a b,
    sqd_comm a' b',
    sqd_comm (a * d + b' * D) (b * d + a' * D),
    sqd_comm (a * D + a' * d) (b * D + b' * d),
  ) h

  pub brahmagupta : (a b a' b' : ℕ) → Brahmagupta a b a' b'
  brahmagupta a b a' b' = go a b a' b' (apart a b) (apart a' b') (apart_split a b) (apart_split a' b')
    where
      go : (a b a' b' X x : ℕ) → (b ≡ a + X) ⊎ (a ≡ b + X) → (b' ≡ a' + x) ⊎ (a' ≡ b' + x) → Brahmagupta a b a' b'
      go a b a' b' X x (inl e) (inl f) = flipped a b a' b' (rw (e, f) (both_up a a' X x))
      go a b a' b' X x (inl e) (inr f) = flipped a b a' b' (rw (e, f) (up_down a b' X x))
      go a b a' b' X x (inr e) (inl f) = rw (e, f) (up_down b a' X x)
      go a b a' b' X x (inr e) (inr f) = rw (e, f) (both_up b b' X x)

-- P is a point, A one end of a segment and D how far the other lies from it, in one coordinate; small letters in the other.
-- n P less n A + i D is n times the way from the segment's point at i / n.
module _ (A D P a d p : ℕ) where
  unfoldable pub apart² : ℕ → ℕ → ℕ
  apart² n i = sqd (n * P) (n * A + i * D) + sqd (n * p) (n * a + i * d)

  unfoldable pub length² : ℕ
  length² = D * D + d * d

  -- the square of the distance to the whole line, times length²
  unfoldable pub line² : ℕ
  line² = sqd (P * d + a * D) (p * D + A * d)

  -- the square of what is missing from the foot of the perpendicular
  unfoldable pub missing² : ℕ → ℕ → ℕ
  missing² n i = sqd (n * (P * D + p * d)) (n * (A * D + a * d) + i * (D * D + d * d))

  pub lagrange : (n i : ℕ) → length² * apart² n i ≡ n * n * line² + missing² n i
  unfolding apart² length² line² missing²
  lagrange n i = brahmagupta D d (n * P) (n * A + i * D) (n * p) (n * a + i * d)
      ∙ ap₂ ◌+◌ (
      sqd_at (let e : n * P * d + (n * a + i * d) * D ≡ n * (P * d + a * D) + i * d * D = omega arith in e)
      (let e : (n * A + i * D) * d + n * p * D ≡ n * (p * D + A * d) + i * d * D = omega arith in e)
      ∙ sqd_shift (n * (P * d + a * D)) (n * (p * D + A * d)) (i * d * D)
      ∙ sqd_scale n (P * d + a * D) (p * D + A * d)
      ) (sqd_at (omega arith) (omega arith))
