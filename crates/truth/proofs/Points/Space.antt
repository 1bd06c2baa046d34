-- IN SPACE: a point at x, y and z is, by its own coordinates, no nearer to a turned point than its meridian is to that point's,
-- but for the rounding of one hypot.
use Prim.Native.Nat.{◌*◌, ◌+◌, ◌-◌, ◌^◌, suc, ℕ, ◌≤◌}
use mathlib.Core.Path.{◌≡◌, ap, refl, ◌∙◌}
use native.Mathlib.Nat.{le_of_eq, le_of_lt, le_trans, mul-le-mul, mul-sub, two-pow-succ}
use native.Mathlib.Omega.{arith}
use lib.Ieee.{binary64, Float, prec}
use lib.Pow.{pow_pos}
use Rattle.arith.specs.roots.Roots.{hypot}
use Rattle.arith.specs.declared.vector.Vec3.{Vec3}
use Rattle.arith.proofs.Laws.Bounded.{Bounded, mid_lt}
use Rattle.arith.proofs.Laws.HypotKey.{hypot_is, root_not_negative}
use Rattle.arith.proofs.Laws.Monotone.{key_size}
use Rattle.arith.proofs.Laws.Sizes.{K, M}
use Rattle.section.specs.declared.profile.shapes.Vertex.{Vertex}
use Rattle.section.specs.points.Points.{meridian}
use Rattle.arith.specs.Whole.{apart}
use Rattle.truth.specs.Exact.{away_in_space², away², NotOver, place, sqd, Turned}
use Rattle.truth.specs.Points.{NeverOver, NeverOverInSpace}
use Rattle.arith.proofs.Laws.OperationErrors.{apart_most, hypot_close, RootClose}
use Rattle.truth.proofs.Places.{not_over_less, origin_is, place_is}
use Rattle.truth.proofs.Points.Circle.{leg_lost, plane_least, unsigned_closer}
use Rattle.truth.proofs.Points.Closest.{Fine}
use Rattle.truth.proofs.Points.Lagrange.{sqd_at, sqd_more, sqd_shift}

module _ (e k : ℕ) (fine : Fine e k) (p : Vec3) (X' : Bounded binary64 (prec binary64 + e) p.x)
    (Y' : Bounded binary64 (prec binary64 + e) p.y) where
  abbrev h : Float
  h = hypot binary64 p.x p.y

  root : RootClose (apart (K p.x) M * apart (K p.x) M + apart (K p.y) M * apart (K p.y) M) (K h - M) (2 ^ e)
  root = hypot_close binary64 p.x p.y e X'.sure Y'.sure
      (le_of_lt (mid_lt binary64 _ (let r = fine.scale.range in omega arith)))
      (go (apart (K p.x) M) (apart (K p.y) M) (2 ^ (prec binary64 + e)) (2 ^ (prec binary64 + suc e)) (double e)
      (apart_most _ _ _ X'.upper X'.lower) (apart_most _ _ _ Y'.upper Y'.lower))
    where
      double : (e : ℕ) → 2 ^ (prec binary64 + suc e) ≡ 2 ^ (prec binary64 + e) + 2 ^ (prec binary64 + e)
      double e = ap (λ z. 2 ^ z) (let q : prec binary64 + suc e ≡ suc (prec binary64 + e) = omega arith in q)
          ∙ two-pow-succ (prec binary64 + e)

      go : (x y w v : ℕ) → v ≡ w + w → x ≤ w → y ≤ w → x * x + y * y ≤ v * v
      go x y w v q l m = rw q (let f = mul-le-mul l l in let g = mul-le-mul m m in omega arith)

  not_negative : M ≤ K h
  not_negative = unfold key_size in
      rw (hypot_is binary64 p.x p.y X'.sure Y'.sure) (root_not_negative binary64 _)

  abbrev H : ℕ
  H = K h - M

  module _ (w ε n z r X Y : ℕ) (t : Turned n r X Y) (flat : NotOver ε w n (away² (meridian p) n z r)) where
    abbrev R : ℕ
    R = r - n * M

    r_is : r ≡ n * M + R
    r_is = go r (n * M) (rw origin_is at t.above)
      where
        go : (x m : ℕ) → m ≤ x → x ≡ m + (x - m)
        go x m l = omega arith

    circle : apart X (n * M) * apart X (n * M) + apart Y (n * M) * apart Y (n * M) ≡ R * R
    unfolding sqd
    circle = (rw origin_is at t.circle) ∙ ap (λ z. sqd z (n * M)) r_is ∙ sqd_more (n * M) R

    along : ℕ
    along = apart (n * place p.z) z

    above : sqd (n * place h) r ≡ apart (n * H) R * apart (n * H) R
    unfolding sqd
    above = ap (λ z. sqd (n * z) r) (place_is h ∙ whole (K h) M not_negative) ∙ ap (sqd (n * (M + H))) r_is ∙ shift n M H R
      where
        whole : (x m : ℕ) → m ≤ x → x ≡ m + (x - m)
        whole x m l = omega arith

        shift : (n m x y : ℕ) → sqd (n * (m + x)) (n * m + y) ≡ sqd (n * x) y
        shift n m x y =
            sqd_at (let q : n * (m + x) ≡ n * x + n * m = omega arith in q) (let q : n * m + y ≡ y + n * m = omega arith in q)
            ∙ sqd_shift (n * x) y (n * m)

    bound : n * (w - ε) * (n * (w - ε)) ≤ along * along + apart (n * H) R * apart (n * H) R
    unfolding away² along
    bound = le_trans flat (le_of_eq (ap (λ y. sqd (n * place p.z) z + y) above ∙ unfold sqd in refl))

    pub in_space : NotOver (ε + 2 ^ e) w n (away_in_space² p n z X Y)
    unfolding away_in_space²
    in_space =
        let l = leg_lost (n * (w - ε)) (n * 2 ^ e) along (apart (n * H) R) (sqd (n * D) Ξ + sqd (n * d) Υ) bound
        (plane_least n D d Ξ Υ R H (2 ^ e) circle root (pow_pos e)) in
        le_trans (le_of_eq (ap (λ z. z * z) (fewer n w ε (2 ^ e))))
        (le_trans l (last (unsigned_closer M n (K p.x) X) (unsigned_closer M n (K p.y) Y)))
      where
        D : ℕ
        D = apart (K p.x) M

        d : ℕ
        d = apart (K p.y) M

        Ξ : ℕ
        Ξ = apart X (n * M)

        Υ : ℕ
        Υ = apart Y (n * M)

        fewer : (n w ε u : ℕ) → n * (w - (ε + u)) ≡ n * (w - ε) - n * u
        fewer n w ε u = ap (λ z. n * z) (let q : w - (ε + u) ≡ w - ε - u = omega arith in q) ∙ mul-sub n (w - ε) u

        first : along * along ≡ sqd (n * place p.z) z
        first = unfold along sqd in refl

        last : sqd (n * D) Ξ ≤ sqd (n * K p.x) X → sqd (n * d) Υ ≤ sqd (n * K p.y) Y
            → along * along + (sqd (n * D) Ξ + sqd (n * d) Υ)
            ≤ sqd (n * place p.z) z + (sqd (n * place p.x) X + sqd (n * place p.y) Y)
        last f g = rw (place_is p.x, place_is p.y) (omega (arith, first, f, g))

  pub space_true : (ε w : ℕ) (a b : Vertex) → NeverOver ε w (meridian p) a b → NeverOverInSpace (ε + 2 ^ e) w p a b
  space_true ε w a b flat = record { proof = λ i j X Y t. in_space w ε (i + j) _ _ X Y t (flat.proof i j) }

-- a smaller distance, or a larger error
pub space_less : (ε δ w v : ℕ) (p : Vec3) (a b : Vertex) → v - δ ≤ w - ε → NeverOverInSpace ε w p a b → NeverOverInSpace δ v p a b
space_less ε δ w v p a b h N = record { proof = λ i j X Y t. not_over_less ε δ w v (i + j) h (N.proof i j X Y t) }
