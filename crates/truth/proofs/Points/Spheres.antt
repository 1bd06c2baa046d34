-- 01'S SPHERE DISTANCE IS TRUE: with the radius added, exactly, it is a true distance of the centre.
use Prim.Native.Nat.{◌*◌, ◌+◌, ◌-◌, ◌<◌, ◌^◌, suc, ℕ, ◌≤◌}
use mathlib.Core.Bool.{not}
use mathlib.Core.List.{List}
use mathlib.Core.Path.{◌≡◌, ap, ◌∙◌}
use native.Mathlib.Nat.{le_of_lt, le_trans, mul-le-mul, mul-le-mul_left, two-pow-succ}
use native.Mathlib.Omega.{arith}
use lib.Dec.{T}
use lib.Pow.{pow_mono}
use lib.Ieee.{binary64, Float, prec}
use Rattle.arith.proofs.roots.Rounding.Key.{mid, number}
use Rattle.arith.proofs.roots.Rounding.KeyOrder.{nlt→key}
use Rattle.arith.proofs.roots.Rounding.Sum.{add_number}
use Rattle.arith.specs.F64.{◌⊕◌, ◌⊖◌, ◌≺◌, e_9}
use Rattle.arith.proofs.Laws.Bounded.{Bounded, mid_lt, overflow}
use Rattle.arith.proofs.Laws.BoundedValue.{bounded→value, sub_value}
use Rattle.arith.proofs.Laws.Sizes.{K, M}
use Rattle.section.specs.profile.Vertices.{count, vertex_at}
use Rattle.section.specs.declared.profile.shapes.Sphere.{Sphere}
use Rattle.section.specs.declared.profile.shapes.Vertex.{Vertex}
use Rattle.section.specs.points.Points.{meridian, point_distance, sphere_distance}
use Rattle.arith.specs.Whole.{apart}
use Rattle.truth.specs.Exact.{origin, place, size, size_of_sum, units, units_of_sum}
use Rattle.truth.specs.Points.{Surface, TrueDistance}
use Rattle.truth.proofs.Points.Closest.{Fine, Within}
use Rattle.arith.proofs.Laws.RoundingError.{Close}
use Rattle.arith.proofs.Laws.OperationErrors.{add_close, apart_most, apart_over, apart_under, sub_close}
use Rattle.truth.proofs.Places.{origin_is, place_is}
use Rattle.truth.proofs.Points.Distance.{point_bounded, point_true, reached_more}

-- the exact sum as a distance is at most its magnitude
pub sum_less : (x y : Float) → units_of_sum x y ≤ size_of_sum x y
unfolding size_of_sum
sum_less x y = go (place x + place y) (origin + origin)
  where
    go : (a b : ℕ) → a - b ≤ apart a b
    go a b = unfold apart in omega arith

-- one binade up is twice as much
one_up : (e : ℕ) → 2 ^ (prec binary64 + suc e) ≡ 2 ^ (prec binary64 + e) + 2 ^ (prec binary64 + e)
one_up e = ap (λ z. 2 ^ z) (let h : prec binary64 + suc e ≡ suc (prec binary64 + e) = omega arith in h)
    ∙ two-pow-succ (prec binary64 + e)

module _ (e k : ℕ) (fine : Fine e k) (wider : suc (suc (suc (suc (suc (prec binary64 + e))))) < overflow binary64)
    (s : List Float) (b : Sphere)
    (C : Within (suc e) (meridian b.center)) (S : (m : ℕ) → m < count s
    → Within e (vertex_at s m)) (R : Bounded binary64 (prec binary64 + e) b.radius) where
  abbrev p : Vertex
  p = meridian b.center

  abbrev d : Float
  d = (point_distance s p).distance

  -- one subtraction more
  module _ (D : Bounded binary64 (prec binary64 + suc (suc (suc (suc e)))) d) where
    step : Close (K (d ⊖ b.radius) + K b.radius) (M + K d) (16 * 2 ^ e)
    step = rw (← sixteen) (sub_close binary64 d b.radius D.sure R.sure (suc (suc (suc (suc e)))) range sizes)
      where
        sixteen : 2 ^ suc (suc (suc (suc e))) ≡ 16 * 2 ^ e
        sixteen = omega arith

        range : 2 ^ (prec binary64 + suc (suc (suc (suc (suc e))))) ≤ mid binary64
        range = le_of_lt (mid_lt binary64 _ (let w = wider in omega arith))

        sizes : Close (K d) (K b.radius) (2 ^ (prec binary64 + suc (suc (suc (suc (suc e))))))
        sizes = go (K d) (K b.radius) M (2 ^ (prec binary64 + suc (suc (suc (suc e))))) (2 ^ (prec binary64 + e))
            (2 ^ (prec binary64 + suc (suc (suc (suc (suc e))))))
            D.upper D.lower R.upper R.lower
            (pow_mono (let h : prec binary64 + e ≤ prec binary64 + suc (suc (suc (suc e))) = omega arith in h))
            (one_up (suc (suc (suc (suc e)))))
          where
            go : (d r m w v x : ℕ) → d ≤ m + w → m ≤ d + w → r ≤ m + v → m ≤ r + v → v ≤ w → x ≡ w + w → Close d r x
            go d r m w v x a b c f g h = record { over = omega arith; under = omega arith }

    -- the sizes differ by no more than that
    sum_size : size_of_sum (d ⊖ b.radius) b.radius ≡ apart (K (d ⊖ b.radius) + K b.radius) (M + M)
    unfolding size_of_sum
    sum_size = rw (place_is (d ⊖ b.radius), place_is b.radius, origin_is)

    d_size : size d ≡ apart (K d) M
    unfolding size
    d_size = rw (place_is d, origin_is)

    nearly : Close (size_of_sum (d ⊖ b.radius) b.radius) (size d) (16 * 2 ^ e)
    nearly = rw (sum_size, d_size) (go (K (d ⊖ b.radius) + K b.radius) (K d) M (16 * 2 ^ e) step)
      where
        go : (x y m h : ℕ) → Close x (m + y) h → Close (apart x (m + m)) (apart y m) h
        go x y m h c = record {
          over = apart_most x (m + m) (apart y m + h) (omega (arith, c.over, apart_over y m))
              (omega (arith, c.under, apart_under y m));
          under = apart_most y m (apart x (m + m) + h) (omega (arith, c.under, apart_over x (m + m)))
              (omega (arith, c.over, apart_under x (m + m)));
        }

    -- as distances, 0 where negative
    pub sum_units : units_of_sum (sphere_distance s b).distance b.radius ≤ units d + 16 * 2 ^ e
    unfolding sphere_distance
    sum_units = rw (place_is (d ⊖ b.radius), place_is b.radius, place_is d, origin_is)
        (go (K (d ⊖ b.radius)) (K b.radius) (K d) M (16 * 2 ^ e) step.over)
      where
        go : (x r y m h : ℕ) → x + r ≤ m + y + h → x + r - (m + m) ≤ y - m + h
        go x r y m h l = omega arith

  -- ---- the sphere
  abbrev w : ℕ
  w = size_of_sum (sphere_distance s b).distance b.radius

  close : (m : ℕ) → m < count s → Surface s m → Close w (size d) (16 * 2 ^ e)
  unfolding sphere_distance
  close m l t = nearly (point_bounded e k fine s p C S m l t)

  abbrev centre : TrueDistance (64 * 2 ^ e) (size d) s p (point_distance s p).witness.edge
  centre = point_true e k fine s p C S

  pub sphere_true : TrueDistance (80 * 2 ^ e) w s p (sphere_distance s b).witness.edge
  unfolding sphere_distance
  sphere_true = record {
    never_over =
        λ m l t. record
        { proof = λ i j. le_trans (less (i + j) w (size d) (2 ^ e) (close m l t).over) ((centre.never_over m l t).proof i j) };
    edge = centre.edge;
    surface = centre.surface;
    reached = λ off. reached_more p _ _ (64 * 2 ^ e) (80 * 2 ^ e) w (size d)
        (more w (size d) (2 ^ e) (close (point_distance s p).witness.edge (centre.edge off) (centre.surface off)).under)
        (centre.reached off);
  }
    where
      less : (n w d u : ℕ) → w ≤ d + 16 * u → n * (w - 80 * u) * (n * (w - 80 * u)) ≤ n * (d - 64 * u) * (n * (d - 64 * u))
      less n w d u h = let l : n * (w - 80 * u) ≤ n * (d - 64 * u) =
          mul-le-mul_left n (let m : w - 80 * u ≤ d - 64 * u = omega arith in m) in mul-le-mul l l

      more : (w d u : ℕ) → d ≤ w + 16 * u → d + 64 * u ≤ w + 80 * u
      more w d u h = omega arith

  -- ---- where the verdict is clear: distance + 1e-9, rounded, is not below the clearance
  module _ (clearance : Float) (c_sure : T (number binary64 clearance))
      (clear : T (not ((sphere_distance s b).distance ⊕ e_9 ≺ clearance)))
      (wider_still : suc (suc (suc (suc (suc (suc (prec binary64 + e)))))) < overflow binary64)
      (nine : Bounded binary64 (prec binary64 + e) e_9) (D : Bounded binary64 (prec binary64 + suc (suc (suc (suc e)))) d) where
    Ds : Bounded binary64 (prec binary64 + suc (suc (suc (suc (suc e))))) (d ⊖ b.radius)
    Ds = sub_value binary64 (prec binary64 + suc (suc (suc (suc e)))) (prec binary64 + e)
        (prec binary64 + suc (suc (suc (suc (suc e)))))
        (let w = wider in omega arith) (omega arith) (omega arith) (bounded→value binary64 _ d D)
        (bounded→value binary64 _ b.radius R)

    sum_close : Close (K ((d ⊖ b.radius) ⊕ e_9) + M) (K (d ⊖ b.radius) + K e_9) (32 * 2 ^ e)
    sum_close = rw (← thirty_two)
        (add_close binary64 (d ⊖ b.radius) e_9 Ds.sure nine.sure (suc (suc (suc (suc (suc e))))) range sizes)
      where
        thirty_two : 2 ^ suc (suc (suc (suc (suc e)))) ≡ 32 * 2 ^ e
        thirty_two = omega arith

        range : 2 ^ (prec binary64 + suc (suc (suc (suc (suc (suc e)))))) ≤ mid binary64
        range = le_of_lt (mid_lt binary64 _ (let w = wider_still in omega arith))

        sizes : Close (K (d ⊖ b.radius) + K e_9) (M + M) (2 ^ (prec binary64 + suc (suc (suc (suc (suc (suc e)))))))
        sizes = go (K (d ⊖ b.radius)) (K e_9) M (2 ^ (prec binary64 + suc (suc (suc (suc (suc e)))))) (2 ^ (prec binary64 + e))
            (2 ^ (prec binary64 + suc (suc (suc (suc (suc (suc e))))))) Ds.upper Ds.lower nine.upper nine.lower
            (pow_mono (let h : prec binary64 + e ≤ prec binary64 + suc (suc (suc (suc (suc e)))) = omega arith in h))
            (one_up (suc (suc (suc (suc (suc e))))))
          where
            go : (x y m w v z : ℕ) → x ≤ m + w → m ≤ x + w → y ≤ m + v → m ≤ y + v → v ≤ w → z ≡ w + w → Close (x + y) (m + m) z
            go x y m w v z a b c f g h = record { over = omega arith; under = omega arith }

    not_below : K clearance ≤ K ((d ⊖ b.radius) ⊕ e_9)
    not_below = nlt→key binary64 ((d ⊖ b.radius) ⊕ e_9) clearance
        (add_number binary64 (d ⊖ b.radius) e_9 Ds.sure nine.sure) c_sure (unfold sphere_distance in clear)

    -- the clearance and the radius, less 1e-9, are no more than the distance and the radius, but for 32 u
    pub cleared : place clearance + place b.radius - (origin + place e_9)
        ≤ units_of_sum (sphere_distance s b).distance b.radius + 32 * 2 ^ e
    unfolding sphere_distance
    cleared = rw (place_is clearance, place_is b.radius, place_is e_9, place_is (d ⊖ b.radius), origin_is)
        (go (K clearance) (K b.radius) M (K e_9) (K ((d ⊖ b.radius) ⊕ e_9)) (K (d ⊖ b.radius)) (32 * 2 ^ e)
        not_below sum_close.over)
      where
        go : (c r m n x y v : ℕ) → c ≤ x → x + m ≤ y + n + v → c + r - (m + n) ≤ y + r - (m + m) + v
        go c r m n x y v f g = omega arith
