-- 01'S POINT DISTANCE IS TRUE: the closest of the surface edges' distances, each of which is true.
use Prim.Native.Nat.{◌*◌, ◌+◌, ◌-◌, ◌<◌, ◌^◌, suc, zero-le, ℕ, ◌≤◌}
use mathlib.Core.Bool.{◌||◌, Bool, false, not, true}
use mathlib.Core.List.{List}
use mathlib.Core.Logic.{inl, inr, ◌⊎◌}
use mathlib.Core.Path.{◌≡◌, ap, refl, sym, subst, ◌∙◌}
use native.Mathlib.Nat.{eq-or-lt_of_le, le_of_eq, le_of_lt, le_refl, le_trans, lt_of_le_of_lt, mul-le-mul, mul-le-mul_left}
use native.Mathlib.Omega.{arith}
use lib.Dec.{T, T_not}
use lib.Ieee.{binary64, fin, Float, inf, nan, neg, prec}
use lib.Ieee.Scale.{finite}
use Rattle.arith.proofs.roots.Rounding.Key.{finite_inside, finite_of, mid_pos, number, number_of}
use Rattle.arith.proofs.roots.Rounding.KeyOrder.{le→key, lt→key, nlt→key}
use Rattle.arith.proofs.roots.Rounding.Sum.{neg_key}
use Rattle.arith.specs.F64.{◌≺◌, ◌≼◌, 𝟘, ∞, e_9, e_12}
use Rattle.arith.specs.Num.{abs, is_finite}
use Rattle.arith.proofs.Laws.Bounded.{between_bounded, Bounded, mid_lt, neg_bounded}
use Rattle.arith.proofs.Laws.Hypot.{inf_key, inf_number}
use Rattle.arith.proofs.Laws.Sizes.{e_12_finite, finite_number_lem, K, M, zero_finite, zero_key}
use Rattle.section.proofs.profile.Steps.{any_found, pick, upto_steps}
use Rattle.section.specs.profile.Vertices.{count, edge_at, end_at, hit, next, on, vertex_at}
use Rattle.section.specs.declared.profile.shapes.CollisionHit.{CollisionHit}
use Rattle.section.specs.declared.profile.shapes.Vertex.{Vertex}
use Rattle.section.specs.points.Points.{edge_is_surface, in_section, point_distance, surface_near, surface_step}
use Rattle.section.specs.segments.Segments.{closest}
use Rattle.section.specs.Demand.{off_axis}
use Rattle.section.proofs.Demand.Hits.{next_below}
use Rattle.arith.specs.Whole.{apart}
use Rattle.truth.specs.Exact.{size}
use Rattle.truth.specs.Points.{NeverOver, Reached, Surface, TrueDistance}
use Rattle.truth.proofs.Points.Closest.{closest_true, Fine, True, Within}
use Rattle.truth.proofs.Places.{origin_is, place_is, size_is}

-- ---- smaller, or nearly so
module _ (p a b : Vertex) (ε : ℕ) where
  pub never_over_less : (v w : ℕ) → v ≤ w → NeverOver ε w p a b → NeverOver ε v p a b
  never_over_less v w h N = record { proof = λ i j. le_trans (go (i + j)) (N.proof i j) }
    where
      go : (n : ℕ) → n * (v - ε) * (n * (v - ε)) ≤ n * (w - ε) * (n * (w - ε))
      go n = let l : n * (v - ε) ≤ n * (w - ε) = mul-le-mul_left n (let m : v - ε ≤ w - ε = omega arith in m) in mul-le-mul l l

  pub never_over_wider : (δ w : ℕ) → ε ≤ δ → NeverOver ε w p a b → NeverOver δ w p a b
  never_over_wider δ w h N = record { proof = λ i j. le_trans (go (i + j)) (N.proof i j) }
    where
      go : (n : ℕ) → n * (w - δ) * (n * (w - δ)) ≤ n * (w - ε) * (n * (w - ε))
      go n = let l : n * (w - δ) ≤ n * (w - ε) = mul-le-mul_left n (let m : w - δ ≤ w - ε = omega arith in m) in mul-le-mul l l

  pub reached_more : (δ v w : ℕ) → w + ε ≤ v + δ → Reached ε w p a b → Reached δ v p a b
  reached_more δ v w h R = record {
    i = R.i;
    j = R.j;
    some = R.some;
    proof = le_trans R.proof (let l = mul-le-mul_left (R.i + R.j) h in mul-le-mul l l);
  }

finite_is_finite : (x : Float) → T (finite x) → T (is_finite x)
unfolding is_finite
finite_is_finite nan h = h
finite_is_finite (inf s) h = h
finite_is_finite (fin s m e) h = tt

-- all up to n, or n itself
pub or_last : (n : ℕ) (Q : ℕ → Type 0) → ((m : ℕ) → m < n → Q m) → Q n → (m : ℕ) → m < suc n → Q m
or_last n Q f q m l = elim (eq-or-lt_of_le l) [
  | inl e ↦ subst Q (sym (same e)) q
  | inr w ↦ f m (less w)
]
  where
    same : suc m ≡ suc n → m ≡ n
    same e = omega arith

    less : suc m < suc n → m < n
    less w = omega arith

pub true_wider : (ε δ w : ℕ) (s : List Float) (p : Vertex) (m : ℕ) → ε ≤ δ → TrueDistance ε w s p m → TrueDistance δ w s p m
true_wider ε δ w s p m h D = record {
  never_over = λ k l t. never_over_wider p (vertex_at s k) (end_at s k) ε δ w h (D.never_over k l t);
  edge = D.edge;
  surface = D.surface;
  reached = λ off. reached_more p (vertex_at s m) (end_at s m) ε δ w w (add_le w h) (D.reached off);
}
  where
    add_le : (w : ℕ) → ε ≤ δ → w + ε ≤ w + δ
    add_le w h = omega arith

-- ---- the fold over the edges
module _ (e k : ℕ) (fine : Fine e k) (s : List Float) (p : Vertex) (P : Within (suc e) p)
    (S : (m : ℕ) → m < count s → Within e (vertex_at s m)) where
  abbrev at : ℕ → CollisionHit
  at m = closest p (edge_at s m)

  abbrev start : CollisionHit
  start = hit ∞ (on 0 (vertex_at s 0))

  -- each edge's distance is true, and a number not below 0
  true_at : (m : ℕ) → m < count s → True e p (vertex_at s m) (end_at s m) (at m).distance
  unfolding closest
  true_at m l = closest_true e k fine p (vertex_at s m) (end_at s m) P (S m l) (S (next (count s) m) (next_below (count s) m l))

  number_at : (m : ℕ) → m < count s → T (number binary64 (at m).distance)
  number_at m l = number_of binary64 (at m).distance (true_at m l).bounded.sure

  -- what the fold has found when n edges are done
  record Best (n : ℕ) (b : CollisionHit) : Type 0 where
    pub sure : T (number binary64 b.distance)
    pub not_negative : M ≤ K b.distance
    pub least : (m : ℕ) → m < n → Surface s m → K b.distance ≤ K (at m).distance
    pub from : (b ≡ start) ⊎ ((m : ℕ) × (m < n) × Surface s m × (b ≡ at m))

  best_first : Best 0 start
  best_first = record {
    sure = inf_number binary64 false;
    not_negative = rw (inf_key binary64) (more M);
    least = λ m l. absurd (none l);
    from = inl refl;
  }
    where
      none : {m : ℕ} → m < 0 → ⊥
      none l = omega arith

      more : (m : ℕ) → m ≤ m + m
      more m = omega arith

  module _ (n : ℕ) (l : n < count s) (b : CollisionHit) (B : Best n b) where
    earlier : (b ≡ start) ⊎ ((m : ℕ) × (m < n) × Surface s m × (b ≡ at m))
        → (b ≡ start) ⊎ ((m : ℕ) × (m < suc n) × Surface s m × (b ≡ at m))
    earlier (inl h) = inl h
    earlier (inr h) = inr (h.0, (let w = h.1 in omega arith), h.2, h.3)

    skip : T (not (edge_is_surface (vertex_at s n) (end_at s n))) → Best (suc n) b
    skip h = record {
      sure = B.sure;
      not_negative = B.not_negative;
      least = or_last n (λ m. Surface s m → K b.distance ≤ K (at m).distance) B.least
          (λ t. absurd (T_not (edge_is_surface (vertex_at s n) (end_at s n)) h t));
      from = earlier B.from;
    }

    take : Surface s n → T ((at n).distance ≺ b.distance) → Best (suc n) (at n)
    take t h =
        let c = lt→key binary64 (at n).distance b.distance (number_at n l) B.sure h in
        record {
          sure = number_at n l;
          not_negative = (true_at n l).not_negative;
          least = or_last n (λ m. Surface s m
              → K (at n).distance ≤ K (at m).distance) (λ m w v. le_trans (le_of_lt c) (B.least m w v))
              (λ v. le_refl (K (at n).distance));
          from = inr (n, le_refl (suc n), t, refl);
        }

    keep : Surface s n → T (not ((at n).distance ≺ b.distance)) → Best (suc n) b
    keep t h = record {
      sure = B.sure;
      not_negative = B.not_negative;
      least = or_last n (λ m. Surface s m → K b.distance ≤ K (at m).distance) B.least
          (λ v. nlt→key binary64 (at n).distance b.distance (number_at n l) B.sure h);
      from = earlier B.from;
    }

    step : Best (suc n) (surface_step s p n b)
    unfolding surface_step
    step = pick (Best (suc n)) (edge_is_surface (vertex_at s n) (end_at s n))
        (λ t. pick (Best (suc n)) ((at n).distance ≺ b.distance) (take t) (keep t)) skip

  best : Best (count s) (surface_near s p)
  unfolding surface_near
  best = upto_steps Best (surface_step s p) start (count s) best_first step

  -- ---- the sign, and 0 for what is at most 1e-12
  abbrev d : Float
  d = (surface_near s p).distance

  size_d : size d ≡ K d - M
  size_d = size_is d best.not_negative

  size_neg : size (neg d) ≡ K d - M
  unfolding size
  size_neg = rw (place_is (neg d), origin_is) (go (K (neg d)) (K d) M (neg_key binary64 d best.sure) best.not_negative)
    where
      go : (n k m : ℕ) → n + k ≡ m + m → m ≤ k → apart n m ≡ k - m
      go n k m e h = unfold apart in omega arith

  size_zero : size 𝟘 ≡ 0
  size_zero = size_is 𝟘 (le_of_eq (sym zero_key)) ∙ rw zero_key (go M)
    where
      go : (m : ℕ) → m - m ≡ 0
      go m = omega arith

  -- any edge that counts makes the distance finite
  ends : (m : ℕ) → m < count s → Surface s m → T (is_finite d)
  ends m l t =
      finite_is_finite d
      (finite_of binary64 d (finite_inside binary64 d best.sure (low M (K d) (mid_pos binary64) best.not_negative)
      (lt_of_le_of_lt (best.least m l t) (below (K (at m).distance) M refl (true_at m l).bounded.upper))))
    where
      low : (m k : ℕ) → 0 < m → m ≤ k → 0 < k
      low m k h l = omega arith

      below : (k m : ℕ) → m ≡ M → k ≤ m + 2 ^ (prec binary64 + suc (suc (suc (suc e)))) → k < m + m
      below k m q h = let l =
          mid_lt binary64 (prec binary64 + suc (suc (suc (suc e)))) (let r = fine.scale.range in omega arith) in
          go (2 ^ (prec binary64 + suc (suc (suc (suc e))))) (rw (← q) at l) h
        where
          go : (w : ℕ) → w < m → k ≤ m + w → k < m + m
          go w a b = omega arith

  -- of an edge that is found, whatever becomes of the distance
  module _ (m : ℕ) (l : m < count s) (t : Surface s m) where
    less : K d - M ≤ size (at m).distance
    less = le_trans (go (K d) (K (at m).distance) M (best.least m l t))
        (le_of_eq (sym (size_is (at m).distance (true_at m l).not_negative)))
      where
        go : (a b c : ℕ) → a ≤ b → a - c ≤ b - c
        go a b c h = omega arith

    over : (c : Float) → size c ≤ K d - M → NeverOver (64 * 2 ^ e) (size c) p (vertex_at s m) (end_at s m)
    over c h = never_over_less p (vertex_at s m) (end_at s m) (64 * 2 ^ e) (size c) (size (at m).distance) (le_trans h less)
        (true_at m l).never_over

    distance_over : NeverOver (64 * 2 ^ e) (size (point_distance s p).distance) p (vertex_at s m) (end_at s m)
    unfolding point_distance
    distance_over =
        pick Over (is_finite d)
        (λ h. pick Over (d ≼ e_12) (λ g. over 𝟘 (le_trans (le_of_eq size_zero) zero-le))
        (λ g. pick Over (in_section s p) (λ f. over (neg d) (le_of_eq size_neg)) (λ f. over d (le_of_eq size_d))))
        (λ h. absurd (T_not (is_finite d) h (ends m l t)))
      where
        Over : Float → Type 0
        Over c = NeverOver (64 * 2 ^ e) (size c) p (vertex_at s m) (end_at s m)

  -- ---- where some vertex is off the axis, an edge is found
  module _ (off : T (off_axis s)) where
    some_surface : (m : ℕ) × (m < count s) × Surface s m
    unfolding off_axis
    some_surface =
        let z = any_found (λ m. e_9 ≺ abs (vertex_at s m).r) (count s) off in
        (z.0, z.1, either (e_9 ≺ abs (vertex_at s z.0).r) (e_9 ≺ abs (end_at s z.0).r) z.2)
      where
        either : (a b : Bool) → T a → T (a || b)
        either true b h = tt
        either false b h = absurd h

    found : (m : ℕ) × (m < count s) × Surface s m × (surface_near s p ≡ at m)
    unfolding is_finite
    found = go best.from
      where
        go : (surface_near s p ≡ start) ⊎ ((m : ℕ) × (m < count s) × Surface s m × (surface_near s p ≡ at m))
            → (m : ℕ) × (m < count s) × Surface s m × (surface_near s p ≡ at m)
        go (inl h) =
            absurd (subst (λ b. T (is_finite b.distance)) h (ends some_surface.0 some_surface.1 some_surface.2))
        go (inr z) = z

    module _ (m : ℕ) (l : m < count s) (t : Surface s m) (q : surface_near s p ≡ at m) where
      near : Reached (24 * 2 ^ e) (size d) p (vertex_at s m) (end_at s m)
      near = subst (λ b. Reached (24 * 2 ^ e) (size b.distance) p (vertex_at s m) (end_at s m)) (sym q) (true_at m l).reached

      reach : (c : Float) → K d - M ≤ size c + 40 * 2 ^ e → Reached (64 * 2 ^ e) (size c) p (vertex_at s m) (end_at s m)
      reach c h =
          reached_more p (vertex_at s m) (end_at s m) (24 * 2 ^ e) (64 * 2 ^ e) (size c) (size d)
          (go (size d) (K d - M) (size c) (2 ^ e) size_d h) near
        where
          go : (x y z u : ℕ) → x ≡ y → y ≤ z + 40 * u → x + 24 * u ≤ z + 64 * u
          go x y z u f h = omega arith

      distance_reached : Reached (64 * 2 ^ e) (size (point_distance s p).distance) p (vertex_at s m) (end_at s m)
      unfolding point_distance
      distance_reached =
          pick Here (is_finite d)
          (λ h. pick Here (d ≼ e_12) (λ g. reach 𝟘 (small g))
          (λ g. pick Here (in_section s p) (λ f. reach (neg d) (same (K d - M) (size (neg d)) (2 ^ e) size_neg))
          (λ f. reach d (same (K d - M) (size d) (2 ^ e) size_d))))
          (λ h. absurd (T_not (is_finite d) h (ends m l t)))
        where
          Here : Float → Type 0
          Here c = Reached (64 * 2 ^ e) (size c) p (vertex_at s m) (end_at s m)

          same : (x y u : ℕ) → y ≡ x → x ≤ y + 40 * u
          same x y u f = omega arith

          small : T (d ≼ e_12) → K d - M ≤ size 𝟘 + 40 * 2 ^ e
          small g = go (K d) (K e_12) M (2 ^ e) (size 𝟘) (le→key binary64 d e_12 best.sure (finite_number_lem e_12_finite) g)
              fine.twelve
            where
              go : (k c m u z : ℕ) → k ≤ c → c ≤ m + 40 * u → k - m ≤ z + 40 * u
              go k c m u z h l = omega arith

      named : (point_distance s p).witness.edge ≡ m
      unfolding point_distance
      named = ap (λ b. b.witness.edge) q ∙ number
        where
          number : (at m).witness.edge ≡ m
          number = unfold closest in refl

  pub point_true : TrueDistance (64 * 2 ^ e) (size (point_distance s p).distance) s p (point_distance s p).witness.edge
  point_true = record {
    never_over = distance_over;
    edge = λ off. let z = found off in subst (λ j. j < count s) (sym (named off z.0 z.1 z.2 z.3)) z.1;
    surface = λ off. let z = found off in subst (Surface s) (sym (named off z.0 z.1 z.2 z.3)) z.2;
    reached = λ off. let z = found off in
        subst (λ j. Reached (64 * 2 ^ e) (size (point_distance s p).distance) p (vertex_at s j) (end_at s j))
        (sym (named off z.0 z.1 z.2 z.3))
        (distance_reached off z.0 z.1 z.2 z.3);
  }

  -- the distance is bounded where an edge counts
  pub point_bounded : (m : ℕ) → m < count s → Surface s m
      → Bounded binary64 (prec binary64 + suc (suc (suc (suc e)))) (point_distance s p).distance
  unfolding point_distance
  point_bounded m l t =
      pick Here (is_finite d)
      (λ h. pick Here (d ≼ e_12) (λ g. zero)
      (λ g. pick Here (in_section s p) (λ f. neg_bounded binary64 _ d here) (λ f. here)))
      (λ h. absurd (T_not (is_finite d) h (ends m l t)))
    where
      Here : Float → Type 0
      Here = Bounded binary64 (prec binary64 + suc (suc (suc (suc e))))

      zero : Here 𝟘
      zero = record {
        sure = (zero_finite 0).bounded.sure;
        lower = rw zero_key (more M (2 ^ (prec binary64 + suc (suc (suc (suc e))))));
        upper = rw zero_key (more M (2 ^ (prec binary64 + suc (suc (suc (suc e))))));
      }
        where
          more : (m w : ℕ) → m ≤ m + w
          more m w = omega arith

      here : Here d
      here = between_bounded binary64 _ 𝟘 d (at m).distance best.sure (let r = fine.scale.range in omega arith) zero
          (true_at m l).bounded
          (le_trans (le_of_eq zero_key) best.not_negative) (best.least m l t)
