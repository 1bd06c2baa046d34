-- Which of several hits the first smallest is: the start, or one that was strictly nearer than the first smallest before it. So,
-- of distances that f64 holds, none is nearer, and none before it is as near. By induction over the fold; a NaN is never taken.
use Prim.Native.Nat.{ℕ, zero, suc, ◌<◌}
use native.Mathlib.Nat.{eq-or-lt_of_le, le_refl}
use native.Mathlib.Omega.{arith}
use mathlib.Core.Bool.{Bool, true, false, not, cond}
use mathlib.Core.Logic.{inl, inr}
use mathlib.Core.Path.{◌≡◌, ap, refl, subst, sym, ◌∙◌}
use lib.Dec.{T}
use lib.Ieee.{binary64}
use Rattle.arith.proofs.roots.Rounding.KeyOrder.{le→key, lt→key, nlt→key}
use Rattle.arith.specs.F64.{◌≺◌, ◌≼◌}
use Rattle.arith.proofs.Laws.OrderHeld.{T→true, below_number, held_number, le_left}
use Rattle.arith.proofs.Laws.Sizes.{K}
use Rattle.section.specs.profile.Vertices.{nearer, upto}
use Rattle.section.specs.declared.profile.shapes.CollisionHit.{CollisionHit}
use Rattle.section.proofs.profile.Numbers.{Held, NumberHit, nearer_number}
use Rattle.section.proofs.profile.Steps.{pick, upto_keeps}

-- the first strictly smallest of a and of those of f 0, .., f (n - 1) that count
abbrev pub nearest_counted : (ℕ → Bool) → (ℕ → CollisionHit) → CollisionHit → ℕ → CollisionHit
nearest_counted counts f a n = upto (λ k best. cond (counts k) (nearer best (f k)) best) a n

abbrev pub every : ℕ → Bool
every k = true

-- Where the hit h among them comes from.
pub data Source (counts : ℕ → Bool) (f : ℕ → CollisionHit) (a : CollisionHit) (n : ℕ) (h : CollisionHit) : Type 0 where
  start : h ≡ a → Source counts f a n h
  taken : (k : ℕ) → k < n → T (counts k) → h ≡ f k → T ((f k).distance ≺ (nearest_counted counts f a k).distance)
      → Source counts f a n h

-- Edge k supplies the hit h: it is one of n and counts, h is what f gives of it, with its number; no edge that counts is nearer,
-- and none before it is as near.
pub record Supplies (counts : ℕ → Bool) (f : ℕ → CollisionHit) (n : ℕ) (h : CollisionHit) (k : ℕ) : Type 0 where
  pub below : k < n
  pub counted : T (counts k)
  pub equal : h ≡ f k
  pub number : h.witness.edge ≡ k
  pub nearest : (j : ℕ) → j < n → T (counts j) → T (not ((f j).distance ≺ (f k).distance))
  pub first : (j : ℕ) → j < k → T (counts j) → T (not ((f j).distance ≼ (f k).distance))

-- The hit's own edge supplies it, or it is the start, and no edge that counts is nearer than that.
pub data Supplied (counts : ℕ → Bool) (f : ℕ → CollisionHit) (a : CollisionHit) (n : ℕ) (h : CollisionHit) : Type 0 where
  by_none : h ≡ a → ((j : ℕ) → j < n → T (counts j) → T (not ((f j).distance ≺ a.distance))) → Supplied counts f a n h
  by_edge : Supplies counts f n h h.witness.edge → Supplied counts f a n h

module _ (counts : ℕ → Bool) (f : ℕ → CollisionHit) (a : CollisionHit) where
  later : (n : ℕ) {h : CollisionHit} → Source counts f a n h → Source counts f a (suc n) h
  later n (start e) = start e
  later n (taken k l c e w) = taken k (omega arith) c e w

  pub source : (n : ℕ) → Source counts f a n (nearest_counted counts f a n)
  unfolding upto
  source zero = start refl
  source (suc n) =
      let best = nearest_counted counts f a n in
      let old = later n (source n) in
      pick (Source counts f a (suc n)) (counts n)
      (λ c. pick (Source counts f a (suc n)) ((f n).distance ≺ best.distance)
      (λ h. taken n (le_refl (suc n)) c refl h) (λ h. old))
      (λ c. old)

refute : (t : Bool) → (T t → ⊥) → T (not t)
refute true h = h tt
refute false h = tt

-- x is not nearer than b, and y is
module _ (x y b : CollisionHit) (X : Held x) (Y : Held y) (B : NumberHit b)
    (p : T (not (x.distance ≺ b.distance))) (q : T (y.distance ≺ b.distance)) where
  y_number : NumberHit y
  y_number = below_number binary64 y.distance b.distance Y (T→true _ q)

  apart_keys : NumberHit x → K y.distance < K x.distance
  apart_keys N =
      omega (arith, nlt→key binary64 x.distance b.distance N B p, lt→key binary64 y.distance b.distance y_number B q)

  not_nearer : T (not (x.distance ≺ y.distance))
  not_nearer =
      refute (x.distance ≺ y.distance) (λ h.
      let N : NumberHit x = below_number binary64 x.distance y.distance X (T→true _ h) in
      omega (arith, apart_keys N, lt→key binary64 x.distance y.distance N y_number h))

  not_as_near : T (not (x.distance ≼ y.distance))
  not_as_near =
      refute (x.distance ≼ y.distance) (λ h.
      let N : NumberHit x = held_number binary64 x.distance X (le_left x.distance y.distance (T→true _ h)) in
      omega (arith, apart_keys N, le→key binary64 x.distance y.distance N y_number h))

not_itself : (x : CollisionHit) → Held x → T (not (x.distance ≺ x.distance))
not_itself x X =
    refute (x.distance ≺ x.distance) (λ h.
    let N : NumberHit x = below_number binary64 x.distance x.distance X (T→true _ h) in
    omega (arith, lt→key binary64 x.distance x.distance N N h))

module _ (counts : ℕ → Bool) (f : ℕ → CollisionHit) (a : CollisionHit) (A : NumberHit a) (F : (k : ℕ) → Held (f k)) where
  pub first_number : (n : ℕ) → NumberHit (nearest_counted counts f a n)
  first_number n =
      upto_keeps NumberHit (λ k best. cond (counts k) (nearer best (f k)) best) a n A
      (λ k l b B. pick NumberHit (counts k) (λ c. nearer_number b (f k) B (F k)) (λ c. B))

  -- what is not nearer than the first smallest so far is not nearer than that with one more; nor is that one
  one_more : (x : CollisionHit) → Held x → (n : ℕ) → T (not (x.distance ≺ (nearest_counted counts f a n).distance))
      → T (not (x.distance ≺ (nearest_counted counts f a (suc n)).distance))
  unfolding upto
  one_more x X n p =
      let best = nearest_counted counts f a n in
      pick (λ (h : CollisionHit). T (not (x.distance ≺ h.distance))) (counts n)
      (λ c. pick (λ (h : CollisionHit). T (not (x.distance ≺ h.distance))) ((f n).distance ≺ best.distance)
      (λ h. not_nearer x (f n) best X (F n) (first_number n) p h) (λ h. p))
      (λ c. p)

  that_one : (n : ℕ) → T (counts n) → T (not ((f n).distance ≺ (nearest_counted counts f a (suc n)).distance))
  unfolding upto
  that_one n c =
      let best = nearest_counted counts f a n in
      subst (λ (t : Bool). T (not ((f n).distance ≺ (cond t (nearer best (f n)) best).distance))) (sym (T→true (counts n) c))
      (pick (λ (h : CollisionHit). T (not ((f n).distance ≺ h.distance))) ((f n).distance ≺ best.distance)
      (λ h. not_itself (f n) (F n)) (λ h. h))

  pub none_nearer : (n j : ℕ) → j < n → T (counts j) → T (not ((f j).distance ≺ (nearest_counted counts f a n).distance))
  none_nearer zero j l c = let e : ⊥ = omega arith in absurd e
  none_nearer (suc n) j l c = elim (eq-or-lt_of_le l) [
    | inl e ↦
        subst (λ (m : ℕ). T (not ((f j).distance ≺ (nearest_counted counts f a m).distance))) e (that_one j c)
    | inr m ↦ one_more (f j) (F j) n (none_nearer n j (omega arith) c)
  ]

  -- what is not nearer than the start is not nearer than the first smallest, and not as near as one that is taken
  pub start_not_nearer : (x : CollisionHit) → Held x → T (not (x.distance ≺ a.distance)) → (n : ℕ)
      → T (not (x.distance ≺ (nearest_counted counts f a n).distance))
  unfolding upto
  start_not_nearer x X p zero = p
  start_not_nearer x X p (suc n) = one_more x X n (start_not_nearer x X p n)

  pub taken_not_as_near : (x : CollisionHit) → Held x → (k : ℕ) → T (not (x.distance ≺ (nearest_counted counts f a k).distance))
      → T ((f k).distance ≺ (nearest_counted counts f a k).distance) → T (not (x.distance ≼ (f k).distance))
  taken_not_as_near x X k p won = not_as_near x (f k) (nearest_counted counts f a k) X (F k) (first_number k) p won

  module _ (own : (k : ℕ) → (f k).witness.edge ≡ k) (n : ℕ) where
    supplies : {h : CollisionHit} → h ≡ nearest_counted counts f a n → Source counts f a n h → Supplied counts f a n h
    supplies {h} i (start e) = by_none e (λ j l c.
        subst (λ (g : CollisionHit). T (not ((f j).distance ≺ g.distance))) (sym i ∙ e) (none_nearer n j l c))
    supplies {h} i (taken k l c e w) =
        let o : h.witness.edge ≡ k = ap (λ (g : CollisionHit). g.witness.edge) e ∙ own k in
        by_edge (subst (Supplies counts f n h) (sym o) (record {
          below = l;
          counted = c;
          equal = e;
          number = o;
          nearest = λ j m d.
              subst (λ (g : CollisionHit). T (not ((f j).distance ≺ g.distance))) (sym i ∙ e) (none_nearer n j m d);
          first = λ j m d. taken_not_as_near (f j) (F j) k (none_nearer k j m d) w;
        }))

    pub supplied : Supplied counts f a n (nearest_counted counts f a n)
    supplied = supplies refl (source counts f a n)
