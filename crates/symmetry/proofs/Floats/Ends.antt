-- The lesser and the greater of two finite values do not see their order, but for the sign of a zero and how a value is written,
-- and change places where both are negated. By cases: what compares as equal is one value, or zeros of both signs.
use Prim.Native.Nat.{◌*◌, suc, zero, ℕ}
use mathlib.Core.Bool.{◌||◌, Bool, beq, cond, false, not, true}
use mathlib.Core.Path.{refl, subst, sym, ◌≡◌}
use native.Mathlib.Nat.{mul-pos, zero-lt-suc}
use native.Mathlib.Omega.{arith}
use lib.Dec.{eqb, eqb→eq, T, T_not}
use lib.Ieee.{down, eq, fin, Float, inf, le, level, lt, nan, neg, of_bits, up}
use lib.Ieee.Fits.{and_l, and_r, down_pos, up_pos}
use lib.IntN.{ℤ}
use Rattle.arith.specs.F64.{𝟘}
use Rattle.arith.specs.Num.{max as greater, min as lesser}
use Rattle.symmetry.specs.Alike.{same, zeros}
use Rattle.symmetry.proofs.Floats.Like.{not_under_zero}
use Rattle.symmetry.proofs.Floats.Written.{Equal, one, value, via}
use Rattle.arith.proofs.Laws.Order.{finite_lt_is_not_le}
use lib.Ieee.Scale.{finite}
use Rattle.symmetry.proofs.Floats.Signs.{le_neg, plus_not_below}

beq→eq : (s t : Bool) → T (beq s t) → s ≡ t
beq→eq false false h = refl
beq→eq true true h = refl
beq→eq false true h = absurd h
beq→eq true false h = absurd h

-- levels that agree are one value, or zeros
level_equal : (s t : Bool) (m n : ℕ) (e d : ℤ) → T (level s (m * up e * down d) t (n * up d * down e))
    → Equal (fin s m e) (fin t n d)
level_equal s t m n e d h =
    go (beq s t) (beq→eq s t) (and_r (eqb a b) (beq s t || eqb a 0) h)
    (eqb→eq a b (and_l (eqb a b) (beq s t || eqb a 0) h))
  where
    a : ℕ
    a = m * up e * down d

    b : ℕ
    b = n * up d * down e

    none : (m n : ℕ) → m * up e * down d ≡ 0 → m * up e * down d ≡ n * up d * down e → Equal (fin s m e) (fin t n d)
    none zero zero i l = via (zeros {t = t}) (value l)
    none (suc m) n i l =
        let c : ⊥ = omega (arith, mul-pos (mul-pos (zero-lt-suc m) (up_pos e)) (down_pos d)) in absurd c
    none zero (suc n) i l =
        let c : ⊥ = omega (arith, mul-pos (mul-pos (zero-lt-suc n) (up_pos d)) (down_pos e)) in absurd c

    go : (z : Bool) → (T z → s ≡ t) → T (z || eqb a 0) → a ≡ b → Equal (fin s m e) (fin t n d)
    go true f k l = subst (λ (u : Bool). Equal (fin s m e) (fin u n d)) (f tt) (via (same {x = fin s m e}) (value l))
    go false f k l = none m n (eqb→eq a 0 k) l

pub lt→le : (x y : Float) → T (lt x y) → T (le x y)
unfolding le
lt→le x y h = go (lt x y) (eq x y) h
  where
    go : (b c : Bool) → T b → T (b || c)
    go true c h = tt
    go false c h = absurd h

both_ways : (a b : Float) → T (finite a) → T (finite b) → T (le a b) → T (le b a) → Equal a b
both_ways nan b p q h k = absurd p
both_ways (inf s) b p q h k = absurd p
both_ways (fin s m e) nan p q h k = absurd q
both_ways (fin s m e) (inf t) p q h k = absurd q
both_ways (fin s m e) (fin t n d) p q h k =
    go (lt (fin s m e) (fin t n d)) (eq (fin s m e) (fin t n d)) (finite_lt_is_not_le s t m n e d) (unfold le in h)
    (λ l. level_equal s t m n e d (unfold eq in l))
  where
    go : (x y : Bool) → x ≡ not (le (fin t n d) (fin s m e)) → T (x || y) → (T y → Equal (fin s m e) (fin t n d))
        → Equal (fin s m e) (fin t n d)
    go true y i l f = absurd (T_not (le (fin t n d) (fin s m e)) (subst T i tt) k)
    go false y i l f = f l

neither_way : (a b : Float) → T (finite a) → T (finite b) → T (not (le a b)) → T (not (le b a)) → ⊥
neither_way nan b p q h k = p
neither_way (inf s) b p q h k = p
neither_way (fin s m e) nan p q h k = q
neither_way (fin s m e) (inf t) p q h k = q
neither_way (fin s m e) (fin t n d) p q h k =
    T_not (le (fin s m e) (fin t n d)) h
    (lt→le (fin s m e) (fin t n d) (subst T (sym (finite_lt_is_not_le s t m n e d)) k))

-- one of two by their order, whichever comes first
module _ (a b : Float) (p : T (finite a)) (q : T (finite b)) where
  pub min_swapped : Equal (lesser a b) (lesser b a)
  min_swapped = go (le a b) (le b a) (both_ways a b p q) (neither_way a b p q)
    where
      go : (x y : Bool) → (T x → T y → Equal a b) → (T (not x) → T (not y) → ⊥) → Equal (cond x a b) (cond y b a)
      go true true h k = h tt tt
      go true false h k = one same
      go false true h k = one same
      go false false h k = absurd (k tt tt)

  pub max_swapped : Equal (greater a b) (greater b a)
  max_swapped = go (le a b) (le b a) (both_ways a b p q) (neither_way a b p q)
    where
      go : (x y : Bool) → (T x → T y → Equal a b) → (T (not x) → T (not y) → ⊥) → Equal (cond y a b) (cond x b a)
      go true true h k = h tt tt
      go true false h k = one same
      go false true h k = one same
      go false false h k = absurd (k tt tt)

-- ---- both negated
neg_cond : (t : Bool) (a b : Float) → cond t (neg a) (neg b) ≡ neg (cond t a b)
neg_cond true a b = refl
neg_cond false a b = refl

pub min_neg : (a b : Float) → lesser (neg a) (neg b) ≡ neg (greater a b)
min_neg a b = rw (le_neg a b) (neg_cond (le b a) a b)

pub max_neg : (a b : Float) → greater (neg a) (neg b) ≡ neg (lesser a b)
max_neg a b = rw (le_neg b a) (neg_cond (le a b) a b)

-- ---- the lesser is not above 0 where the greater is below
not_both : (s : Bool) (m : ℕ) (e : ℤ) → T (lt 𝟘 (fin s m e)) → T (lt (fin s m e) 𝟘) → ⊥
not_both true m e h k = unfold lt of_bits in h
not_both false m e h k = subst T (plus_not_below m e) k

above_size : (m : ℕ) (e d : ℤ) → T (lt 𝟘 (fin false m e)) → m * up e * down d ≡ 0 → ⊥
above_size zero e d h k = subst T none h
  where
    none : lt 𝟘 (fin false 0 e) ≡ false
    none = unfold of_bits in not_under_zero _ _ false e
above_size (suc m) e d h k = omega (arith, k, mul-pos (mul-pos (zero-lt-suc m) (up_pos e)) (down_pos d))

not_above_below : (s t : Bool) (m n : ℕ) (e d : ℤ) → T (lt 𝟘 (fin s m e)) → T (lt (fin t n d) 𝟘)
    → T (le (fin s m e) (fin t n d)) → ⊥
not_above_below true t m n e d h k l = unfold lt of_bits in h
not_above_below false false m n e d h k l = subst T (plus_not_below n d) k
not_above_below false true m n e d h k l =
    let a = m * up e * down d in
    above_size m e d h (eqb→eq a 0 (and_r (eqb a (n * up d * down e)) (eqb a 0) (unfold le lt eq in l)))

pub ordered_ends : (a b : Float) → T (finite a) → T (finite b) → T (lt 𝟘 (lesser a b)) → T (lt (greater a b) 𝟘) → ⊥
ordered_ends nan b p q = absurd p
ordered_ends (inf s) b p q = absurd p
ordered_ends (fin s m e) nan p q = absurd q
ordered_ends (fin s m e) (inf t) p q = absurd q
ordered_ends (fin s m e) (fin t n d) p q =
    go (le (fin s m e) (fin t n d)) (le (fin t n d) (fin s m e)) (not_above_below s t m n e d) (not_above_below t s n m d e)
  where
    a : Float
    a = fin s m e

    b : Float
    b = fin t n d

    go : (x y : Bool) → (T (lt 𝟘 a) → T (lt b 𝟘) → T x → ⊥) → (T (lt 𝟘 b) → T (lt a 𝟘) → T y → ⊥)
        → T (lt 𝟘 (cond x a b)) → T (lt (cond y a b) 𝟘) → ⊥
    go true true f g h k = not_both s m e h k
    go true false f g h k = f h k tt
    go false true f g h k = g h k tt
    go false false f g h k = not_both t n d h k
