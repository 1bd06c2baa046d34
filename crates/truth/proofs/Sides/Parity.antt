-- WHERE THE EVEN-ODD RULE CHANGES, AN EDGE IS CROSSED: if the crossings counted from p and from q differ in parity, some edge of
-- the section has a point on the segment from p to q. Of each edge that has none, the crossings from p and from q differ exactly
-- where one of its ends lies between the two lines of sight and beyond the segment and the other does not; round the section that
-- happens an even number of times.
use Prim.Native.Nat.{ℕ, zero, suc, ◌+◌, ◌<◌, ◌≤◌}
use mathlib.Core.Bool.{Bool, true, false, not, ◌&&◌, cond}
use mathlib.Core.Logic.{inl, inr, ◌⊎◌}
use mathlib.Core.Path.{◌≡◌, ap, ap₂, refl, sym, subst, ◌∙◌}
use native.Mathlib.Nat.{eq-or-lt_of_le, le_refl}
use native.Mathlib.Omega.{arith}
use lib.Dec.{eqb, eqb→eq, eqb_refl, ltb, ltb→lt, nltb→le, T}
use lib.Ieee.{unlike}
use Rattle.section.specs.profile.Vertices.{next, upto}
use Rattle.truth.specs.Solid.{area, crosses_at, crossing}
use Rattle.truth.proofs.Sides.Meet.{Meets}
use Rattle.truth.proofs.Sides.Meet.{between, between_high, between_high', low_between, low_between', low_high, low_high'}
use Rattle.truth.proofs.Sides.Meet.{meet, turned}

-- b says whether x is less than y
record Tells (b : Bool) (x y : ℕ) : Type 0 where
  pub less : T b → x < y
  pub not_less : T (not b) → y ≤ x

tells : (x y : ℕ) → Tells (ltb x y) x y
tells x y = record { less = ltb→lt x y; not_less = nltb→le x y }

-- two that are the same, or what else
same : {M N : Type 0} → N → (E : Bool → Bool → Type 0) → E true true → E false false → (x y : Bool) → (T x → T (not y) → M)
    → (T (not x) → T y → M)
    → (M × N) ⊎ E x y
same n E t f true true h k = inr t
same n E t f true false h k = inl (h tt tt, n)
same n E t f false true h k = inl (k tt tt, n)
same n E t f false false h k = inr f

module _ (z r z' r' : ℕ) (D : r ≤ r') where
  -- between the lines of sight of p and q, and beyond the segment
  abbrev seen : (above-p above-q beyond : Bool) → Bool
  seen above-p above-q beyond = (above-p && not above-q) && beyond

  abbrev pub seen_at : (vz vr : ℕ) → Bool
  seen_at vz vr = seen (ltb r vr) (ltb r' vr) (ltb (area z' r' vz vr z r) (area vz vr z' r' z r))

  module _ (az ar bz br : ℕ) where
    -- the edge meets the segment, and does not lie below it
    abbrev pub Met : Type 0
    Met = Meets z r z' r' az ar bz br × ((r < ar) ⊎ (r < br))

    go : (ap aq bp bq u d u' d' la lb : Bool) → Tells ap r ar → Tells aq r' ar → Tells bp r br → Tells bq r' br
        → Tells u (area bz br az ar z r) (area az ar bz br z r) → Tells d (area az ar bz br z r) (area bz br az ar z r)
        → Tells u' (area bz br az ar z' r') (area az ar bz br z' r') → Tells d' (area az ar bz br z' r') (area bz br az ar z' r')
        → Tells la (area z' r' az ar z r) (area az ar z' r' z r) → Tells lb (area z' r' bz br z r) (area bz br z' r' z r)
        → Met ⊎ (unlike (crossing ap bp u d) (crossing aq bq u' d') ≡ unlike (seen ap aq la) (seen bp bq lb))
    go false true bp bq u d u' d' la lb a a' b b' p n q o s t = let c : ⊥ = omega (arith, a.not_less tt, a'.less tt) in absurd c
    go true true false true u d u' d' la lb a a' b b' p n q o s t = let c : ⊥ = omega (arith, b.not_less tt, b'.less tt) in
        absurd c
    go true false false true u d u' d' la lb a a' b b' p n q o s t = let c : ⊥ = omega (arith, b.not_less tt, b'.less tt) in
        absurd c
    go false false false true u d u' d' la lb a a' b b' p n q o s t = let c : ⊥ = omega (arith, b.not_less tt, b'.less tt) in
        absurd c
    go false false false false u d u' d' la lb a a' b b' p n q o s t = inr refl
    go true true true true u d u' d' la lb a a' b b' p n q o s t = inr refl
    go true false true false u d u' d' la lb a a' b b' p n q o s t =
        same (inl (a.less tt)) (λ x y. false ≡ unlike x y) refl refl la lb
        (λ h k. meet z r z' r' az ar bz br
        (between z r z' r' az ar bz br (a.less tt) (a'.not_less tt) (b.less tt) (b'.not_less tt) (s.less h)
        (t.not_less k)))
        (λ h k. turned z r z' r' az ar bz br (meet z r z' r' bz br az ar
        (between z r z' r' bz br az ar (b.less tt) (b'.not_less tt) (a.less tt) (a'.not_less tt) (t.less k)
        (s.not_less h))))
    go false false true false u d u' d' la lb a a' b b' p n q o s t =
        same (inr (b.less tt)) (λ x y. unlike x false ≡ unlike false y) refl refl u lb
        (λ h k. meet z r z' r' az ar bz br
        (low_between z r z' r' az ar bz br (a.not_less tt) (b.less tt) (b'.not_less tt) (p.less h) (t.not_less k)))
        (λ h k. turned z r z' r' az ar bz br (meet z r z' r' bz br az ar
        (low_between' z r z' r' az ar bz br (a.not_less tt) (b.less tt) (b'.not_less tt) (p.not_less h) (t.less k))))
    go true false false false u d u' d' la lb a a' b b' p n q o s t =
        same (inl (a.less tt)) (λ x y. unlike x false ≡ unlike y false) refl refl d la
        (λ h k. turned z r z' r' az ar bz br (meet z r z' r' bz br az ar
        (low_between z r z' r' bz br az ar (b.not_less tt) (a.less tt) (a'.not_less tt) (n.less h) (s.not_less k))))
        (λ h k. meet z r z' r' az ar bz br
        (low_between' z r z' r' bz br az ar (b.not_less tt) (a.less tt) (a'.not_less tt) (n.not_less h) (s.less k)))
    go false false true true u d u' d' la lb a a' b b' p n q o s t =
        same (inr (b.less tt)) (λ x y. unlike x y ≡ false) refl refl u u'
        (λ h k. meet z r z' r' az ar bz br
        (low_high z r z' r' az ar bz br (a.not_less tt) D (b'.less tt) (p.less h) (q.not_less k)))
        (λ h k. turned z r z' r' az ar bz br (meet z r z' r' bz br az ar
        (low_high' z r z' r' az ar bz br (a.not_less tt) D (b'.less tt) (p.not_less h) (q.less k))))
    go true true false false u d u' d' la lb a a' b b' p n q o s t =
        same (inl (a.less tt)) (λ x y. unlike x y ≡ false) refl refl d d'
        (λ h k. turned z r z' r' az ar bz br (meet z r z' r' bz br az ar
        (low_high z r z' r' bz br az ar (b.not_less tt) D (a'.less tt) (n.less h) (o.not_less k))))
        (λ h k. meet z r z' r' az ar bz br
        (low_high' z r z' r' bz br az ar (b.not_less tt) D (a'.less tt) (n.not_less h) (o.less k)))
    go true false true true u d u' d' la lb a a' b b' p n q o s t =
        same (inl (a.less tt)) (λ x y. unlike false x ≡ unlike y false) refl refl u' la
        (λ h k. turned z r z' r' az ar bz br (meet z r z' r' bz br az ar
        (between_high' z r z' r' az ar bz br (a.less tt) (a'.not_less tt) (b'.less tt) (q.less h) (s.not_less k))))
        (λ h k. meet z r z' r' az ar bz br
        (between_high z r z' r' az ar bz br (a.less tt) (a'.not_less tt) (b'.less tt) (q.not_less h) (s.less k)))
    go true true true false u d u' d' la lb a a' b b' p n q o s t =
        same (inl (a.less tt)) (λ x y. unlike false x ≡ unlike false y) refl refl d' lb
        (λ h k. meet z r z' r' az ar bz br
        (between_high' z r z' r' bz br az ar (b.less tt) (b'.not_less tt) (a'.less tt) (o.less h) (t.not_less k)))
        (λ h k. turned z r z' r' az ar bz br (meet z r z' r' bz br az ar
        (between_high z r z' r' bz br az ar (b.less tt) (b'.not_less tt) (a'.less tt) (o.not_less h) (t.less k))))

    -- of an edge
    pub edge_parity : Met
        ⊎ (unlike (crosses_at z r az ar bz br) (crosses_at z' r' az ar bz br) ≡ unlike (seen_at az ar) (seen_at bz br))
    edge_parity = go _ _ _ _ _ _ _ _ _ _ (tells _ _) (tells _ _) (tells _ _) (tells _ _) (tells _ _) (tells _ _) (tells _ _)
        (tells _ _) (tells _ _) (tells _ _)

-- ---- round the section: c and d are the crossings of each edge, g the ends that are seen
unlike_swap : (x y c d : Bool) → unlike (unlike x c) (unlike y d) ≡ unlike (unlike x y) (unlike c d)
unlike_swap true true true true = refl
unlike_swap true true true false = refl
unlike_swap true true false true = refl
unlike_swap true true false false = refl
unlike_swap true false true true = refl
unlike_swap true false true false = refl
unlike_swap true false false true = refl
unlike_swap true false false false = refl
unlike_swap false true true true = refl
unlike_swap false true true false = refl
unlike_swap false true false true = refl
unlike_swap false true false false = refl
unlike_swap false false true true = refl
unlike_swap false false true false = refl
unlike_swap false false false true = refl
unlike_swap false false false false = refl

unlike_chain : (x y z : Bool) → unlike (unlike x y) (unlike y z) ≡ unlike x z
unlike_chain true true true = refl
unlike_chain true true false = refl
unlike_chain true false true = refl
unlike_chain true false false = refl
unlike_chain false true true = refl
unlike_chain false true false = refl
unlike_chain false false true = refl
unlike_chain false false false = refl

unlike_self : (x : Bool) → unlike x x ≡ false
unlike_self true = refl
unlike_self false = refl

unlike_false : (x y : Bool) → unlike x y ≡ false → x ≡ y
unlike_false true true h = refl
unlike_false true false h = h
unlike_false false true h = sym h
unlike_false false false h = refl

abbrev pub parity : (ℕ → Bool) → ℕ → Bool
parity c n = upto (λ k odd. unlike odd (c k)) false n

module _ (c d g : ℕ → Bool) where
  -- along the chain of the first k edges
  chain : (n k : ℕ) → k < n → ((m : ℕ) → m < n → unlike (c m) (d m) ≡ unlike (g m) (g (next n m)))
      → unlike (parity c k) (parity d k) ≡ unlike (g 0) (g k)
  unfolding upto
  chain n zero l h = sym (unlike_self (g 0))
  chain n (suc k) l h =
      unlike_swap (parity c k) (parity d k) (c k) (d k)
      ∙ ap₂ unlike (chain n k (omega arith) h) (h k (omega arith) ∙ ap (λ m. unlike (g k) (g m)) (onward n k l))
      ∙ unlike_chain (g 0) (g k) (g (suc k))
    where
      onward : (n k : ℕ) → suc k < n → next n k ≡ suc k
      onward n k l = go (eqb (k + 1) n) (λ t. let e = eqb→eq (k + 1) n t in omega arith)
        where
          go : (b : Bool) → (T b → ⊥) → cond b 0 (k + 1) ≡ suc k
          go true f = absurd (f tt)
          go false f = omega arith

  pub round : (n : ℕ) → ((m : ℕ) → m < n → unlike (c m) (d m) ≡ unlike (g m) (g (next n m))) → parity c n ≡ parity d n
  unfolding upto
  round zero h = refl
  round (suc n) h = unlike_false (parity c (suc n)) (parity d (suc n)) (
      unlike_swap (parity c n) (parity d n) (c n) (d n)
      ∙ ap₂ unlike (chain (suc n) n (le_refl (suc n)) h) (h n (le_refl (suc n)) ∙ ap (λ m. unlike (g n) (g m)) (back n))
      ∙ unlike_chain (g 0) (g n) (g 0) ∙ unlike_self (g 0))
    where
      back : (n : ℕ) → next (suc n) n ≡ 0
      back n = go (eqb (n + 1) (suc n))
          (subst (λ m. T (eqb m (suc n))) (let e : suc n ≡ n + 1 = omega arith in e) (eqb_refl (suc n)))
        where
          go : (b : Bool) → T b → cond b 0 (n + 1) ≡ 0
          go true t = refl
          go false t = absurd t

-- one of the first n, or all
pub all_or : (M E : ℕ → Type 0) (n : ℕ) → ((k : ℕ) → k < n → M k ⊎ E k) → ((k : ℕ) × (k < n) × M k) ⊎ ((k : ℕ) → k < n → E k)
all_or M E zero h = inr (λ k l. let c : ⊥ = omega arith in absurd c)
all_or M E (suc n) h = go (h n (le_refl (suc n))) (all_or M E n (λ k l. h k (omega arith)))
  where
    go : M n ⊎ E n → ((k : ℕ) × (k < n) × M k) ⊎ ((k : ℕ) → k < n → E k)
        → ((k : ℕ) × (k < suc n) × M k) ⊎ ((k : ℕ) → k < suc n → E k)
    go (inl m) x = inl (n, le_refl (suc n), m)
    go (inr e) (inl x) = inl (x.0, omega (arith, x.1), x.2)
    go (inr e) (inr f) = inr (λ k l. elim (eq-or-lt_of_le l) [
      | inl i ↦ subst E (let j : n ≡ k = omega arith in j) e
      | inr w ↦ f k (omega arith)
    ])
