-- Boolean tests of numbers as equations between tests.
use Rattle.std.proofs.Common.{◌≡◌, ℕ, ◌<◌, ◌≤◌, Bool, true, false, ◌&&◌, ◌||◌, T, eqb, ltb, leb, ◌⊎◌, refl, subst, inl, inr, le_of_eq, le_of_lt, eq-or-lt_of_le, not-le_of_lt, le→leb, eqb→eq, ltb→lt, lt→ltb, leb→le}
use lib.Dec.{eqb_refl}
use lib.Ieee.Fits.{and_i, and_l, and_r}

-- ---- the order
pub bool_ext : (a b : Bool) → (T a → T b) → (T b → T a) → a ≡ b
bool_ext true true h k = refl
bool_ext true false h k = absurd (h tt)
bool_ext false true h k = absurd (k tt)
bool_ext false false h k = refl

eq→eqb : (a b : ℕ) → a ≡ b → T (eqb a b)
eq→eqb a b p = subst (λ (x : ℕ). T (eqb a x)) p (eqb_refl a)

pub ltb_iff : (a b c d : ℕ) → (a < b → c < d) → (c < d → a < b) → ltb a b ≡ ltb c d
ltb_iff a b c d h k = bool_ext (ltb a b) (ltb c d) (λ t. lt→ltb c d (h (ltb→lt a b t)))
    (λ t. lt→ltb a b (k (ltb→lt c d t)))

pub eqb_iff : (a b c d : ℕ) → (a ≡ b → c ≡ d) → (c ≡ d → a ≡ b) → eqb a b ≡ eqb c d
eqb_iff a b c d h k = bool_ext (eqb a b) (eqb c d) (λ t. eq→eqb c d (h (eqb→eq a b t)))
    (λ t. eq→eqb a b (k (eqb→eq c d t)))

pub and_true : (b : Bool) → (b && true) ≡ b
and_true true = refl
and_true false = refl

pub and_eqb : (a b c d x y : ℕ) → (a ≡ b → c ≡ d → x ≡ y) → (x ≡ y → (a ≡ b) × (c ≡ d)) → (eqb a b && eqb c d) ≡ eqb x y
and_eqb a b c d x y h k =
    bool_ext (eqb a b && eqb c d) (eqb x y)
    (λ t. eq→eqb x y (h (eqb→eq a b (and_l (eqb a b) (eqb c d) t)) (eqb→eq c d (and_r (eqb a b) (eqb c d) t))))
    (λ t. let z = k (eqb→eq x y t) in and_i (eqb a b) (eqb c d) (eq→eqb a b z.0) (eq→eqb c d z.1))

pub yes_lt : (a b : ℕ) → a < b → true ≡ ltb a b
yes_lt a b h = bool_ext true (ltb a b) (λ t. lt→ltb a b h) (λ t. tt)

pub no_lt : (a b : ℕ) → b ≤ a → false ≡ ltb a b
no_lt a b h = bool_ext false (ltb a b) (λ (t : ⊥). absurd t) (λ t. not-le_of_lt (ltb→lt a b t) h)

pub yes_eq : (a : ℕ) → true ≡ eqb a a
yes_eq a = bool_ext true (eqb a a) (λ t. eqb_refl a) (λ t. tt)

pub no_eq : (a b : ℕ) → (a ≡ b → ⊥) → false ≡ eqb a b
no_eq a b h = bool_ext false (eqb a b) (λ (t : ⊥). absurd t) (λ t. h (eqb→eq a b t))

or_l : (a b : Bool) → T a → T (a || b)
or_l true b t = tt
or_l false b t = absurd t

or_r : (a b : Bool) → T b → T (a || b)
or_r true b t = tt
or_r false b t = t

or_split : (a b : Bool) → T (a || b) → T a ⊎ T b
or_split true b t = inl tt
or_split false b t = inr t

le→lt_or_eq : (a b : ℕ) → a ≤ b → T (ltb a b || eqb a b)
le→lt_or_eq a b h = elim (eq-or-lt_of_le h) [
  | inl p ↦ or_r (ltb a b) (eqb a b) (eq→eqb a b p)
  | inr q ↦ or_l (ltb a b)
      (eqb a b) (lt→ltb a b q)
]

pub lt_or_eq : (a b : ℕ) → (ltb a b || eqb a b) ≡ leb a b
lt_or_eq a b =
    bool_ext (ltb a b || eqb a b) (leb a b)
    (λ t. le→leb a b (elim (or_split (ltb a b) (eqb a b) t) [
      | inl u ↦ le_of_lt (ltb→lt a b u)
      | inr u ↦ le_of_eq
          (eqb→eq a b u)
    ]))
    (λ t. le→lt_or_eq a b (leb→le a b t))
