-- Bodies as they are read: seven numbers a body, and one body more at the front of the array with each turn of the loop. By the
-- body that stands at its place in the list.
use Prim.Native.Nat.{ℕ, zero, suc, ◌+◌, ◌*◌, ◌%◌, ◌/◌, ◌<◌}
use mathlib.Core.Bool.{true, false}
use mathlib.Core.List.{List, [], ◌∷◌, ◌++◌}
use mathlib.Core.Path.{◌≡◌, refl, ap, sym, ◌∙◌}
use native.Mathlib.Nat.{le_of_eq, lt_of_lt_of_le}
use native.Mathlib.Numerals.{add-one}
use native.Mathlib.Omega.{arith}
use borrow.Author.Tests.{eq-eqb, ne_eqb}
use lib.Dec.{eqb}
use lib.Ieee.{Float}
use lib.ListN.{length, get_or, set, take}
use lib.Seq.{take-suc, take-suc-set}
use Rattle.bodies.specs.declared.shapes.Body.{Body}
use Rattle.capi.specs.lists.Lists.{body_at, bodies_from, bodies_of}

-- ---- seven numbers a body
module _ (n k : ℕ) where
  pub uneven : (n % 7 ≡ 0 → ⊥) → eqb n (7 * k) ≡ false
  uneven h = ne_eqb n (7 * k) (λ e. h (omega (arith, e)))

  pub other_count : (n / 7 ≡ k → ⊥) → eqb n (7 * k) ≡ false
  other_count h = ne_eqb n (7 * k) (λ e. h (omega (arith, e)))

  pub sevens : n % 7 ≡ 0 → n / 7 ≡ k → eqb n (7 * k) ≡ true
  sevens h e = eq-eqb n (7 * k) (omega (arith, h, e))

-- ---- the list of bodies
length_from : (kinds : List ℕ) (l : List Float) (at : ℕ) → length (bodies_from kinds l at) ≡ length kinds
unfolding bodies_from
length_from [] l at = refl
length_from (k ∷ kinds) l at = ap suc (length_from kinds l (at + 7))

from_at : (kinds : List ℕ) (l : List Float) (at i : ℕ) (d : Body) → i < length kinds
    → get_or (bodies_from kinds l at) i d ≡ body_at (get_or kinds i 0) l (at + 7 * i)
unfolding bodies_from
from_at [] l at i d h = absurd (omega (arith, h))
from_at (k ∷ kinds) l at zero d h = ap (body_at k l) (omega arith)
from_at (k ∷ kinds) l at (suc i) d h =
    from_at kinds l (at + 7) i d (omega (arith, h)) ∙ ap (body_at (get_or kinds i 0) l) (omega arith)

of_at : (kinds : List ℕ) (l : List Float) (i : ℕ) (d : Body) → i < length kinds
    → get_or (bodies_of kinds l) i d ≡ body_at (get_or kinds i 0) l (7 * i)
of_at kinds l i d h = from_at kinds l 0 i d h ∙ ap (body_at (get_or kinds i 0) l) (omega arith)

-- ---- one turn of the loop
pub read_more : (kinds : List ℕ) (numbers : List Float) (bodies : List Body) (i : ℕ) {b : Body} → i < length kinds
    → i < length bodies → take i bodies ≡ take i (bodies_of kinds numbers) → b ≡ body_at (get_or kinds i 0) numbers (7 * i)
    → take (i + 1) (set bodies i b) ≡ take (i + 1) (bodies_of kinds numbers)
read_more kinds numbers bodies i {b} h j inv e =
    let all = bodies_of kinds numbers in
    ap (λ (k : ℕ). take k (set bodies i b)) (add-one i)
    ∙ take-suc-set bodies i b j
    ∙ ap (λ (l : List Body). l ++ (b ∷ [])) inv
    ∙ ap (λ (x : Body). take i all ++ (x ∷ [])) (e ∙ sym (of_at kinds numbers i b h))
    ∙ sym (take-suc all i b (lt_of_lt_of_le h (le_of_eq (sym (length_from kinds numbers 0)))))
    ∙ ap (λ (k : ℕ). take k all) (sym (add-one i))
