-- A store is refused with 12, 15 or 16 exactly when its length is none of 40, 80, .., 20,480, and which of them is told by the
-- length alone: links, kinds, section and radii have other numbers.
use Prim.Native.Nat.{ℕ, ◌/◌, ◌%◌, ◌≤◌}
use native.Mathlib.Omega.{arith}
use mathlib.Core.Bool.{Bool, true, false, not, ◌&&◌, ◌||◌, cond, and-false}
use mathlib.Core.List.{List}
use mathlib.Core.Path.{◌≡◌, refl, ◌∙◌}
use lib.ListN.{length}
use lib.Dec.{eqb, ltb, leb}
use borrow.Author.Tests.{ltb-true, ltb-false, eqb-true, eqb-false, eq-eqb, ne_eqb, le-leb, lt-leb}
use Rattle.section.specs.profile.Refusals.{refusal}
use Rattle.store.specs.Chain.{chain}
use Rattle.store.specs.Kinds.{kinds_answer}
use Rattle.store.specs.Radii.{radii_answer}
use Rattle.store.specs.Store.{numbered, length_answer, links_answer, vertices, section_answer, chained, store_answer}
use Rattle.store.specs.Answers.{StoreAnswer}
use Rattle.store.proofs.Numbers.{refused_by, links_other, first_other, section_other, other_later, same_later, first_alone}

-- a length of 1 to 512 records
abbrev pub right_length : ℕ → Bool
right_length n = eqb (n % 40) 0 && (leb 1 (n / 40) && leb (n / 40) 512)

-- refused with 12, 15 or 16
abbrev is_length : ℕ → Bool
is_length n = eqb n 12 || (eqb n 15 || eqb n 16)

abbrev pub for_length : StoreAnswer → Bool
for_length a = refused_by is_length a

-- ---- the length itself
length_judged : (n : ℕ) → for_length (length_answer n) ≡ not (right_length n)
unfolding length_answer refusal
length_judged n = go (ltb 0 (n % 40)) (eqb n 0) (ltb 512 (n / 40)) refl refl refl
  where
    go :
        (rest none more : Bool) → ltb 0 (n % 40) ≡ rest → eqb n 0 ≡ none → ltb 512 (n / 40) ≡ more
        → for_length (numbered (cond rest 12 (cond none 15 (cond more 16 0))))
        ≡ not (eqb (n % 40) 0 && (leb 1 (n / 40) && leb (n / 40) 512))
    go true none more r z m = let h = ltb-true 0 (n % 40) r in rw (ne_eqb (n % 40) 0 (λ e. omega arith))
    go false true more r z m =
        let e = eqb-true n 0 z in
        rw (lt-leb 1 (n / 40) (omega arith), and-false (eqb (n % 40) 0))
    go false false true r z m =
        rw (lt-leb (n / 40) 512 (ltb-true 512 (n / 40) m), and-false (leb 1 (n / 40)), and-false (eqb (n % 40) 0))
    go false false false r z m =
        let even = ltb-false 0 (n % 40) r in
        let some = eqb-false n 0 z in
        rw (
          eq-eqb (n % 40) 0 (omega arith),
          le-leb 1 (n / 40) (omega (arith, some)),
          le-leb (n / 40) 512 (ltb-false 512 (n / 40) m),
        )

-- ---- the other numbers
at_most_five : (n : ℕ) → n ≤ 5 → is_length n ≡ false
at_most_five n h =
    rw (ne_eqb n 12 (λ e. omega arith), ne_eqb n 15 (λ e. omega arith), ne_eqb n 16 (λ e. omega arith))

pub record LengthTold (b : List ℕ) : Type 0 where
  pub when : for_length (store_answer b) ≡ not (right_length (length b))
  pub which : for_length (store_answer b) ≡ true → store_answer b ≡ length_answer (length b)

pub length_told : (b : List ℕ) → LengthTold b
unfolding store_answer
length_told b =
    let s = vertices b (chained b) in
    let of-section = other_later is_length (section_answer s) (radii_answer b (chained b)) (section_other is_length at_most_five s)
    (first_other is_length 6 _ refl (chained b)) in
    let rest = other_later is_length (links_answer (chain b)) _ (links_other is_length refl (chain b))
    (other_later is_length (kinds_answer b (chained b)) _ (first_other is_length 14 _ refl (chained b)) of-section) in
    record {
      when = same_later is_length (length_answer (length b)) _ rest ∙ length_judged (length b);
      which = first_alone is_length (length_answer (length b)) _ rest;
    }
