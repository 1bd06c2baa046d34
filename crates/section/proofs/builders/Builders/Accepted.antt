-- The numbers of the builders in turn, those of the list first, then their own; and what number 0 says of the points and
-- the space. By the laws of tests in order.
use Prim.Native.Nat.{ℕ, ◌+◌, ◌*◌, ◌≤◌, ◌<◌}
use native.Mathlib.Omega.{arith}
use mathlib.Core.Bool.{Bool, true, false}
use mathlib.Core.List.{List, [], ◌∷◌, ◌++◌}
use mathlib.Core.Path.{◌≡◌}
use lib.Dec.{nltb→le}
use lib.ListN.{length}
use lib.Ieee.{Float}
use borrow.Author.Tests.{lt-ltb, le-ltb, ne_eqb}
use Rattle.std.specs.Prelude.{Result}
use Rattle.section.specs.profile.Vertices.{count}
use Rattle.section.specs.profile.Refusals.{Test, refusal, any_below_axis, list_tests}
use Rattle.section.specs.profile.Replies.{value, turned_down, reply, told}
use Rattle.section.proofs.profile.Each.{All, cons}
use Rattle.section.proofs.profile.Refusals.Ordered.{Passes, refusal_append}
use Rattle.section.proofs.profile.Refusals.Passed.{counted, taken}
use Rattle.section.proofs.profile.Replies.{refused}
use Rattle.section.specs.builders.Builder.{section_of, polygon_of}
use Rattle.section.specs.builders.Kept.{section_own, polygon_own, section_answer, polygon_answer}
use Rattle.section.specs.builders.Steps.{three_kept}
use Rattle.section.specs.declared.shapes.Refusal.{Refusal}
use Rattle.section.proofs.builders.Builders.Kept.{three_answer, accepted}
use Rattle.section.proofs.builders.Builders.Closing.{section_whole, polygon_whole}

-- the list's numbers, then a builder's own, of which k numbers are kept
module _ (least most : ℕ) (s : List Float) (own : List Test) (k : ℕ) {n : ℕ} (e : n ≡ refusal (list_tests least most s)) where
  pub by_list : (n ≡ 0 → ⊥) → turned_down n ≡ reply (refusal (list_tests least most s ++ own)) k
  by_list h = rw (refusal_append (list_tests least most s) own tt, ← e, ne_eqb n 0 h) (refused n k h)

  pub by_own : n ≡ 0 → reply (refusal (list_tests least most s ++ own)) k ≡ reply (refusal own) k
  by_own z = rw (refusal_append (list_tests least most s) own tt, ← e, z)

module _ (s space : List Float) where
  pub section_listed : {n : ℕ} → n ≡ refusal (list_tests 2 254 s) → (n ≡ 0 → ⊥) → turned_down n ≡ section_answer s space
  unfolding section_answer
  section_listed e = by_list 2 254 s (section_own s space) _ e

  pub polygon_listed : {n : ℕ} → n ≡ refusal (list_tests 3 256 s) → (n ≡ 0 → ⊥) → turned_down n ≡ polygon_answer s space
  unfolding polygon_answer
  polygon_listed e = by_list 3 256 s (polygon_own s space) _ e

  -- no number of the list applies
  module _ {n : ℕ} (e : n ≡ refusal (list_tests 2 254 s)) (z : n ≡ 0) {t : Bool} (f : t ≡ any_below_axis s) where
    section_own_lem : section_answer s space ≡ reply (refusal (section_own s space)) (length (section_of s))
    unfolding section_answer
    section_own_lem = by_own 2 254 s (section_own s space) _ e z

    pub section_below : t ≡ true → turned_down 6 ≡ section_answer s space
    unfolding refusal
    section_below y = rw (section_own_lem, ← f, y)

    pub section_small : t ≡ false → length space < count s * 2 + 4 → turned_down 7 ≡ section_answer s space
    unfolding refusal
    section_small y h = rw (section_own_lem, ← f, y, lt-ltb (length space) (2 * (count s + 2)) (omega arith))

    pub section_counted : t ≡ false → count s * 2 + 4 ≤ length space → {k : ℕ} → k ≡ count (section_of s) → {r : Result ℕ Refusal}
        → r ≡ three_kept k → told r ≡ section_answer s space
    unfolding refusal
    section_counted y h c q =
        rw (section_own_lem, ← f, y, le-ltb (length space) (2 * (count s + 2)) (omega arith), q, c)
        (three_answer (section_of s) (section_whole s))

  module _ {n : ℕ} (e : n ≡ refusal (list_tests 3 256 s)) (z : n ≡ 0) {t : Bool} (f : t ≡ any_below_axis s) where
    polygon_own_lem : polygon_answer s space ≡ reply (refusal (polygon_own s space)) (length (polygon_of s))
    unfolding polygon_answer
    polygon_own_lem = by_own 3 256 s (polygon_own s space) _ e z

    pub polygon_below : t ≡ true → turned_down 6 ≡ polygon_answer s space
    unfolding refusal
    polygon_below y = rw (polygon_own_lem, ← f, y)

    pub polygon_small : t ≡ false → length space < count s * 2 → turned_down 7 ≡ polygon_answer s space
    unfolding refusal
    polygon_small y h = rw (polygon_own_lem, ← f, y, lt-ltb (length space) (2 * count s) (omega arith))

    pub polygon_counted : t ≡ false → count s * 2 ≤ length space → {k : ℕ} → k ≡ count (polygon_of s) → {r : Result ℕ Refusal}
        → r ≡ three_kept k → told r ≡ polygon_answer s space
    unfolding refusal
    polygon_counted y h c q =
        rw (polygon_own_lem, ← f, y, le-ltb (length space) (2 * count s) (omega arith), q, c)
        (three_answer (polygon_of s) (polygon_whole s))

  -- what an accepted builder was given
  pub section_accepted : {m : ℕ} → value m ≡ section_answer s space
      → (2 ≤ count s) × (count s ≤ 254) × (2 * (count s + 2) ≤ length space) × (m ≡ length (section_of s))
  unfolding section_answer
  section_accepted {m} a =
      let k = accepted (section_of s) _ m a in
      let p = taken 2 254 (s ∷ []) s (section_own s space) tt k.0 in
      let c = counted p.shapes in
      (c.enough, c.few, room p.rest_passes, k.1)
    where
      room : All Passes (section_own s space) → 2 * (count s + 2) ≤ length space
      room (cons below (cons small kept)) = nltb→le (length space) (2 * (count s + 2)) small

  pub polygon_accepted : {m : ℕ} → value m ≡ polygon_answer s space
      → (3 ≤ count s) × (count s ≤ 256) × (2 * count s ≤ length space) × (m ≡ length (polygon_of s))
  unfolding polygon_answer
  polygon_accepted {m} a =
      let k = accepted (polygon_of s) _ m a in
      let p = taken 3 256 (s ∷ []) s (polygon_own s space) tt k.0 in
      let c = counted p.shapes in
      (c.enough, c.few, room p.rest_passes, k.1)
    where
      room : All Passes (polygon_own s space) → 2 * count s ≤ length space
      room (cons below (cons small kept)) = nltb→le (length space) (2 * count s) small
