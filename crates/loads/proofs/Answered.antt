-- What write_load answers, what the space then holds, and what the program prints of it.
use Prim.Native.Nat.{ℕ, zero, suc, ◌<◌, ◌≤◌, ◌^◌}
use native.Mathlib.Omega.{arith}
use mathlib.Core.Bool.{Bool, true, false, not, ◌||◌}
use mathlib.Core.List.{List}
use mathlib.Core.Path.{◌≡◌, refl, sym, ap, ap₂, subst, ◌∙◌}
use lib.ListN.{length, take, drop, length-append}
use lib.Seq.{take_at}
use lib.Dec.{T, eqb, ltb}
use borrow.Author.Tests.{ltb-false}
use Rattle.std.specs.Prelude.{Result, Ok, Err}
use Rattle.section.specs.declared.shapes.Refusal.{Refusal}
use Rattle.section.specs.profile.Numbers.{refusal_number}
use Rattle.section.specs.profile.Refusals.{refusal}
use Rattle.section.specs.profile.Replies.{Reply, value, turned_down, reply}
use Rattle.section.proofs.profile.Numbered.{above_zero}
use Rattle.section.proofs.profile.Each.{All, nil, cons}
use Rattle.section.proofs.profile.Refusals.Ordered.{Passes, none_applies}
use Rattle.listings.specs.store_listing.Listing.{Prints}
use Rattle.listings.specs.store_listing.Steps.{Written}
use Rattle.listings.proofs.store_listing.Writing.{front_written}
use Rattle.loads.specs.Load.{load, load_tests, load_answer, LoadWritten}
use Rattle.loads.specs.Printed.{bytes_line, refused_line, load_text}
use Rattle.loads.proofs.Lines.{length_bytes_line, length_refused_line}
use Rattle.loads.proofs.Numbered.{length_load}

-- ---- 20 and 21
pub record InRange (seed n : ℕ) : Type 0 where
  pub seeded : seed ≡ 0 → ⊥
  pub enough : 3 ≤ n
  pub few : n ≤ 256

pub in_range : (seed n : ℕ) → refusal (load_tests seed n) ≡ 0 → InRange seed n
in_range seed n e = go (none_applies (load_tests seed n) tt e)
  where
    both : (x y : Bool) → T (not (x || y)) → (x ≡ false) × (y ≡ false)
    both true y h = absurd h
    both false true h = absurd h
    both false false h = (refl, refl)

    go : All Passes (load_tests seed n) → InRange seed n
    go (cons p (cons q nil)) =
        let z = both (ltb n 3) (ltb 256 n) q in
        record {
          seeded = λ s. absurd (subst (λ (k : ℕ). T (not (eqb k 0))) s p);
          enough = ltb-false n 3 z.0;
          few = ltb-false 256 n z.1;
        }

-- ---- the answer, and the space
module _ (seed n : ℕ) (given : List ℕ) where
  pub load_refused :
      {e : Refusal} → refusal_number e ≡ refusal (load_tests seed n) → LoadWritten (load_answer seed n) given (Err e) given
  unfolding load_answer
  load_refused {e} why = rw (← why) (go (refusal_number e) (above_zero e) refl)
    where
      go : (k : ℕ) → (k ≡ 0 → ⊥) → refusal_number e ≡ k → LoadWritten (reply k (load seed n)) given (Err e) given
      go zero h same = absurd (h refl)
      go (suc k) h same = record { told_of = ap turned_down same; space = refl }

  pub load_answered :
      {after : List ℕ} {r : ℕ} → 0 ≡ refusal (load_tests seed n) → Prints (load seed n) given after r
      → LoadWritten (load_answer seed n) given (Ok r) after
  unfolding load_answer
  load_answered none put = rw (← none) (record { told_of = ap value put.count; space = put.front })

-- ---- what is printed
-- the first m bytes of the space are the load
pub record Front (seed n : ℕ) (after : List ℕ) (m : ℕ) : Type 0 where
  pub loaded : load_answer seed n ≡ value (load seed n)
  pub front : take m after ≡ load seed n
  pub within : m ≤ length after
  pub room : length (bytes_line (take m after)) ≤ 23121

same_value : {A : Type 0} {x y : A} → value x ≡ value y → x ≡ y
same_value e = cc

never : {m k : ℕ} → value m ≡ turned_down k → ⊥
never e = let z : ◌≡◌ {A = ℕ} 0 1 = cc in omega arith

same_number : {j k : ℕ} → ◌≡◌ {A = Reply ℕ} (turned_down j) (turned_down k) → j ≡ k
same_number e = cc

module _ (seed n : ℕ) (given : List ℕ) {after : List ℕ} where
  pub front_of_lem : {r : Result ℕ Refusal} {m : ℕ} → LoadWritten (load_answer seed n) given r after → r ≡ Ok m → Front seed n after m
  unfolding load_answer
  front_of_lem {r} {m} w is =
      go (refusal (load_tests seed n)) refl (subst (λ (x : Result ℕ Refusal). LoadWritten (load_answer seed n) given x after) is w)
    where
      go :
          (k : ℕ) → refusal (load_tests seed n) ≡ k → LoadWritten (reply k (load seed n)) given (Ok m) after
          → Front seed n after m
      go zero e w =
          let size : m ≡ length (load seed n) = same_value w.told_of in
          let range = in_range seed n e in
          let all : take m after ≡ load seed n =
          ap (take m) w.space ∙ take_at (load seed n) (drop (length (load seed n)) given) m (sym size) in
          record {
            loaded = rw e;
            front = all;
            within = rw w.space (omega (arith, size, length-append (load seed n) (drop (length (load seed n)) given)));
            room = rw all (omega (arith, length_bytes_line (load seed n), length_load seed n, range.few));
          }
      go (suc k) e w = absurd (never w.told_of)

  pub refused_of :
      {r : Result ℕ Refusal} {e : Refusal} → LoadWritten (load_answer seed n) given r after → r ≡ Err e
      → load_answer seed n ≡ turned_down (refusal_number e)
  unfolding load_answer
  refused_of {r} {e} w is =
      go (refusal (load_tests seed n)) (subst (λ (x : Result ℕ Refusal). LoadWritten (load_answer seed n) given x after) is w)
    where
      go : (j : ℕ) → LoadWritten (reply j (load seed n)) given (Err e) after → reply j (load seed n) ≡ turned_down (refusal_number e)
      go zero w = absurd (never (sym w.told_of))
      go (suc j) w = ap turned_down (sym (same_number w.told_of))

pub bytes_printed :
    (seed n : ℕ) {space text after : List ℕ} {m r : ℕ} → Front seed n space m → length text ≡ 23121
    → Written text 0 (bytes_line (take m space)) after r → Prints (load_text (load_answer seed n)) text after r
bytes_printed seed n f size written =
    rw (f.loaded, ← f.front) (front_written written (omega (arith, f.room, size)))

-- of the seed and the count that were read
pub asked_printed :
    {s t m n : ℕ} {text after : List ℕ} {r : ℕ} → s ≡ t → m ≡ n → Prints (load_text (load_answer s m)) text after r
    → Prints (load_text (load_answer t n)) text after r
asked_printed {s} {t} {m} {n} {text} {after} {r} seed count p =
    subst (λ (l : List ℕ). Prints l text after r) (ap₂ (λ (x y : ℕ). load_text (load_answer x y)) seed count) p

pub refusal_room : {room : ℕ} (k : ℕ) → k < 2 ^ 32 → room ≡ 23121 → length (refused_line k) ≤ room
refusal_room k h size = omega (arith, length_refused_line k h)

pub refusal_printed :
    (seed n k : ℕ) {text after : List ℕ} {r : ℕ} → load_answer seed n ≡ turned_down k → k < 2 ^ 32 → length text ≡ 23121
    → Written text 0 (refused_line k) after r → Prints (load_text (load_answer seed n)) text after r
refusal_printed seed n k e h size written = rw e (front_written written (refusal_room k h size))
