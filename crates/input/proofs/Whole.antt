-- An input that is read to its end into a buffer, as far as the buffer reaches; and what a program writes that prints of the buffer.
use Prim.Native.Nat.{ℕ, suc, ◌-◌, ◌<◌, ◌≤◌, ◌^◌}
use native.Mathlib.Omega.{arith}
use mathlib.Core.List.{List, [], ◌∷◌, ◌++◌, append-nil}
use mathlib.Core.Path.{◌≡◌, refl, sym, ap, subst, ◌∙◌}
use lib.ListN.{length, take, set, length-append}
use lib.Seq.{sets, take_at, take-nil}
use Rattle.std.specs.Prelude.{Option, None, Some, Result, Ok, Err, OnOk, IfSome}
use Rattle.std.specs.Io.KnownBytes.{Appends, IsAtEnd}
use Rattle.listings.specs.store_listing.Listing.{Prints}
use Rattle.input.specs.Input.{ReadsOn}

sets_empty : (i : ℕ) (xs : List ℕ) → sets [] i xs ≡ []
sets_empty i [] = refl
sets_empty i (x ∷ xs) = sets_empty (suc i) xs

sets_behind : (y : ℕ) (l : List ℕ) (i : ℕ) (xs : List ℕ) → sets (y ∷ l) (suc i) xs ≡ y ∷ sets l i xs
sets_behind y l i [] = refl
sets_behind y l i (x ∷ xs) = sets_behind y (set l i x) (suc i) xs

-- what is stored from the front on stands there, as far as the list reaches
same_front : (l xs : List ℕ) → take (length l) xs ≡ take (length xs) (sets l 0 xs)
same_front l [] = take-nil (length l)
same_front [] (x ∷ xs) = sym (ap (take (suc (length xs))) (sets_empty 1 xs))
same_front (y ∷ l) (x ∷ xs) =
    ap (λ (k : List ℕ). x ∷ k) (same_front l xs) ∙ sym (ap (take (suc (length xs))) (sets_behind x l 0 xs))

-- all of it is counted, and stands in the buffer as far as that reaches
pub record IsWhole (before xs after : List ℕ) (r : ℕ) : Type 0 where
  pub count : r ≡ length xs
  pub front : take (length before) xs ≡ take (length xs) after

pub read_whole :
    (before after xs : List ℕ) (r most : ℕ) (left : Option (List ℕ)) → ReadsOn before 0 after r (Some xs) left
    → (r < most → IsAtEnd left) → length xs < most → IsWhole before xs after r
read_whole before after xs r most None read ended few = elim read.taken [ ]
read_whole before after xs r most (Some ys) read ended few =
    let came = read.came in
    let short : length came ≤ length xs = omega (arith, ap length read.taken, length-append came ys) in
    let last : ys ≡ [] = ended (omega (arith, read.kept.end, short, few)) in
    let same : xs ≡ came = read.taken ∙ ap (λ (l : List ℕ). came ++ l) last ∙ append-nil came in
    record {
      count = omega (arith, read.kept.end, ap length same);
      front = rw (same, read.kept.text) (same_front before came);
    }

front_of_text : {l given text : List ℕ} {n : ℕ} → Prints l given text n → take n text ≡ l
front_of_text {l} p = rw (p.front, p.count) (take_at l _ (length l) refl)

-- Of an input that is known, what is printed of a buffer of this size, `own`, is what is printed of all the input, `all`; so that is
-- written.
module _ (size : ℕ) (own : ℕ → List ℕ → List ℕ) (all : List ℕ → List ℕ)
    (same : (after xs : List ℕ) → length after ≡ size → take size xs ≡ take (length xs) after → own (length xs) after ≡ all xs) where
  pub whole_written :
      {A E : Type 0} (had left old new : Option (List ℕ)) (buffer after given text : List ℕ) (r n : ℕ) (result : Result A E)
      → length buffer ≡ size → length after ≡ size → ReadsOn buffer 0 after r had left → (r < 2 ^ 64 - 1 → IsAtEnd left)
      → Prints (own r after) given text n → OnOk result (Appends old new (take n text))
      → OnOk result (IfSome had (λ xs. length xs < 2 ^ 64 - 1 → Appends old new (all xs)))
  whole_written had left old new buffer after given text r n (Err e) room room' read ended prints written = tt
  whole_written None left old new buffer after given text r n (Ok x) room room' read ended prints written = tt
  whole_written (Some xs) left old new buffer after given text r n (Ok x) room room' read ended prints written = λ few.
      let whole = read_whole buffer after xs r (2 ^ 64 - 1) left read ended few in
      let front : take size xs ≡ take (length xs) after = ap (λ (k : ℕ). take k xs) (sym room) ∙ whole.front in
      let e : own r after ≡ all xs = ap (λ (k : ℕ). own k after) whole.count ∙ same after xs room' front in
      subst (Appends old new) (front_of_text prints ∙ e) written
