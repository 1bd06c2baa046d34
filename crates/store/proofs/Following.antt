-- Following the chain one record a turn: what the array of marks says is what the definition's list of passed
-- records says.
use Prim.Native.Nat.{ℕ, suc, ◌+◌, ◌-◌, ◌<◌, ◌≤◌}
use native.Mathlib.Nat.{sub-zero}
use native.Mathlib.Numerals.{add-one}
use native.Mathlib.Omega.{arith}
use mathlib.Core.Bool.{Bool, true, false, ◌||◌, cond, or-true, or-false, or_assoc}
use mathlib.Core.List.{List, [], ◌∷◌, ◌++◌}
use mathlib.Core.Path.{◌≡◌, refl, sym, ap, ◌∙◌}
use lib.ListN.{length, take, get_or, set, length-set, replicate, length-replicate, get_or-replicate}
use lib.Seq.{get_or-set_same, get_or-set_other, take-suc-set}
use lib.Dec.{eqb, leb}
use borrow.Author.Tests.{eq-eqb, ne_eqb, eqb-true, eqb-false, leb-false}
use Rattle.std.specs.Prelude.{Ok, Err}
use Rattle.section.specs.declared.shapes.Refusal.TheVariants.{BadLink}
use Rattle.section.specs.profile.Refusals.{any_of}
use Rattle.store.specs.Records.{records, next}
use Rattle.store.specs.Chain.{Chain, whole, broken, member, follow, chain, in_order}
use Rattle.store.specs.Store.{links_answer}
use Rattle.store.specs.Steps.{ChainRoom, Visits, Fills}
use Rattle.store.proofs.Filling.{fills_front, fills_refused}

-- n records are passed, in order, each with its mark, and record k is next
pub record Following (b order : List ℕ) (marks : List Bool) (k n : ℕ) : Type 0 where
  pub places : length order ≡ 512
  pub room : length marks ≡ 512
  pub most : records b ≤ 512
  pub passed : n ≤ records b
  pub here : k < records b
  pub marked : (m : ℕ) → m < 512 → get_or marks m false ≡ member m (take n order)
  pub follows : chain b ≡ follow b (records b - n) (take n order) k

pub member_snoc : (m k : ℕ) (l : List ℕ) → member m (l ++ (k ∷ [])) ≡ (member m l || eqb m k)
unfolding any_of
member_snoc m k [] = or-false (eqb m k)
member_snoc m k (x ∷ l) = rw (member_snoc m k l, or_assoc)

-- record k gets its mark
pub marked_more :
    (marks : List Bool) (l : List ℕ) (k m : ℕ) → k < length marks → get_or marks m false ≡ member m l
    → get_or (set marks k true) m false ≡ member m (l ++ (k ∷ []))
marked_more marks l k m h old = go (eqb m k) refl
  where
    go : (same : Bool) → eqb m k ≡ same → get_or (set marks k true) m false ≡ member m (l ++ (k ∷ []))
    go true e =
        ap (λ (j : ℕ). get_or (set marks k true) j false) (eqb-true m k e) ∙ get_or-set_same marks k true false h
        ∙ sym (member_snoc m k l ∙ ap (λ (t : Bool). member m l || t) e ∙ or-true (member m l))
    go false e =
        get_or-set_other marks k m true false (eqb-false m k e) ∙ old
        ∙ sym (member_snoc m k l ∙ ap (λ (t : Bool). member m l || t) e ∙ or-false (member m l))

first_false : (a b : Bool) → (a || b) ≡ false → a ≡ false
first_false true b e = e
first_false false b e = refl

pub starts : {b order : List ℕ} → ChainRoom b order → Following b order (replicate 512 false) 0 0
unfolding chain any_of
starts h =
    record {
      places = h.room;
      room = length-replicate 512 false;
      most = h.most;
      passed = omega arith;
      here = omega arith;
      marked = λ m small. get_or-replicate 512 m false false small;
      follows = rw sub-zero;
    }

module _
    {b order : List ℕ} {marks marks' : List Bool} {k n m : ℕ} (now : Following b order marks k n) (more : n < records b)
    (seen : Visits b k marks marks' m)
  where
    order_now : take (n + 1) (set order n k) ≡ take n order ++ (k ∷ [])
    order_now = rw add-one (take-suc-set order n k (omega arith))

    marked_now : (j : ℕ) → j < 512 → get_or marks' j false ≡ member j (take n order ++ (k ∷ []))
    marked_now j h = rw seen.marked (marked_more marks (take n order) k j (omega arith) (now.marked j h))

    -- the test by marks is the definition's
    same_test : (j : ℕ) (past : Bool) → leb (records b) j ≡ past
        → (past || member j (take n order ++ (k ∷ []))) ≡ (past || get_or marks' j false)
    same_test j true e = refl
    same_test j false e = sym (marked_now j (let h : j < records b = leb-false (records b) j e in omega arith))

    -- the turn's two tests, and where they lead
    one_turn :
        chain b
        ≡ cond (eqb m 0) (whole (take (n + 1) (set order n k)))
        (cond (leb (records b) m || get_or marks' m false) (broken k)
        (follow b (records b - (n + 1)) (take (n + 1) (set order n k)) m))
    unfolding follow
    one_turn =
        now.follows
        ∙ rw (left, seen.read, same_test (next b k) (leb (records b) (next b k)) refl, order_now)
      where
        left : records b - n ≡ suc (records b - (n + 1))
        left = omega arith

    pub turn_ends : m ≡ 0 → chain b ≡ whole (take (n + 1) (set order n k))
    turn_ends e = one_turn ∙ rw (eq-eqb m 0 e)

    module _ (more_left : m ≡ 0 → ⊥) {bad : Bool} (tested : bad ≡ (leb (records b) m || get_or marks' m false)) where
      second_test : chain b ≡ cond bad (broken k) (follow b (records b - (n + 1)) (take (n + 1) (set order n k)) m)
      second_test = one_turn ∙ rw (ne_eqb m 0 more_left, ← tested)

      pub turn_breaks : bad ≡ true → chain b ≡ broken k
      turn_breaks e = second_test ∙ rw e

      pub turn_goes_on : bad ≡ false → Following b (set order n k) marks' m (n + 1)
      turn_goes_on e =
          record {
            places = length-set order n k ∙ now.places;
            room = ap length seen.marked ∙ length-set marks k true ∙ now.room;
            most = now.most;
            passed = omega arith;
            here = leb-false (records b) m (first_false _ _ (sym tested ∙ e));
            marked = λ j h. rw order_now (marked_now j h);
            follows = second_test ∙ rw e;
          }

-- the store has no record left to pass: never so, and answered as the definition does
pub used_up :
    {b order : List ℕ} {marks : List Bool} {k n : ℕ} → Following b order marks k n → records b ≤ n → chain b ≡ broken k
unfolding follow
used_up {b} {order} {marks} {k} {n} now h = now.follows ∙ ap (λ (left : ℕ). follow b left (take n order) k) none
  where
    none : records b - n ≡ 0
    none = omega arith

-- what the answer says of the array
module _ {c : Chain} {order : List ℕ} where
  pub ended : {n : ℕ} → c ≡ whole (take n order) → n ≤ 512 → Fills (links_answer c) (in_order c) (Ok n) order
  ended e h = rw e (fills_front refl refl h)

  pub stopped : {k : ℕ} → c ≡ broken k → Fills (links_answer c) (in_order c) (Err (record { refusal = BadLink; at = k })) order
  stopped e = rw e (fills_refused refl)
