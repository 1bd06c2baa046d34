-- What an answer gives the caller, an equal answer gives.
use Prim.Native.Nat.{ℕ, zero, suc}
use mathlib.Core.Path.{◌≡◌, refl, subst, sym}
use Rattle.section.specs.declared.shapes.Refusal.{Refusal}
use Rattle.section.specs.profile.Numbers.{refusal_number}
use Rattle.section.specs.profile.Replies.{Reply, value, turned_down, OfValue, Answers}
use Rattle.section.proofs.profile.Numbered.{above_zero}
use Rattle.section.proofs.profile.Replies.{owed}
use Rattle.walk.specs.declared.shapes.CountedHit.{CountedHit}
use Rattle.bodies.specs.pairs.Pairs.{Won}
use Rattle.capi.specs.handing.Interface.{Gives, Measures, Places, Counts, CylinderPlaces}
use Rattle.capi.specs.handing.Interface.{or_else_reply, hit_counts, both, cylinder_places, mark}
use Rattle.capi.specs.handing.Pairs.{PairPlaces, pair_places, won_places}

module _ {A B : Type 0} {fields : A → B} {a b : Reply A} {n : ℕ} {held end : B} where
  pub gives : a ≡ b → Gives fields a n held end → Gives fields b n held end
  gives e g = subst (λ (x : Reply A). Gives fields x n held end) e g

  pub measures : {P : A → Type 0} → Answers a b P → Gives fields a n held end → Measures P fields b n held end
  measures {P = P} e g =
      record { gives = gives e.equal g; owed = subst (λ (x : Reply A). OfValue P x) e.equal e.owed }

-- what a query's promise comes to is owed of its answer
pub owes : {A : Type 0} {a b : Reply A} {P Q : A → Type 0} → ((x : A) → P x → Q x) → Answers a b P → OfValue Q a
owes {a = a} {P = P} {Q = Q} f e = owed P Q f a e.owed

-- a number of the interface's own is the answer; without one it is the call's
module _ {A : Type 0} {P : A → Type 0} where
  pub own_refused : (e : Refusal) {n : ℕ} (answer : Reply A) → refusal_number e ≡ n
      → Answers (turned_down (refusal_number e)) (or_else_reply n answer) P
  own_refused e answer h = rw (← h) (go (refusal_number e) (above_zero e))
    where
      go : (n : ℕ) → (n ≡ 0 → ⊥) → Answers (turned_down n) (or_else_reply n answer) P
      go zero k = absurd (k refl)
      go (suc n) k = record { equal = refl; owed = tt }

  pub own_taken : {n : ℕ} {r answer : Reply A} → 0 ≡ n → Answers r answer P → Answers r (or_else_reply n answer) P
  own_taken h a = rw (← h) a

-- so that nothing that was lent changes, or the call's answer is given
module _ {A B : Type 0} {P : A → Type 0} {fields : A → B} {held : B} where
  pub body_refused : (n : ℕ) (answer : Reply A) → (n ≡ 0 → ⊥) → Measures P fields (or_else_reply n answer) n held held
  body_refused zero answer k = absurd (k refl)
  body_refused (suc n) answer k = record { gives = record { returned = refl; lent = refl }; owed = tt }

  pub body_taken : {answer : Reply A} {r : ℕ} {end : B} (n : ℕ) → n ≡ 0 → Measures P fields answer r held end
      → Measures P fields (or_else_reply n answer) r held end
  body_taken n z m = rw z m

-- a cylinder's hit in the lent places: those of its part without counts, and its counts
pub walked : {A C D : Type 0} (part : A → C) (fields : C → D) (counted : A → CountedHit) {a : Reply A} {h : A} {n : ℕ} {p q : D}
    {c : Counts} {held : CylinderPlaces D} → a ≡ value h → Gives fields (value (part h)) n p q → c ≡ hit_counts (counted h)
    → Gives (λ (x : A). both (fields (part x)) (hit_counts (counted x))) a n held (both q c)
walked part fields counted e g k = gives (sym e) (record { returned = g.returned; lent = rw (g.lent, k) })

-- a pair's: the winner's, and the winner
pub won_given : {a : Reply Won} {w : Won} {n k : ℕ} {p q : CylinderPlaces Places} {held : PairPlaces} → a ≡ value w
    → Gives cylinder_places (value w.counted) n p q → k ≡ mark w.work → Gives won_places a n held (pair_places k q)
won_given e g f = record { returned = rw e g.returned; lent = rw (e, g.lent, f) }
