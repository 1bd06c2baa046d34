-- A number other than 0 is the answer; what is shown of the answer holds of a result that equals it. By cases of the number.
use Prim.Native.Nat.{ℕ, zero, suc}
use mathlib.Core.Path.{◌≡◌, refl, ap, sym, subst, ◌∙◌}
use Rattle.section.specs.declared.shapes.Refusal.{Refusal}
use Rattle.section.specs.profile.Numbers.{refusal_number}
use Rattle.section.specs.profile.Replies.{Reply, value, turned_down, reply, mapped, OfValue, Answers}
use Rattle.section.proofs.profile.Numbered.{above_zero}

pub refused : {A : Type 0} (n : ℕ) (a : A) → (n ≡ 0 → ⊥) → turned_down n ≡ reply n a
refused zero a k = absurd (k refl)
refused (suc n) a k = refl

-- a call that is turned down, and one that gives the value
pub refused_answer : {A : Type 0} (e : Refusal) {n : ℕ} (a : A) → refusal_number e ≡ n → turned_down (refusal_number e) ≡ reply n a
refused_answer e a h = rw (← h) (refused _ a (above_zero e))

pub value_answer : {A : Type 0} {n : ℕ} {v a : A} → 0 ≡ n → v ≡ a → value v ≡ reply n a
value_answer h e = rw (← h, e)

pub of_reply : {A : Type 0} (P : A → Type 0) (n : ℕ) (a : A) → (n ≡ 0 → P a) → OfValue P (reply n a)
of_reply P zero a f = f refl
of_reply P (suc n) a f = tt

pub answered : {A : Type 0} (P : A → Type 0) {r answer : Reply A} → OfValue P answer → r ≡ answer → Answers r answer P
answered {A} P d e = record { equal = e; owed = subst (λ (x : Reply A). OfValue P x) (sym e) d }

-- what is owed of a value is owed of it if something stronger is
pub owed : {A : Type 0} (P Q : A → Type 0) → ((a : A) → P a → Q a) → (r : Reply A) → OfValue P r → OfValue Q r
owed P Q f (value a) p = f a p
owed P Q f (turned_down n) p = tt

-- an answer that is another one's, with its value changed
pub mapped_reply : {A B : Type 0} (f : A → B) (n : ℕ) (a : A) → mapped f (reply n a) ≡ reply n (f a)
mapped_reply f zero a = refl
mapped_reply f (suc n) a = refl

mapped_owed : {A B : Type 0} (P : A → Type 0) (Q : B → Type 0) (f : A → B) → ((a : A) → P a → Q (f a)) → (r : Reply A)
    → OfValue P r → OfValue Q (mapped f r)
mapped_owed P Q f g (value a) p = g a p
mapped_owed P Q f g (turned_down n) p = tt

pub mapped_answers : {A B : Type 0} (P : A → Type 0) (Q : B → Type 0) (f : A → B) → ((a : A) → P a → Q (f a))
    → {r answer : Reply A} {r' : Reply B} → Answers r answer P → r' ≡ mapped f r → Answers r' (mapped f answer) Q
mapped_answers {A} {B} P Q f g {r = r} a e = record {
  equal = e ∙ ap (mapped f) a.equal;
  owed = subst (λ (x : Reply B). OfValue Q x) (sym e) (mapped_owed P Q f g r a.owed);
}
