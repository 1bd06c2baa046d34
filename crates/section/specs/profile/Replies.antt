-- What a call answers: a value, or the number under which it is turned down.
use Rattle.std.specs.Prelude.{ℕ, zero, suc, ◌≡◌, Result, Ok, Err}
use Rattle.section.specs.declared.shapes.Refusal.{Refusal}
use Rattle.section.specs.profile.Numbers.{refusal_number}

pub data Reply (A : Type 0) : Type 0 where
  value : A → Reply A
  turned_down : ℕ → Reply A

-- what a result stands for
abbrev pub told : {A : Type 0} → Result A Refusal → Reply A
told (Ok a) = value a
told (Err e) = turned_down (refusal_number e)

-- the number if there is one, and otherwise the value
abbrev pub reply : {A : Type 0} → ℕ → A → Reply A
reply zero a = value a
reply (suc n) a = turned_down (suc n)

-- the same of a value
abbrev pub mapped : {A B : Type 0} → (A → B) → Reply A → Reply B
mapped f (value a) = value (f a)
mapped f (turned_down n) = turned_down n

-- a value has it; a refusal owes nothing
abbrev pub OfValue : {A : Type 0} → (A → Type 0) → Reply A → Type 0
OfValue P (value a) = P a
OfValue P (turned_down n) = Unit {0}

-- What a call promises of its answer r: it is the definition's, and P holds of its value.
pub record Answers {A : Type 0} (r answer : Reply A) (P : A → Type 0) : Type 0 where
  pub equal : r ≡ answer
  pub owed : OfValue P r
