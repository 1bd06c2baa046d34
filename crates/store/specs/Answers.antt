-- What reading a store answers: it is accepted, or refused with the number under which it is turned down and the record K.
use Rattle.std.specs.Prelude.{ℕ, Result, Ok, Err}
use Rattle.section.specs.profile.Numbers.{refusal_number}
use Rattle.store.specs.declared.answers.RefusedStore.{RefusedStore}

pub data StoreAnswer : Type 0 where
  Accepted : StoreAnswer
  Refused : ℕ → ℕ → StoreAnswer

-- what a result stands for
abbrev pub told : {A : Type 0} → Result A RefusedStore → StoreAnswer
told (Ok a) = Accepted
told (Err e) = Refused (refusal_number e.refusal) e.at
