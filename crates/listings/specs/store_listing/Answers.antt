-- What listing a store answers: how many bytes the listing has, or the number under which the store is turned down and the record K.
use Rattle.std.specs.Prelude.{ℕ, Result, Ok, Err}
use Rattle.section.specs.profile.Numbers.{refusal_number}
use Rattle.store.specs.declared.answers.RefusedStore.{RefusedStore}

pub data ListAnswer : Type 0 where
  Bytes : ℕ → ListAnswer
  NotListed : ℕ → ℕ → ListAnswer

-- what a result stands for
abbrev pub told : Result ℕ RefusedStore → ListAnswer
told (Ok n) = Bytes n
told (Err e) = NotListed (refusal_number e.refusal) e.at
