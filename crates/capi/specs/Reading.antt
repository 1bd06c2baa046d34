-- The verdict on a store: its record is written exactly where the store is refused.
use Rattle.std.specs.Prelude.{ℕ, ◌≡◌}
use Rattle.store.specs.Answers.{StoreAnswer, Accepted, Refused}

abbrev pub store_number : StoreAnswer → ℕ
store_number Accepted = 0
store_number (Refused n k) = n

-- what the record's place holds at the end, which held this
abbrev pub record_after : StoreAnswer → ℕ → ℕ
record_after Accepted held = held
record_after (Refused n k) held = k

pub record ReadsStore (answer : StoreAnswer) (n held end : ℕ) : Type 0 where
  pub returned : n ≡ store_number answer
  pub record_place : end ≡ record_after answer held
