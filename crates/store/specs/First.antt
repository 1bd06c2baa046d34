-- The first record of which a test is true.
use Rattle.std.specs.Prelude.{ℕ, Bool, cond, List, [], ◌∷◌}
use Rattle.store.specs.Answers.{StoreAnswer, Accepted, Refused}

-- number n with the first record of which the test is true, in the order of the list
unfoldable pub first_refused : ℕ → (ℕ → Bool) → List ℕ → StoreAnswer
first_refused n test [] = Accepted
first_refused n test (k ∷ ks) = cond (test k) (Refused n k) (first_refused n test ks)
