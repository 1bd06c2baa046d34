-- What the functions behind the entry points promise each other.
use Rattle.std.specs.Prelude.{ℕ, ◌+◌, ◌≡◌, List, length}
use Rattle.std.proofs.lemmas.List.Edits.{sets}

-- t stands at place `at`, all else is as it was, and r is the place behind it
pub record Written (before : List ℕ) (at : ℕ) (t after : List ℕ) (r : ℕ) : Type 0 where
  pub text : after ≡ sets before at t
  pub end : r ≡ at + length t
