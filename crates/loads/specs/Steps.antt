-- What the functions behind the entry points promise each other.
use Rattle.std.specs.Prelude.{ℕ, ◌≡◌, List}
use Rattle.std.proofs.lemmas.List.Edits.{sets}

-- t stands at place `at`, all else is as it was, and r is the state that the drawing ends with
pub record Drawn (before : List ℕ) (at : ℕ) (t after : List ℕ) (state r : ℕ) : Type 0 where
  pub text : after ≡ sets before at t
  pub end : r ≡ state
