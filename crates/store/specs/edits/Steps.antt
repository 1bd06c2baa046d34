-- What the functions behind the entry point ask of each other and promise.
use Rattle.std.specs.Prelude.{ℕ, ◌<◌, Bool, true, false, List, ◌≡◌, get_or, Result}
use Rattle.std.proofs.lemmas.List.Edits.{sets}
use Rattle.section.specs.declared.shapes.Refusal.{Refusal}
use Rattle.section.specs.profile.Replies.{value, told}
use Rattle.store.specs.Chain.{member}
use Rattle.store.specs.edits.Edits.{space_answer, unless, kept}

-- records below 512
pub record Small (ks : List ℕ) : Type 0 where
  pub small : (k : ℕ) → member k ks ≡ true → k < 512

-- a record has its mark where the list holds it, and only there
pub record Marked (ks : List ℕ) (marks : List Bool) : Type 0 where
  pub marked : (m : ℕ) → m < 512 → get_or marks m false ≡ member m ks

-- the word stands at place `at`, all else is as it was
pub record Put (before : List ℕ) (at : ℕ) (word after : List ℕ) : Type 0 where
  pub bytes : after ≡ sets before at word

-- the trial, with a store of n bytes, is judged, and kept if it is accepted
pub record Tried (s trial : List ℕ) (n : ℕ) (r : Result ℕ Refusal) (after : List ℕ) : Type 0 where
  pub answer : told r ≡ unless (space_answer trial n) (value n)
  pub bytes : after ≡ kept (told r) trial s
