-- An edit as C gives it: 12 where its bytes are not 40, before all else; role 1 is the setter, any other number the operator.
use Rattle.std.specs.Prelude.{ℕ, not, cond, List, [], ◌∷◌, ◌≡◌, eqb, length}
use Rattle.section.specs.profile.Refusals.{Test, ◌when◌, refusal}
use Rattle.section.specs.profile.Replies.{Reply}
use Rattle.store.specs.edits.Edits.{edit_answer, kept}
use Rattle.store.specs.declared.edits.shapes.Role.{Role}
use Rattle.store.specs.declared.edits.shapes.Role.TheVariants.{Setter, Operator}
use Rattle.store.specs.declared.edits.shapes.Place.{Place}
use Rattle.capi.specs.handing.Interface.{Gives, or_else_reply}

abbrev pub role_of : ℕ → Role
role_of role = cond (eqb role 1) Setter Operator

abbrev pub bytes_tests : List ℕ → List Test
bytes_tests bytes = (12 when not (eqb (length bytes) 40)) ∷ []

-- of the space s with a store of n bytes at its front
unfoldable pub edit_of : List ℕ → ℕ → ℕ → Place → List ℕ → Reply ℕ
edit_of s n role place bytes = or_else_reply (refusal (bytes_tests bytes)) (edit_answer s n (role_of role) place bytes)

-- an edit, which hands back what it wrote in the space, and the length afterwards in a place of its own
pub record EditsSpace (answer : Reply ℕ) (written : List ℕ) (n : ℕ) (space₀ space : List ℕ) (length₀ length₁ : ℕ) : Type 0 where
  pub gives : Gives (λ (k : ℕ). k) answer n length₀ length₁
  pub space_place : space ≡ kept answer written space₀
