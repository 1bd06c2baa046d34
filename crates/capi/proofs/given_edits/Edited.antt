-- An edit of 40 bytes is what the editor makes of it; of another count it is turned down, and nothing changes.
use Prim.Native.Nat.{ℕ}
use mathlib.Core.List.{List}
use mathlib.Core.Path.{◌≡◌, refl, sym, ap, subst, ◌∙◌}
use lib.ListN.{length}
use Rattle.std.specs.Prelude.{Result}
use borrow.Author.Tests.{eq-eqb, ne_eqb}
use Rattle.section.specs.profile.Refusals.{refusal}
use Rattle.section.specs.profile.Replies.{Reply, told}
use Rattle.section.specs.declared.shapes.Refusal.{Refusal}
use Rattle.store.specs.edits.Written.{written}
use Rattle.store.specs.edits.Edits.{edit_answer, kept, space_after, Edited}
use Rattle.store.specs.declared.edits.shapes.Role.{Role}
use Rattle.store.specs.declared.edits.shapes.Place.{Place}
use Rattle.capi.specs.handing.Interface.{Gives}
use Rattle.capi.specs.given_edits.Editing.{role_of, edit_of, EditsSpace}
use Rattle.capi.proofs.handing.Same.{gives}

module _ (s : List ℕ) (n role : ℕ) (place : Place) (bytes : List ℕ) {held : ℕ} where
  pub edit_done :
      {who : Role} {given : List ℕ} {a : Result ℕ Refusal} {after : List ℕ} {r end : ℕ} → length bytes ≡ 40 → who ≡ role_of role
      → given ≡ bytes → Edited s n who place given a after → Gives (λ (k : ℕ). k) (told a) r held end
      → EditsSpace (edit_of s n role place bytes) (written s n place bytes) r s after held end
  unfolding edit_of refusal space_after
  edit_done {who} {given} {a} {after} forty is same done g =
      record {
        gives = gives (e.answer ∙ sym taken) g;
        space_place = e.space ∙ ap (λ (x : Reply ℕ). kept x (written s n place bytes) s) (sym taken);
      }
    where
      e : Edited s n (role_of role) place bytes a after
      e = subst (λ (l : List ℕ). Edited s n (role_of role) place l a after) same
          (subst (λ (w : Role). Edited s n w place given a after) is done)

      taken : edit_of s n role place bytes ≡ edit_answer s n (role_of role) place bytes
      taken = rw (eq-eqb (length bytes) 40 forty)

  pub edit_refused :
      (length bytes ≡ 40 → ⊥) → EditsSpace (edit_of s n role place bytes) (written s n place bytes) 12 s s held held
  unfolding edit_of refusal
  edit_refused other =
      rw (ne_eqb (length bytes) 40 other) (record { gives = record { returned = refl; lent = refl }; space_place = refl })
