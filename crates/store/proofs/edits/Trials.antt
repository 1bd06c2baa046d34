-- What a trial becomes by what is put into it, and what the judged trial gives.
use Prim.Native.Nat.{ℕ, ◌+◌, ◌-◌, ◌*◌, ◌≤◌}
use native.Mathlib.Nat.{zero-add}
use native.Mathlib.Omega.{arith}
use mathlib.Core.List.{List, ◌++◌, append_assoc, append-nil}
use mathlib.Core.Path.{◌≡◌, refl, sym, ap, ap₂, subst, ◌∙◌}
use lib.ListN.{length, take, drop}
use borrow.Rule.Slice.PartMut.{put_mid, Post-is}
use lib.Seq.{sets, sets-eq, drop-length}
use Rattle.std.specs.Prelude.{Result, Ok, Err}
use Rattle.section.specs.declared.shapes.Refusal.{Refusal}
use Rattle.section.specs.profile.Numbers.{refusal_number}
use Rattle.store.specs.Chain.{chain}
use Rattle.store.specs.Store.{and_then, length_answer, links_answer}
use Rattle.store.specs.Answers.{Accepted, Refused}
use Rattle.store.proofs.Reading.{refused_first}
use Rattle.store.specs.edits.Written.{next_bytes, ending, appended}
use Rattle.store.specs.edits.Edits.{space_answer}
use Rattle.store.specs.edits.Steps.{Put, Tried}
use Rattle.store.proofs.edits.Good.{good}

never : {n k : ℕ} → Refused n k ≡ Accepted → ⊥
never e = let z : ◌≡◌ {A = ℕ} 0 1 = cc in omega arith

-- the links of an accepted store are not refused
pub links_accepted :
    (s : List ℕ) (n : ℕ) {i k : ℕ} → space_answer s n ≡ Accepted
    → and_then (length_answer (length (take n s))) (links_answer (chain (take n s))) ≡ Refused i k → ⊥
links_accepted s n right e = never (sym (refused_first (take n s) e) ∙ (good s n right).accepted)

-- a word in the place of as many bytes
pub put_whole :
    {l w : List ℕ} {at : ℕ} → at + length w ≤ length l → Put l at w (put_mid at (at + length w - at) l w)
put_whole {l} {w} {at} room =
    record {
      bytes =
          ap (λ (rest : List ℕ). take at l ++ (w ++ rest)) (Post-is at (at + length w) l (omega arith))
          ∙ sym (append_assoc (take at l) w (drop (at + length w) l)) ∙ sym (sets-eq w l at room);
    }

-- a word over all of a list
pub copied : {before t after : List ℕ} → Put before 0 t after → length before ≡ length t → after ≡ t
copied {before} {t} w e =
    w.bytes ∙ sets-eq t before 0 (rw zero-add (omega arith)) ∙ rw (zero-add, ← e, drop-length, append-nil t)

-- the trial is refused, or becomes the space
module _ {s trial : List ℕ} {n : ℕ} where
  pub trial_refused :
      {e : Refusal} {k : ℕ} → space_answer trial n ≡ Refused (refusal_number e) k → Tried s trial n (Err e) s
  trial_refused e = record { answer = rw e; bytes = refl }

  pub trial_kept : {after : List ℕ} → space_answer trial n ≡ Accepted → after ≡ trial → Tried s trial n (Ok n) after
  trial_kept e same = record { answer = rw e; bytes = same }

-- the trial is a copy of the space with the edit's bytes in it
module _ {s t₀ t₁ after : List ℕ} {n : ℕ} {a : Result ℕ Refusal} (first : Put t₀ 0 s t₁) (size : length t₀ ≡ length s) where
  pub replaced_tried :
      {bytes t₂ : List ℕ} {p : ℕ} → Put t₁ p bytes t₂ → Tried s t₂ n a after → Tried s (sets s p bytes) n a after
  replaced_tried {bytes} {t₂} {p} w tried =
      subst (λ (t : List ℕ). Tried s t n a after) (w.bytes ∙ ap (λ (l : List ℕ). sets l p bytes) (copied first size)) tried

  pub added_tried :
      (bytes : List ℕ) (m t : ℕ) {u t₂ link t₃ : List ℕ} → u ≡ ending bytes → Put t₁ (m * 40) u t₂ → link ≡ next_bytes m
      → Put t₂ (t * 40) link t₃ → Tried s t₃ n a after → Tried s (appended s m t bytes) n a after
  added_tried bytes m t {u} {t₂} {link} {t₃} new w₂ linked w₃ tried =
      subst (λ (l : List ℕ). Tried s l n a after)
      (w₃.bytes ∙ ap₂ (λ (l word : List ℕ). sets l (t * 40) word) record_put linked) tried
    where
      record_put : t₂ ≡ sets s (m * 40) (ending bytes)
      record_put =
          w₂.bytes ∙ ap (λ (l : List ℕ). sets l (m * 40) u) (copied first size) ∙ ap (sets s (m * 40)) new
