-- What a builder's answer says of the space that it leaves, and of the front that it hands back. By cases of its number.
use Prim.Native.Nat.{ℕ, ◌/◌}
use mathlib.Core.List.{List}
use mathlib.Core.Path.{◌≡◌, ◌∙◌}
use lib.ListN.{length, take}
use lib.Seq.{take-append_seam}
use lib.Ieee.{Float}
use Rattle.std.specs.Prelude.{Result}
use Rattle.std.specs.Result.{result_unwrap_or}
use Rattle.section.specs.builders.Builder.{section_of, polygon_of, filled}
use Rattle.section.specs.profile.Refusals.{refusal}
use Rattle.section.specs.profile.Replies.{value, turned_down, told}
use Rattle.section.specs.builders.Kept.{section_tests, polygon_tests}
use Rattle.section.specs.builders.Kept.{section_answer, polygon_answer, section_kept, polygon_kept}
use Rattle.section.specs.builders.Steps.{front_kept}
use Rattle.section.specs.declared.shapes.Refusal.{Refusal}
use Rattle.section.proofs.builders.Builders.Closing.{section_whole, polygon_whole}
use Rattle.section.proofs.builders.Builders.Kept.{stays, written_all, handed_long}

-- the front that is handed back
pub handed : (l space : List Float) {k : ℕ} {space' : List Float} → k ≡ length l → space' ≡ filled l space → take k space' ≡ l
unfolding filled
handed l space e q = rw (e, q) (take-append_seam l _)

module _ (s space : List Float) where
  pub section_stays : {m : ℕ} → turned_down m ≡ section_answer s space → space ≡ filled (section_kept s space) space
  unfolding section_answer section_kept
  section_stays {m} a = stays (section_of s) (refusal (section_tests s space)) m space a

  pub section_written : {m : ℕ} → value m ≡ section_answer s space → front_kept (m / 2) (section_of s) space ≡ filled (section_kept s space) space
  unfolding section_answer section_kept
  section_written {m} a = written_all (refusal (section_tests s space)) m (section_of s) space (section_whole s) a

  pub section_long : {k : ℕ} (a : Result ℕ Refusal) → k ≡ result_unwrap_or a 0 → told a ≡ section_answer s space → k ≡ length (section_kept s space)
  unfolding section_answer section_kept
  section_long a e q = e ∙ handed_long (section_of s) a (refusal (section_tests s space)) q

  pub polygon_stays : {m : ℕ} → turned_down m ≡ polygon_answer s space → space ≡ filled (polygon_kept s space) space
  unfolding polygon_answer polygon_kept
  polygon_stays {m} a = stays (polygon_of s) (refusal (polygon_tests s space)) m space a

  pub polygon_written : {m : ℕ} → value m ≡ polygon_answer s space → front_kept (m / 2) (polygon_of s) space ≡ filled (polygon_kept s space) space
  unfolding polygon_answer polygon_kept
  polygon_written {m} a = written_all (refusal (polygon_tests s space)) m (polygon_of s) space (polygon_whole s) a

  pub polygon_long : {k : ℕ} (a : Result ℕ Refusal) → k ≡ result_unwrap_or a 0 → told a ≡ polygon_answer s space → k ≡ length (polygon_kept s space)
  unfolding polygon_answer polygon_kept
  polygon_long a e q = e ∙ handed_long (polygon_of s) a (refusal (polygon_tests s space)) q
