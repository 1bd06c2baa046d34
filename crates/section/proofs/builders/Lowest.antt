-- 01: the lowest number that applies is returned. The builders' numbers ascend, so that the first is the lowest.
use mathlib.Core.List.{List}
use lib.Ieee.{Float}
use Rattle.section.specs.profile.Refusals.{refusal}
use Rattle.section.proofs.profile.Refusals.Ordered.{Lowest, first_is_lowest}
use Rattle.section.specs.builders.Kept.{section_tests, polygon_tests}

module _ (s space : List Float) where
  pub section_lowest : Lowest (section_tests s space) (refusal (section_tests s space))
  section_lowest = first_is_lowest _ tt

  pub polygon_lowest : Lowest (polygon_tests s space) (refusal (polygon_tests s space))
  polygon_lowest = first_is_lowest _ tt
